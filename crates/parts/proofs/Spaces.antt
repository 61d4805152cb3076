-- A comment's text with a space for each line feed, copied byte by byte.
-- Assumes nothing.
use mathlib.Core.Path.{◌≡◌, refl, sym, ap, ◌∙◌, subst}
use mathlib.Core.List.{List, [], ◌∷◌, map}
use Prim.Native.Nat.{ℕ, zero, suc, ◌+◌, ◌≤◌, ◌<◌}
use native.Mathlib.Nat.{le_of_suc-le-suc, not-suc-le-zero}
use native.Mathlib.Omega.{arith}
use lib.ListN.{length, get_or, set}
use Rattle.lent.specs.Put.{Fronts}
use Rattle.lent.proofs.Copies.{Copying, copying-step, copying-end}
use Rattle.parts.specs.Texts.{spaced}

pub length-spaced : (text : List ℕ) → length (map spaced text) ≡ length text
length-spaced [] = refl
length-spaced (b ∷ bs) = ap suc (length-spaced bs)

spaced-at : (text : List ℕ) (at : ℕ) → at < length text → get_or (map spaced text) at 0 ≡ spaced (get_or text at 0)
spaced-at [] at h = absurd (not-suc-le-zero h)
spaced-at (b ∷ bs) zero h = refl
spaced-at (b ∷ bs) (suc at) h = spaced-at bs at (le_of_suc-le-suc h)

module _ (text entry out : List ℕ) (at : ℕ) (so : Copying (map spaced text) entry out at) (less : at < length text) where
  less' : at < length (map spaced text)
  less' = omega (arith, length-spaced text)

  pub spacing_step : (byte : ℕ) → byte ≡ spaced (get_or text at 0) → Copying (map spaced text) entry (set out at byte) (at + 1)
  spacing_step byte e = subst (λ (b : ℕ). Copying (map spaced text) entry (set out at b) (at + 1)) (spaced-at text at less ∙ sym e) (copying-step (map spaced text) entry out at so less')

pub spacing_end : (text entry out : List ℕ) (at : ℕ) → Copying (map spaced text) entry out at → length text ≤ at → Fronts (map spaced text) entry out (length text)
spacing_end text entry out at so past =
    let f = copying-end (map spaced text) entry out at so (omega (arith, length-spaced text)) in
    record { long = sym (length-spaced text); holds = f.holds }
