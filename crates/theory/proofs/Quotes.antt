-- No escape takes a quote, so look-ahead by a form does not see whether quotes are doubled.
-- Assumes nothing.
use Rattle.std.proofs.Common.{None, Option, Some}
use mathlib.Core.Path.{◌≡◌, refl, sym, ap, ◌∙◌}
use mathlib.Core.Bool.{Bool, true, false, cond, not, ◌&&◌, true≢false}
use mathlib.Core.List.{List, [], ◌∷◌}
use Prim.Native.Nat.{ℕ, zero, suc, ◌-◌}
use native.Mathlib.Omega.{arith}
use lib.Dec.{eqb}
use lib.ListN.{length}
use borrow.Author.Tests.{eqb-true, not-true}
use Rattle.ground.proofs.Tests.{by_test, both_left, both_right}
use Rattle.theory.specs.Literal.{quote, Literal, empty, byte, doubled, unquoted}
use Rattle.theory.specs.Theory.{Place, fits, grown, number_by, spelled_by}
use Rattle.theory.proofs.Forms.{taken, by_form, all}

abbrev pub quoteless : List Place → Bool
quoteless [] = true
quoteless (p ∷ ps) = not (fits p quote) && quoteless ps

module _ (p : Place) (ps : List Place) (h : quoteless (p ∷ ps) ≡ true) where
  no-quote : fits p quote ≡ false
  no-quote = not-true (fits p quote) (both_left (not (fits p quote)) (quoteless ps) h)

  others : quoteless ps ≡ true
  others = both_right (not (fits p quote)) (quoteless ps) h

  fitting : (b : ℕ) → fits p b ≡ true → eqb b quote ≡ false
  fitting b t =
      by_test (eqb b quote)
      (λ e. absurd (true≢false (sym t ∙ ap (λ (x : ℕ). fits p x) (eqb-true b quote e) ∙ no-quote)))
      (λ e. e)

same_number : (f : List Place) → quoteless f ≡ true → {s : List ℕ} → Literal s → (n : ℕ) → number_by f n (unquoted s) ≡ number_by f n s
unfolding number_by unquoted
same_number [] q l n = refl
same_number (p ∷ ps) q empty n = refl
same_number (p ∷ ps) q (doubled l) n = rw (no-quote p ps q)
same_number (p ∷ ps) q (byte {b} h k l) n =
    rw k (ap (λ (o : Option ℕ). cond (fits p b) o None) (same_number ps (others p ps q) l (grown n p b)))

-- no quote is among the first k bytes
abbrev pub Clear : ℕ → List ℕ → Type 0
Clear k [] = Unit {0}
Clear zero (b ∷ bs) = Unit {0}
Clear (suc k) (b ∷ bs) = (eqb b quote ≡ false) × Clear k bs

pub clear_none : (s : List ℕ) → Clear 0 s
clear_none [] = tt
clear_none (b ∷ bs) = tt

clear : (f : List Place) (n : ℕ) (s : List ℕ) (x : ℕ) → quoteless f ≡ true → number_by f n s ≡ Some x → Clear (length f) s
unfolding number_by
clear [] n s x q e = clear_none s
clear (p ∷ ps) n [] x q e = tt
clear (p ∷ ps) n (b ∷ bs) x q e =
    let t = taken (fits p b) _ x e in (fitting p ps q b t.0, clear ps (grown n p b) bs x (others p ps q) t.1)

clear-rest : (f : List Place) (b : ℕ) (bs : List ℕ) → Clear (length f) (b ∷ bs) → Clear (length f - 1) bs
clear-rest [] b bs c = clear_none bs
clear-rest (p ∷ ps) b bs c = let e : suc (length ps) - 1 ≡ length ps = omega arith in rw e c.1

-- the same of all forms together
pub same-spelled : (fs : List (List Place)) → all quoteless fs ≡ true → {b : ℕ} {s : List ℕ} → eqb b quote ≡ false → Literal (b ∷ s)
    → spelled_by fs b (unquoted s) ≡ spelled_by fs b s
unfolding spelled_by unquoted
same-spelled [] q k l = refl
same-spelled (f ∷ fs) q {b} {s} k l =
    let e : number_by f 0 (b ∷ unquoted s) ≡ number_by f 0 (b ∷ s) = rw k at (same_number f (both_left (quoteless f) (all quoteless fs) q) l 0) in
    let r = same-spelled fs (both_right (quoteless f) (all quoteless fs) q) k l in
    cc

pub clear-more : (fs : List (List Place)) → all quoteless fs ≡ true → (b : ℕ) (bs : List ℕ) → Clear (spelled_by fs b bs).more bs
unfolding spelled_by
clear-more [] q b bs = clear_none bs
clear-more (f ∷ fs) q b bs =
    by_form (λ c. Clear c.more bs) f fs b bs
    (λ x e. clear-rest f b bs (clear f 0 (b ∷ bs) x (both_left (quoteless f) (all quoteless fs) q) e))
    (λ e. clear-more fs (both_right (quoteless f) (all quoteless fs) q) b bs)
