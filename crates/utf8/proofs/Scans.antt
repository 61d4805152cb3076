-- The loop over sequences, and the bytes after a lead.
-- Assumes nothing.
use Rattle.std.proofs.Common.{None, Some}
use mathlib.Core.Path.{◌≡◌, refl, sym, ap, ◌∙◌}
use mathlib.Core.Bool.{Bool, true, false, cond, ◌&&◌}
use mathlib.Core.List.{List, [], ◌∷◌}
use Prim.Native.Nat.{ℕ, suc, ◌+◌, ◌-◌, ◌≤◌, ◌<◌}
use native.Mathlib.Omega.{arith}
use lib.ListN.{length, drop, replicate, length-drop, drop_of_length-le}
use lib.Seq.{drop-drop}
use Rattle.utf8.specs.Rows.{Span, tail, rows}
use Rattle.utf8.specs.Octets.{within, starts_with, width, octets, utf8}
use Rattle.utf8.proofs.Concatenations.{octets-step, octets-stuck, width_le, fits}

-- the octets before i are whole sequences
pub record Passed (s : List ℕ) (i : ℕ) : Type 0 where
  pub upto : i ≤ length s
  pub rest : octets 0 (drop i s) ≡ utf8 s

pub passed_start : (s : List ℕ) → Passed s 0
unfolding utf8
passed_start s = record { upto = omega arith; rest = refl }

module _ (s : List ℕ) (i n : ℕ) (less : i < length s) (is : n ≡ width rows (drop i s)) where
  pub passed-within : i + n ≤ length s
  passed-within = omega (arith, width_le rows (drop i s), length-drop i s)

  pub passed-step : 0 < n → Passed s i → Passed s (i + n)
  passed-step more h =
      let p : 0 < width rows (drop i s) = omega arith in
      record {
        upto = passed-within;
        rest =
            ap (λ (l : List ℕ). octets 0 l) (sym (drop-drop n i s)) ∙ ap (λ (k : ℕ). octets 0 (drop k (drop i s))) is
            ∙ sym (octets-step (drop i s) p) ∙ h.rest;
      }

pub passed-stuck : (s : List ℕ) (i : ℕ) → i < length s → width rows (drop i s) ≡ 0 → Passed s i → false ≡ utf8 s
passed-stuck s i less e h = sym (octets-stuck (drop i s) (omega (arith, length-drop i s)) e) ∙ h.rest

pub passed-end : (s : List ℕ) (i : ℕ) → length s ≤ i → Passed s i → true ≡ utf8 s
unfolding octets
passed-end s i past h = ap (λ (l : List ℕ). octets 0 l) (sym (drop_of_length-le s past)) ∙ h.rest

-- a row is its first octet and the rest
split : (p : Span) (ps : List Span) (s : List ℕ) → starts_with (p ∷ ps) s ≡ (starts_with (p ∷ []) s && starts_with ps (drop 1 s))
split p ps [] = refl
split p ps (b ∷ bs) = go (within p b)
  where
    go : (t : Bool) → (t && starts_with ps bs) ≡ (t && true && starts_with ps bs)
    go true = refl
    go false = refl

module _ (p : Span) (ps : List Span) (s : List ℕ) (j : ℕ) where
  next : true ≡ starts_with (p ∷ []) (drop j s) → starts_with (p ∷ ps) (drop j s) ≡ starts_with ps (drop (j + 1) s)
  next h =
      split p ps (drop j s) ∙ ap (λ (t : Bool). t && starts_with ps (drop 1 (drop j s))) (sym h)
      ∙ ap (λ (l : List ℕ). starts_with ps l) (drop-drop 1 j s)

  stops : false ≡ starts_with (p ∷ []) (drop j s) → starts_with (p ∷ ps) (drop j s) ≡ false
  stops h = split p ps (drop j s) ∙ ap (λ (t : Bool). t && starts_with ps (drop 1 (drop j s))) (sym h)

  pub there : true ≡ starts_with (p ∷ []) (drop j s) → j < length s
  there h = omega (arith, fits (p ∷ []) (drop j s) (sym h), length-drop j s)

-- of a row whose test is w, tails are left to be looked at from j to a place
pub tails_start : (s : List ℕ) (p : Span) (i left : ℕ) → true ≡ starts_with (p ∷ []) (drop (i + 1) s)
    → starts_with (p ∷ replicate left tail) (drop (i + 1) s) ≡ starts_with (replicate (i + 2 + left - (i + 2)) tail) (drop (i + 2) s)
tails_start s p i left h =
    let e : i + 1 + 1 ≡ i + 2 = omega arith in
    let f : i + 2 + left - (i + 2) ≡ left = omega arith in
    rw f (next p (replicate left tail) s (i + 1) h ∙ ap (λ (k : ℕ). starts_with (replicate left tail) (drop k s)) e)

module _ (s : List ℕ) (w : Bool) (j end : ℕ) (h : w ≡ starts_with (replicate (end - j) tail) (drop j s)) where
  one_more : j < end → w ≡ starts_with (tail ∷ replicate (end - (j + 1)) tail) (drop j s)
  one_more l =
      let e : end - j ≡ suc (end - (j + 1)) = omega arith in
      h ∙ ap (λ (n : ℕ). starts_with (replicate n tail) (drop j s)) e

  pub tails_step : j < end → true ≡ starts_with (tail ∷ []) (drop j s) → w ≡ starts_with (replicate (end - (j + 1)) tail) (drop (j + 1) s)
  tails_step l g = one_more l ∙ next tail (replicate (end - (j + 1)) tail) s j g

  pub tails_stop : (n : ℕ) → j < end → false ≡ starts_with (tail ∷ []) (drop j s) → None ≡ cond w (Some n) None
  tails_stop n l g = sym (ap (λ (t : Bool). cond t (Some n) None) (one_more l ∙ stops tail (replicate (end - (j + 1)) tail) s j g))

  pub tails_end : (n : ℕ) → end ≤ j → Some n ≡ cond w (Some n) None
  tails_end n past =
      let e : end - j ≡ 0 = omega arith in
      sym (ap (λ (t : Bool). cond t (Some n) None) (h ∙ ap (λ (k : ℕ). starts_with (replicate k tail) (drop j s)) e))

pub row-stops : (s : List ℕ) (p : Span) (i left n : ℕ) → false ≡ starts_with (p ∷ []) (drop (i + 1) s)
    → None ≡ cond (starts_with (p ∷ replicate left tail) (drop (i + 1) s)) (Some n) None
row-stops s p i left n h = sym (ap (λ (t : Bool). cond t (Some n) None) (stops p (replicate left tail) s (i + 1) h))
