-- Digits put into a buffer, the last one first.
-- Assumes nothing.
use mathlib.Core.Path.{◌≡◌, refl, sym, ap, ◌∙◌}
use mathlib.Core.List.{List, [], ◌∷◌, ◌++◌, append-nil}
use Prim.Native.Nat.{ℕ, zero, suc, ◌+◌, ◌-◌, ◌/◌, ◌%◌, ◌<◌, ◌≤◌}
use native.Mathlib.Numerals.{add-one}
use native.Mathlib.Omega.{arith}
use lib.ListN.{length, get_or, take, drop, set, length-append, length-set, take-append-drop}
use lib.Seq.{take-suc, set_at, length-take-le, append_snoc}
use Rattle.decimals.specs.Decimal.{last_digits}

pub length_digits : (k n : ℕ) → length (last_digits k n) ≡ k
unfolding last_digits
length_digits zero n = refl
length_digits (suc k) n = length-append (last_digits k (n / 10)) ((48 + n % 10) ∷ []) ∙ (rw (length_digits k (n / 10)) (omega arith))

digits_more : (k n : ℕ) → last_digits (k + 1) n ≡ last_digits k (n / 10) ++ ((48 + n % 10) ∷ [])
unfolding last_digits
digits_more k n = rw (add-one k)

no-digits : (n : ℕ) → last_digits 0 n ≡ []
unfolding last_digits
no-digits n = refl

-- by any rule for the last digits of a number: ds are those that stand already, from at on
pub record Putting (last : ℕ → ℕ → List ℕ) (number start end : ℕ) (entry out : List ℕ) (rest at : ℕ) : Type 0 where
  pub ds : List ℕ
  pub low : start ≤ at
  pub high : at ≤ end
  pub long : length out ≡ length entry
  pub holds : out ≡ take at entry ++ (ds ++ drop end entry)
  pub digits : last (at - start) rest ++ ds ≡ last (end - start) number

pub putting_start : (last : ℕ → ℕ → List ℕ) (number start end : ℕ) (entry : List ℕ) → start ≤ end → Putting last number start end entry entry number end
putting_start last number start end entry h = record {
  ds = [];
  low = h;
  high = omega arith;
  long = refl;
  holds = sym (take-append-drop end entry);
  digits = append-nil (last (end - start) number);
}

module _ (last : ℕ → ℕ → List ℕ) (number start end : ℕ) (entry out : List ℕ) (rest at : ℕ) (so : Putting last number start end entry out rest at) where
  module _ (fits : end ≤ length entry) (more : start < at) where
    pub put-within : at - 1 < length out
    put-within = omega (arith, so.long, so.high)

    front : take at entry ≡ take (at - 1) entry ++ (get_or entry (at - 1) 0 ∷ [])
    front =
        let e : at ≡ suc (at - 1) = omega arith in
        let l : at - 1 < length entry = omega (arith, so.high) in
        ap (λ (k : ℕ). take k entry) e ∙ take-suc entry (at - 1) 0 l

    pub putting_step : (d next : ℕ) → ((k : ℕ) → last (k + 1) rest ≡ last k next ++ (d ∷ [])) → Putting last number start end entry (set out (at - 1) d) next (at - 1)
    putting_step d next one_more = record {
      ds = d ∷ so.ds;
      low = omega arith;
      high = omega (arith, so.high);
      long = length-set out (at - 1) d ∙ so.long;
      holds =
          ap (λ (l : List ℕ). set l (at - 1) d)
          (so.holds ∙ ap (λ (l : List ℕ). l ++ (so.ds ++ drop end entry)) front ∙ append_snoc (take (at - 1) entry) (get_or entry (at - 1) 0) (so.ds ++ drop end entry))
          ∙ set_at (take (at - 1) entry) (get_or entry (at - 1) 0) (so.ds ++ drop end entry) d (at - 1) (length-take-le (at - 1) entry (omega (arith, so.high)));
      digits =
          let e : at - start ≡ at - 1 - start + 1 = omega arith in
          sym (append_snoc (last (at - 1 - start) next) d so.ds)
          ∙ ap (λ (l : List ℕ). l ++ so.ds) (sym (ap (λ (k : ℕ). last k rest) e ∙ one_more (at - 1 - start)))
          ∙ so.digits;
    }

  pub putting_end : last 0 rest ≡ [] → at ≤ start → out ≡ take start entry ++ (last (end - start) number ++ drop end entry)
  putting_end none_left h =
      let e : at ≡ start = omega (arith, so.low) in
      let z : at - start ≡ 0 = omega (arith, so.low) in
      let d : so.ds ≡ last (end - start) number = sym (ap (λ (k : ℕ). last k rest ++ so.ds) z ∙ ap (λ (l : List ℕ). l ++ so.ds) none_left) ∙ so.digits in
      so.holds ∙ ap (λ (k : ℕ). take k entry ++ (so.ds ++ drop end entry)) e ∙ ap (λ (l : List ℕ). take start entry ++ (l ++ drop end entry)) d

-- decimal digits
module _ (number start end : ℕ) (entry out : List ℕ) (rest at : ℕ) (so : Putting last_digits number start end entry out rest at) where
  pub digit-step : end ≤ length entry → start < at → Putting last_digits number start end entry (set out (at - 1) (48 + rest % 10)) (rest / 10) (at - 1)
  digit-step fits more = putting_step last_digits number start end entry out rest at so fits more (48 + rest % 10) (rest / 10) (λ k. digits_more k rest)

  pub digits-end : at ≤ start → out ≡ take start entry ++ (last_digits (end - start) number ++ drop end entry)
  digits-end h = putting_end last_digits number start end entry out rest at so (no-digits rest) h
