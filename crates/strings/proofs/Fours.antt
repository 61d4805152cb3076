-- Exactly four digits, one after the other: what is left decides as the whole did.
-- Assumes nothing.
use Rattle.std.proofs.Common.{None, Option, Some}
use mathlib.Core.Path.{◌≡◌, refl, sym, ap, ◌∙◌, subst}
use mathlib.Core.Bool.{cond}
use mathlib.Core.List.{List, [], ◌∷◌}
use Prim.Native.Nat.{ℕ, suc, ◌+◌, ◌-◌, ◌*◌, ◌^◌, ◌≤◌, ◌<◌}
use native.Mathlib.Nat.{zero-add}
use native.Mathlib.Omega.{arith}
use lib.Dec.{eqb}
use lib.ListN.{length, get_or, take, drop, drop_of_length-le, length-take, length-drop}
use lib.Pow.{pow_mono, pow-add}
use borrow.Author.Tests.{ne_eqb}
use Rattle.ground.proofs.Lists.{at_place}
use Rattle.ground.proofs.Tests.{by_order}
use Rattle.words.specs.Radix.{worth}
use Rattle.words.specs.Run.{from}
use Rattle.strings.specs.Escape.{hex_run, four_digits}
use Rattle.strings.proofs.Braces.{no_digit, a-digit}
use Rattle.strings.specs.declared.escape.Escape.{Escape}

pub run_le : (s : List ℕ) → length (hex_run s) ≤ length s
unfolding hex_run
run_le [] = omega arith
run_le (b ∷ bs) =
    by_order (worth b) 16
    (λ h. rw (a-digit b bs h) (omega (arith, run_le bs)))
    (λ h. rw (no_digit b bs h) (omega arith))

pub fours_short : (s : List ℕ) (start : ℕ) → length s < start + 4 → None ≡ four_digits (drop start s)
unfolding four_digits
fours_short s start h =
    let e : length (hex_run (take 4 (drop start s))) ≡ 4 → ⊥ = λ q. omega (arith, run_le (take 4 (drop start s)), length-take 4 (drop start s), length-drop start s) in
    rw (ne_eqb _ 4 e)

-- the answer for bytes after k digits that stood for v
pub four_after : ℕ → ℕ → List ℕ → Option Escape
four_after k v s = cond (eqb (k + length (hex_run s)) 4) (Some (record { value = from 16 v s; bytes = 5 })) None

after_none : (s : List ℕ) → four_after 0 0 (take 4 s) ≡ four_digits s
unfolding four_after four_digits
after_none s = rw (zero-add (length (hex_run (take 4 s))))

after-end : (v : ℕ) → four_after 4 v [] ≡ Some (record { value = v; bytes = 5 })
unfolding four_after hex_run from
after-end v = refl

after-other : (k v b : ℕ) (bs : List ℕ) → k < 4 → 16 ≤ worth b → four_after k v (b ∷ bs) ≡ None
unfolding four_after
after-other k v b bs h w = let n : k + 0 ≡ 4 → ⊥ = λ q. omega arith in rw (no_digit b bs w) (rw (ne_eqb (k + 0) 4 n))

after-digit : (k v b : ℕ) (bs : List ℕ) → worth b < 16 → four_after k v (b ∷ bs) ≡ four_after (k + 1) (v * 16 + worth b) bs
unfolding four_after from
after-digit k v b bs w =
    let e : k + suc (length (hex_run bs)) ≡ k + 1 + length (hex_run bs) = omega arith in
    rw (a-digit b bs w) (rw e)

-- the loop: k of the four digits were passed, and stood for v
pub record Fours (four : List ℕ) (answer : Option Escape) (v k : ℕ) : Type 0 where
  pub small : v < 2 ^ (4 * k)
  pub rest : four_after k v (drop k four) ≡ answer

pub fours_start : (s four : List ℕ) (start : ℕ) → four ≡ take (start + 4 - start) (drop start s) → Fours four (four_digits (drop start s)) 0 0
fours_start s four start e =
    let n : start + 4 - start ≡ 4 = omega arith in
    record {
      small = omega arith;
      rest = ap (four_after 0 0) (e ∙ ap (λ (k : ℕ). take k (drop start s)) n) ∙ after_none (drop start s);
    }

module _ (four : List ℕ) (answer : Option Escape) (v k : ℕ) (so : Fours four answer v k) (many : length four ≡ 4) where
  pub fours_done : 4 ≤ k → k ≤ 4 → Some (record { value = v; bytes = 5 }) ≡ answer
  fours_done h g =
      let e : k ≡ 4 = omega arith in
      sym (after-end v)
      ∙ subst (λ (n : ℕ). four_after n v [] ≡ answer) e
      (subst (λ (t : List ℕ). four_after k v t ≡ answer) (drop_of_length-le four (omega arith)) so.rest)

  module _ (less : k < 4) (d : ℕ) (is : d ≡ worth (get_or four k 0)) where
    at_byte : four_after k v (get_or four k 0 ∷ drop (k + 1) four) ≡ answer
    at_byte = subst (λ (t : List ℕ). four_after k v t ≡ answer) (at_place four k (omega arith)) so.rest

    pub fours_other : 16 ≤ d → None ≡ answer
    fours_other h = sym (after-other k v (get_or four k 0) (drop (k + 1) four) less (omega arith)) ∙ at_byte

    pub fours_small : v < 2 ^ 12
    fours_small =
        let p : 2 ^ (4 * k) ≤ 2 ^ 12 = pow_mono {i = 4 * k} {j = 12} (omega arith) in
        omega (arith, so.small)

    pub fours_step : d < 16 → Fours four answer (v * 16 + d) (k + 1)
    fours_step h = record {
      small =
          let e : 4 * (k + 1) ≡ 4 * k + 4 = omega arith in
          let p : 2 ^ (4 * (k + 1)) ≡ 2 ^ (4 * k) * 16 = ap (λ (n : ℕ). 2 ^ n) e ∙ pow-add 2 (4 * k) 4 in
          omega (arith, so.small);
      rest =
          ap (λ (x : ℕ). four_after (k + 1) (v * 16 + x) (drop (k + 1) four)) is
          ∙ sym (after-digit k v (get_or four k 0) (drop (k + 1) four) (omega arith)) ∙ at_byte;
    }

four-at : (s : List ℕ) (i : ℕ) → 4 ≤ length s - i
    → drop i s ≡ get_or s i 0 ∷ get_or s (i + 1) 0 ∷ get_or s (i + 2) 0 ∷ get_or s (i + 3) 0 ∷ drop (i + 4) s
four-at s i h =
    let p : i + 1 + 1 ≡ i + 2 = omega arith in
    let q : i + 2 + 1 ≡ i + 3 = omega arith in
    let r : i + 3 + 1 ≡ i + 4 = omega arith in
    at_place s i (omega arith)
    ∙ ap (λ (t : List ℕ). get_or s i 0 ∷ t)
    (at_place s (i + 1) (omega arith) ∙ ap (λ (n : ℕ). get_or s (i + 1) 0 ∷ drop n s) p
    ∙ ap (λ (t : List ℕ). get_or s (i + 1) 0 ∷ t)
    (at_place s (i + 2) (omega arith) ∙ ap (λ (n : ℕ). get_or s (i + 2) 0 ∷ drop n s) q
    ∙ ap (λ (t : List ℕ). get_or s (i + 2) 0 ∷ t)
    (at_place s (i + 3) (omega arith) ∙ ap (λ (n : ℕ). get_or s (i + 3) 0 ∷ drop n s) r)))

-- four digits, by what each is worth
module _ (s : List ℕ) (i a b c d : ℕ) (room : 4 ≤ length s - i) (pa : a ≡ worth (get_or s i 0)) (pb : b ≡ worth (get_or s (i + 1) 0)) (pc : c ≡ worth (get_or s (i + 2) 0)) (pd : d ≡ worth (get_or s (i + 3) 0)) where
  pub fours_all : a < 16 → b < 16 → c < 16 → d < 16 → Some (record { value = ((a * 16 + b) * 16 + c) * 16 + d; bytes = 5 }) ≡ four_digits (drop i s)
  fours_all f g k h =
      let w = get_or s i 0 in
      let x = get_or s (i + 1) 0 in
      let y = get_or s (i + 2) 0 in
      let z = get_or s (i + 3) 0 in
      let t : take 4 (drop i s) ≡ w ∷ x ∷ y ∷ z ∷ [] = ap (take 4) (four-at s i room) in
      let e : ((a * 16 + b) * 16 + c) * 16 + d ≡ (((0 * 16 + worth w) * 16 + worth x) * 16 + worth y) * 16 + worth z = omega arith in
      ap (λ (n : ℕ). Some (record { value = n; bytes = 5 })) e
      ∙ sym (sym (after_none (drop i s)) ∙ ap (four_after 0 0) t
      ∙ after-digit 0 0 w (x ∷ y ∷ z ∷ []) (omega arith)
      ∙ after-digit 1 (0 * 16 + worth w) x (y ∷ z ∷ []) (omega arith)
      ∙ after-digit 2 ((0 * 16 + worth w) * 16 + worth x) y (z ∷ []) (omega arith)
      ∙ after-digit 3 (((0 * 16 + worth w) * 16 + worth x) * 16 + worth y) z [] (omega arith)
      ∙ after-end ((((0 * 16 + worth w) * 16 + worth x) * 16 + worth y) * 16 + worth z))
