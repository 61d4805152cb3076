-- What is remembered of one node, and that it leaves the others; past the words nothing is.
-- Assumes nothing.
use mathlib.Core.Path.{◌≡◌, refl, sym, ap, ◌∙◌, subst}
use mathlib.Core.Bool.{Bool, true, false}
use mathlib.Core.List.{List}
use Prim.Native.Nat.{ℕ, ◌+◌, ◌*◌, ◌/◌, ◌%◌, ◌^◌, ◌≤◌, ◌<◌}
use native.Mathlib.Nat.{zero-div}
use native.Mathlib.Omega.{arith}
use lib.Dec.{eqb}
use lib.ListN.{length, get_or, set, length-set, get_or-eq_default}
use lib.Seq.{get_or-set_same, get_or-set_other, set_out}
use borrow.Author.Tests.{eqb-true, eqb-false}
use Rattle.ground.proofs.Tests.{by_order, by_test}
use Rattle.words.proofs.Extends.{unit-is}
use Rattle.marks.specs.Mark.{bit, with_bit, marked, remembered}
use Rattle.marks.specs.Kept.{Kept}
use Rattle.marks.proofs.Bits.{bit-set, bit-other, set-cleared, set-fits}

module _ (ms : List ℕ) (node : ℕ) where
  pub marked-is : marked ms node ≡ bit (get_or ms (node / 128) 0) (node / 2 % 64)
  unfolding marked
  marked-is = refl

  pub past-marked : length ms ≤ node / 128 → false ≡ marked ms node
  unfolding marked
  past-marked h = ap (λ (n : ℕ). eqb (n % 2) 1) (sym (zero-div (2 ^ (node / 2 % 64)))) ∙ ap (λ (n : ℕ). bit n (node / 2 % 64)) (sym (get_or-eq_default ms 0 h))

  pub past-remembered : (b : Bool) → length ms ≤ node / 128 → ms ≡ remembered ms node b
  unfolding remembered
  past-remembered b h = sym (set_out ms (node / 128) (with_bit (get_or ms (node / 128) 0) (node / 2 % 64) b) h)

  -- the code's way: the bit taken out of the word, and put in
  module _ (word : ℕ) (e : word ≡ with_bit (get_or ms (node / 128) 0) (node / 2 % 64) false) where
    pub left_out : set ms (node / 128) word ≡ remembered ms node false
    unfolding remembered
    left_out = ap (λ (n : ℕ). set ms (node / 128) n) e

    unit : 1 * 2 ^ (node / 2 % 64) % 2 ^ 64 ≡ 2 ^ (node / 2 % 64)
    unit = unit-is (node / 2 % 64) (omega arith)

    put_in_is : word + 1 * 2 ^ (node / 2 % 64) % 2 ^ 64 ≡ with_bit (get_or ms (node / 128) 0) (node / 2 % 64) true
    put_in_is = ap (λ (n : ℕ). word + n) unit ∙ ap (λ (n : ℕ). n + 2 ^ (node / 2 % 64)) e ∙ set-cleared (get_or ms (node / 128) 0) (node / 2 % 64)

    pub put_in : set ms (node / 128) (word + 1 * 2 ^ (node / 2 % 64) % 2 ^ 64) ≡ remembered ms node true
    unfolding remembered
    put_in = ap (λ (n : ℕ). set ms (node / 128) n) put_in_is

    pub put_in_fits : get_or ms (node / 128) 0 < 2 ^ 64 → word + 1 * 2 ^ (node / 2 % 64) % 2 ^ 64 < 2 ^ 64
    put_in_fits h = subst (λ (n : ℕ). n < 2 ^ 64) (sym put_in_is) (set-fits (get_or ms (node / 128) 0) (node / 2 % 64) h (omega arith))

  module _ (b : Bool) where
    pub long-remembered : length (remembered ms node b) ≡ length ms
    unfolding remembered
    long-remembered = length-set ms (node / 128) (with_bit (get_or ms (node / 128) 0) (node / 2 % 64) b)

    pub here-remembered : node / 128 < length ms → marked (remembered ms node b) node ≡ b
    unfolding marked remembered
    here-remembered h =
        ap (λ (n : ℕ). bit n (node / 2 % 64)) (get_or-set_same ms (node / 128) (with_bit (get_or ms (node / 128) 0) (node / 2 % 64) b) 0 h)
        ∙ bit-set (get_or ms (node / 128) 0) (node / 2 % 64) b

    -- in the same word another bit, or another word
    pub other-remembered : (j : ℕ) → (j / 2 ≡ node / 2 → ⊥) → marked (remembered ms node b) j ≡ marked ms j
    unfolding marked remembered
    other-remembered j other =
        by_order (node / 128) (length ms)
        (λ h. by_test (eqb (j / 128) (node / 128)) (λ e. same_word h (eqb-true _ _ e)) (λ e. ap (λ (n : ℕ). bit n (j / 2 % 64)) (get_or-set_other ms (node / 128) (j / 128) _ 0 (eqb-false _ _ e))))
        (λ h. ap (λ (xs : List ℕ). marked xs j) (sym (past-remembered b h)))
      where
        same_word : node / 128 < length ms → j / 128 ≡ node / 128 → marked (remembered ms node b) j ≡ marked ms j
        same_word h e =
            let apart : j / 2 % 64 ≡ node / 2 % 64 → ⊥ = λ q. other (omega arith) in
            ap (λ (i : ℕ). bit (get_or (set ms (node / 128) (with_bit (get_or ms (node / 128) 0) (node / 2 % 64) b)) i 0) (j / 2 % 64)) e
            ∙ ap (λ (n : ℕ). bit n (j / 2 % 64)) (get_or-set_same ms (node / 128) (with_bit (get_or ms (node / 128) 0) (node / 2 % 64) b) 0 h)
            ∙ bit-other (get_or ms (node / 128) 0) (node / 2 % 64) b (j / 2 % 64) apart
            ∙ ap (λ (i : ℕ). bit (get_or ms i 0) (j / 2 % 64)) (sym e)

    -- of a node inside a part
    pub kept-remembered : (first end : ℕ) → first / 2 ≤ node / 2 → node / 2 < end / 2 → Kept ms (remembered ms node b) first end
    kept-remembered first end h k =
        record {
          long = long-remembered;
          before = λ j l. other-remembered j (λ e. absurd (omega arith));
          behind = λ j l. other-remembered j (λ e. absurd (omega arith));
        }

-- nothing is done, one after the other, and in a part of a part
pub kept-none : (ms : List ℕ) (first end : ℕ) → Kept ms ms first end
kept-none ms first end = record { long = refl; before = λ j l. refl; behind = λ j l. refl }

pub kept_then : {ms ns os : List ℕ} {first end : ℕ} → Kept ms ns first end → Kept ns os first end → Kept ms os first end
kept_then h k = record { long = k.long ∙ h.long; before = λ j l. k.before j l ∙ h.before j l; behind = λ j l. k.behind j l ∙ h.behind j l }

pub kept-wider : {ms ns : List ℕ} {first end : ℕ} (f e : ℕ) → f / 2 ≤ first / 2 → end / 2 ≤ e / 2 → Kept ms ns first end → Kept ms ns f e
kept-wider f e p q h = record { long = h.long; before = λ j l. h.before j (omega arith); behind = λ j l. h.behind j (omega arith) }
