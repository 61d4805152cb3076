-- The inside of a string, up to the quote that closes it.
-- Assumes nothing.
use mathlib.Core.Path.{◌≡◌, refl, sym, ap, ◌∙◌}
use mathlib.Core.List.{List, [], ◌∷◌}
use Prim.Native.Nat.{ℕ, suc, ◌+◌, ◌-◌, ◌≤◌, ◌<◌}
use native.Mathlib.Omega.{arith}
use lib.Dec.{eqb}
use lib.ListN.{length, get_or, drop, drop_of_length-le, length-drop}
use borrow.Author.Tests.{lt-ltb, le-ltb, eq-eqb, ne_eqb}
use Rattle.ground.proofs.Lists.{at_place}
use Rattle.ground.proofs.Tests.{by_test}
use Rattle.tokens.specs.declared.lexeme.Kind.TheVariants.{Quoted, Unclosed}
use Rattle.tokens.specs.Lexeme.{lexeme, inside, after_quote}

passed : (b : ℕ) (s : List ℕ) → (b ≡ 0x22 → ⊥) → inside (b ∷ s) ≡ suc (inside s)
unfolding inside
passed b [] h = rw (ne_eqb b 0x22 h)
passed b (c ∷ cs) h = rw (ne_eqb b 0x22 h)

last : (b : ℕ) → b ≡ 0x22 → inside (b ∷ []) ≡ 0
unfolding inside
last b h = rw (eq-eqb b 0x22 h)

closing : (b c : ℕ) (s : List ℕ) → b ≡ 0x22 → (c ≡ 0x22 → ⊥) → inside (b ∷ c ∷ s) ≡ 0
unfolding inside
closing b c s h k = rw (eq-eqb b 0x22 h) (rw (ne_eqb c 0x22 k))

doubled : (b c : ℕ) (s : List ℕ) → b ≡ 0x22 → c ≡ 0x22 → inside (b ∷ c ∷ s) ≡ suc (suc (inside s))
unfolding inside
doubled b c s h k = rw (eq-eqb b 0x22 h) (rw (eq-eqb c 0x22 k))

none : inside [] ≡ 0
unfolding inside
none = refl

pub inside_le : (s : List ℕ) → inside s ≤ length s
unfolding inside
inside_le [] = omega arith
inside_le (b ∷ []) = by_test (eqb b 0x22) (λ t. rw t (omega arith)) (λ t. rw t (omega arith))
inside_le (b ∷ c ∷ cs) =
    by_test (eqb b 0x22)
    (λ t. rw t (by_test (eqb c 0x22) (λ u. rw u (omega (arith, inside_le cs))) (λ u. rw u (omega arith))))
    (λ t. rw t (omega (arith, inside_le (c ∷ cs))))

-- the loop: from the start and from the place reached, the end is the same
pub record Inside (s : List ℕ) (start at : ℕ) : Type 0 where
  pub within : at ≤ length s
  pub same : at + inside (drop at s) ≡ start + inside (drop start s)

pub inside-start : (s : List ℕ) (start : ℕ) → start ≤ length s → Inside s start start
inside-start s start h = record { within = h; same = refl }

pub inside-end : (s : List ℕ) (start at : ℕ) → Inside s start at → length s ≤ at → at ≡ start + inside (drop start s)
inside-end s start at so h = omega (arith, so.same, ap inside (drop_of_length-le s h), none)

module _ (s : List ℕ) (start at : ℕ) (so : Inside s start at) (less : at < length s) where
  pub inside-passed : (get_or s at 0 ≡ 0x22 → ⊥) → Inside s start (at + 1)
  inside-passed h = record {
    within = omega arith;
    same = omega (arith, so.same, ap inside (at_place s at less), passed (get_or s at 0) (drop (at + 1) s) h);
  }

  module _ (q : get_or s at 0 ≡ 0x22) where
    pub inside-last : length s ≤ at + 1 → at ≡ start + inside (drop start s)
    inside-last h =
        omega (arith, so.same, ap inside (at_place s at less ∙ ap (λ (t : List ℕ). get_or s at 0 ∷ t) (drop_of_length-le s h)), last (get_or s at 0) q)

    module _ (more : at + 1 < length s) where
      two : drop at s ≡ get_or s at 0 ∷ get_or s (at + 1) 0 ∷ drop (at + 2) s
      two =
          let e : at + 1 + 1 ≡ at + 2 = omega arith in
          at_place s at less ∙ ap (λ (t : List ℕ). get_or s at 0 ∷ t) (at_place s (at + 1) more ∙ ap (λ (n : ℕ). get_or s (at + 1) 0 ∷ drop n s) e)

      pub inside-closed : (get_or s (at + 1) 0 ≡ 0x22 → ⊥) → at ≡ start + inside (drop start s)
      inside-closed h = omega (arith, so.same, ap inside two, closing (get_or s at 0) (get_or s (at + 1) 0) (drop (at + 2) s) q h)

      pub inside-doubled : get_or s (at + 1) 0 ≡ 0x22 → Inside s start (at + 2)
      inside-doubled h = record {
        within = omega arith;
        same = omega (arith, so.same, ap inside two, doubled (get_or s at 0) (get_or s (at + 1) 0) (drop (at + 2) s) q h);
      }

-- after the opening quote
module _ (s : List ℕ) (start e : ℕ) (h : start ≤ length s) (is : e ≡ start + inside (drop start s)) where
  pub quote-inside : (start ≤ e) × (e ≤ length s)
  quote-inside = (omega arith, omega (arith, inside_le (drop start s), length-drop start s))

  pub quote_open : length s ≤ e → lexeme Unclosed 0 0 (1 + (length s - start)) ≡ after_quote (drop start s)
  quote_open k =
      rw (le-ltb (inside (drop start s)) (length (drop start s)) (omega (arith, length-drop start s)))
      (ap (λ (n : ℕ). lexeme Unclosed 0 0 (1 + n)) (sym (length-drop start s)))

  pub quote-shut : e < length s → lexeme Quoted 1 (e - start) (e - start + 2) ≡ after_quote (drop start s)
  quote-shut k =
      let q : e - start ≡ inside (drop start s) = omega arith in
      rw (lt-ltb (inside (drop start s)) (length (drop start s)) (omega (arith, length-drop start s)))
      (ap (λ (n : ℕ). lexeme Quoted 1 n (n + 2)) q)
