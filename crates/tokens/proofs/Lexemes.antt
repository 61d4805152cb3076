-- What stands at a place, by the bytes that the code looks at.
-- Assumes nothing.
use mathlib.Core.Path.{◌≡◌, sym, ap, ◌∙◌}
use mathlib.Core.List.{List, ◌∷◌}
use Prim.Native.Nat.{ℕ, ◌+◌, ◌-◌, ◌≤◌, ◌<◌}
use native.Mathlib.Omega.{arith}
use lib.ListN.{length, get_or, drop, drop_of_length-le}
use borrow.Author.Tests.{eq-eqb, ne_eqb}
use Rattle.ground.proofs.Lists.{at_place}
use Rattle.words.specs.declared.digits.Radix.TheVariants.{Binary, Decimal, Hexadecimal}
use Rattle.lexicon.specs.Class.{class_of}
use Rattle.lexicon.specs.Span.{symbol_span, line_span}
use Rattle.tokens.specs.declared.lexeme.Kind.TheVariants.{Blank, Opening, Closing, Number, Name, Stray}
use Rattle.tokens.specs.declared.lexeme.Lexeme.{Lexeme}
use Rattle.tokens.specs.Lexeme.{lexeme, single, run_span, after_quote, bit_vector, after_hash, whole, by_class, lexeme_at}

module _ (s : List ℕ) (i : ℕ) where
  pub hash-end : {r : Lexeme} → r ≡ single Stray → length s ≤ i → r ≡ after_hash (drop i s)
  hash-end q h = q ∙ sym (ap after_hash (drop_of_length-le s h))

  module _ (less : i < length s) where
    here : {r : Lexeme} → r ≡ after_hash (get_or s i 0 ∷ drop (i + 1) s) → r ≡ after_hash (drop i s)
    here q = q ∙ ap after_hash (sym (at_place s i less))

    pub hash-binary : {r : Lexeme} → r ≡ bit_vector Binary (drop (i + 1) s) → get_or s i 0 ≡ 0x62 → r ≡ after_hash (drop i s)
    hash-binary q h = here (q ∙ sym (rw (eq-eqb (get_or s i 0) 0x62 h)))

    pub hash-hex : {r : Lexeme} → r ≡ bit_vector Hexadecimal (drop (i + 1) s) → (get_or s i 0 ≡ 0x62 → ⊥) → get_or s i 0 ≡ 0x78 → r ≡ after_hash (drop i s)
    hash-hex q h k = here (q ∙ sym (rw (ne_eqb (get_or s i 0) 0x62 h) (rw (eq-eqb (get_or s i 0) 0x78 k))))

    pub hash-other : {r : Lexeme} → r ≡ single Stray → (get_or s i 0 ≡ 0x62 → ⊥) → (get_or s i 0 ≡ 0x78 → ⊥) → r ≡ after_hash (drop i s)
    hash-other q h k = here (q ∙ sym (rw (ne_eqb (get_or s i 0) 0x62 h) (rw (ne_eqb (get_or s i 0) 0x78 k))))

pub comment-is : (s : List ℕ) (at e : ℕ) → e ≡ at + 1 + line_span (drop (at + 1) s) → lexeme Blank 0 0 (e - at) ≡ lexeme Blank 0 0 (1 + line_span (drop (at + 1) s))
comment-is s at e h = let q : e - at ≡ 1 + line_span (drop (at + 1) s) = omega arith in ap (λ (n : ℕ). lexeme Blank 0 0 n) q

-- by the class of the first byte, in the order of the tests
module _ (s : List ℕ) (at k : ℕ) (less : at < length s) (is : k ≡ class_of (get_or s at 0)) where
  found : {r : Lexeme} → r ≡ by_class k (get_or s at 0) (drop (at + 1) s) → r ≡ lexeme_at (drop at s)
  unfolding lexeme_at
  found q = q ∙ ap (λ (c : ℕ). by_class c (get_or s at 0) (drop (at + 1) s)) is ∙ ap lexeme_at (sym (at_place s at less))

  module _ {r : Lexeme} where
    pub at-blank : r ≡ single Blank → k ≡ 0 → r ≡ lexeme_at (drop at s)
    at-blank q h = found (q ∙ sym (rw (eq-eqb k 0 h)))

    module _ (n0 : k ≡ 0 → ⊥) where
      pub at-opening : r ≡ single Opening → k ≡ 1 → r ≡ lexeme_at (drop at s)
      at-opening q h = found (q ∙ sym (rw (ne_eqb k 0 n0, eq-eqb k 1 h)))

      module _ (n1 : k ≡ 1 → ⊥) where
        pub at-closing : r ≡ single Closing → k ≡ 2 → r ≡ lexeme_at (drop at s)
        at-closing q h = found (q ∙ sym (rw (ne_eqb k 0 n0, ne_eqb k 1 n1, eq-eqb k 2 h)))

        module _ (n2 : k ≡ 2 → ⊥) where
          pub at-comment : r ≡ lexeme Blank 0 0 (1 + line_span (drop (at + 1) s)) → k ≡ 3 → r ≡ lexeme_at (drop at s)
          at-comment q h = found (q ∙ sym (rw (ne_eqb k 0 n0, ne_eqb k 1 n1, ne_eqb k 2 n2, eq-eqb k 3 h)))

          module _ (n3 : k ≡ 3 → ⊥) where
            pub at-quote : r ≡ after_quote (drop (at + 1) s) → k ≡ 4 → r ≡ lexeme_at (drop at s)
            at-quote q h = found (q ∙ sym (rw (ne_eqb k 0 n0, ne_eqb k 1 n1, ne_eqb k 2 n2, ne_eqb k 3 n3, eq-eqb k 4 h)))

            module _ (n4 : k ≡ 4 → ⊥) where
              pub at-hash : r ≡ after_hash (drop (at + 1) s) → k ≡ 5 → r ≡ lexeme_at (drop at s)
              at-hash q h = found (q ∙ sym (rw (ne_eqb k 0 n0, ne_eqb k 1 n1, ne_eqb k 2 n2, ne_eqb k 3 n3, ne_eqb k 4 n4, eq-eqb k 5 h)))

              module _ (n5 : k ≡ 5 → ⊥) where
                pub at-digit : (e : ℕ) → r ≡ whole Number (e - at) → e ≡ at + run_span Decimal (drop at s) → k ≡ 6 → r ≡ lexeme_at (drop at s)
                at-digit e q p h =
                    let m : e - at ≡ run_span Decimal (drop at s) = omega arith in
                    found (q ∙ ap (whole Number) (m ∙ ap (run_span Decimal) (at_place s at less))
                    ∙ sym (rw (ne_eqb k 0 n0, ne_eqb k 1 n1, ne_eqb k 2 n2, ne_eqb k 3 n3, ne_eqb k 4 n4, ne_eqb k 5 n5, eq-eqb k 6 h)))

                pub at_other : (e : ℕ) → r ≡ whole Name (e - at) → e ≡ at + symbol_span (drop at s) → (k ≡ 6 → ⊥) → r ≡ lexeme_at (drop at s)
                at_other e q p h =
                    let m : e - at ≡ symbol_span (drop at s) = omega arith in
                    found (q ∙ ap (whole Name) (m ∙ ap symbol_span (at_place s at less))
                    ∙ sym (rw (ne_eqb k 0 n0, ne_eqb k 1 n1, ne_eqb k 2 n2, ne_eqb k 3 n3, ne_eqb k 4 n4, ne_eqb k 5 n5, ne_eqb k 6 h)))
