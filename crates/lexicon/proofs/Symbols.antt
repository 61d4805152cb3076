-- When bytes are one symbol, in terms of the run of symbol bytes that the lexer takes.
-- Assumes nothing.
use mathlib.Core.Path.{◌≡◌, refl, sym, ◌∙◌}
use mathlib.Core.Bool.{Bool, true, false, ◌&&◌, false≢true}
use mathlib.Core.List.{List, [], ◌∷◌}
use Prim.Native.Nat.{ℕ, ◌+◌}
use native.Mathlib.Omega.{arith}
use lib.Dec.{eqb}
use lib.ListN.{length, get_or, take, drop}
use borrow.Author.Tests.{eq-eqb, ne_eqb, eqb-true}
use Rattle.utf8.specs.Octets.{utf8}
use Rattle.ground.proofs.Tests.{and-false, both_left, both_right}
use Rattle.lexicon.specs.Class.{digit, other, class_of}
use Rattle.lexicon.specs.Span.{in_symbol, symbol_span}
use Rattle.ground.specs.Lists.{all}
use Rattle.lexicon.specs.Symbol.{one_symbol}
use Rattle.lexicon.proofs.Spans.{all_span, all_take}

module _ (b k : ℕ) (e : k ≡ class_of b) where
  pub in_symbol-other : k ≡ other → true ≡ in_symbol b
  unfolding in_symbol
  in_symbol-other h = rw (eq-eqb (class_of b) other (sym e ∙ h))

  pub in_symbol-digit : (k ≡ other → ⊥) → eqb k digit ≡ in_symbol b
  unfolding in_symbol
  in_symbol-digit h = rw (ne_eqb (class_of b) other (λ x. h (e ∙ x))) (rw e)

as_run : (b : ℕ) (bs : List ℕ) → one_symbol (b ∷ bs) ≡ (eqb (class_of b) other && eqb (symbol_span bs) (length bs) && utf8 (b ∷ bs))
unfolding one_symbol
as_run b bs = rw (all_span in_symbol bs)

pub not-empty : (s : List ℕ) → length s ≡ 0 → false ≡ one_symbol s
unfolding one_symbol
not-empty [] h = refl
not-empty (b ∷ bs) h = absurd (omega arith)

pub not_started : (s : List ℕ) (k : ℕ) → (length s ≡ 0 → ⊥) → k ≡ class_of (get_or s 0 0) → (k ≡ other → ⊥) → false ≡ one_symbol s
not_started [] k l e h = absurd (l refl)
not_started (b ∷ bs) k l e h = rw (as_run b bs) (rw (ne_eqb (class_of b) other (λ x. h (e ∙ x))))

pub not-whole : (s : List ℕ) (n : ℕ) → (length s ≡ 0 → ⊥) → n ≡ 1 + symbol_span (drop 1 s) → (n ≡ length s → ⊥) → false ≡ one_symbol s
not-whole [] n l e h = absurd (l refl)
not-whole (b ∷ bs) n l e h =
    rw (as_run b bs) (rw (ne_eqb (symbol_span bs) (length bs) (λ x. h (omega (arith, e, x)))) (rw (and-false (eqb (class_of b) other))))

pub one-run : (s : List ℕ) (k n : ℕ) (r : Bool) → (length s ≡ 0 → ⊥) → k ≡ class_of (get_or s 0 0) → k ≡ other → n ≡ 1 + symbol_span (drop 1 s) → n ≡ length s
    → r ≡ utf8 s → r ≡ one_symbol s
one-run [] k n r l e h p q u = absurd (l refl)
one-run (b ∷ bs) k n r l e h p q u =
    rw (as_run b bs) (rw (eq-eqb (class_of b) other (sym e ∙ h)) (rw (eq-eqb (symbol_span bs) (length bs) (omega (arith, p, q))) u))

-- one symbol starts as a symbol does, is one run to its end, and is UTF-8
pub one-symbol-starts : (s : List ℕ) → one_symbol s ≡ true → class_of (get_or s 0 0) ≡ other
unfolding one_symbol
one-symbol-starts [] h = absurd (false≢true h)
one-symbol-starts (b ∷ bs) h =
    eqb-true (class_of b) other
    (both_left (eqb (class_of b) other) (all in_symbol bs) (both_left (eqb (class_of b) other && all in_symbol bs) (utf8 (b ∷ bs)) h))

pub one-symbol-utf8 : (s : List ℕ) → one_symbol s ≡ true → utf8 s ≡ true
unfolding one_symbol
one-symbol-utf8 [] h = absurd (false≢true h)
one-symbol-utf8 (b ∷ bs) h = both_right (eqb (class_of b) other && all in_symbol bs) (utf8 (b ∷ bs)) h

pub one-symbol_span : (s : List ℕ) → one_symbol s ≡ true → symbol_span s ≡ length s
unfolding one_symbol all
one-symbol_span [] h = absurd (false≢true h)
one-symbol_span (b ∷ bs) h =
    let w : (eqb (class_of b) other && all in_symbol bs) ≡ true = both_left (eqb (class_of b) other && all in_symbol bs) (utf8 (b ∷ bs)) h in
    let o : class_of b ≡ other = eqb-true (class_of b) other (both_left (eqb (class_of b) other) (all in_symbol bs) w) in
    let a : all in_symbol (b ∷ bs) ≡ true = rw (← in_symbol-other b (class_of b) refl o) (both_right (eqb (class_of b) other) (all in_symbol bs) w) in
    eqb-true (symbol_span (b ∷ bs)) (length (b ∷ bs)) (sym (all_span in_symbol (b ∷ bs)) ∙ a)

-- what the lexer takes where a symbol starts is one, if it is UTF-8
pub one-symbol-taken : (b : ℕ) (bs : List ℕ) → class_of b ≡ other → one_symbol (b ∷ take (symbol_span bs) bs) ≡ utf8 (b ∷ take (symbol_span bs) bs)
unfolding one_symbol
one-symbol-taken b bs h = rw (eq-eqb (class_of b) other h) (rw (all_take in_symbol bs))
