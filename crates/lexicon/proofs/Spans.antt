-- The bytes that come first and pass a test, whatever the test is.
-- Assumes nothing.
use mathlib.Core.Path.{◌≡◌, refl, sym, ap, ◌∙◌}
use mathlib.Core.Bool.{Bool, true, false}
use mathlib.Core.List.{List, [], ◌∷◌}
use Prim.Native.Nat.{ℕ, zero, suc, max, ◌+◌, ◌≤◌, ◌<◌}
use native.Mathlib.Omega.{arith}
use lib.Dec.{eqb, eqb-suc-suc, eqb-zero-suc}
use lib.ListN.{length, get_or, take, drop, drop_of_length-le, length-drop}
use Rattle.ground.proofs.Lists.{at_place}
use Rattle.ground.proofs.Tests.{by_order, by_test}
use borrow.Author.Tests.{eq-eqb, ne_eqb}
use Rattle.lexicon.specs.Span.{span_by, in_line}
use Rattle.ground.specs.Lists.{all}

module _ (test : ℕ → Bool) where
  passes : (b : ℕ) (bs : List ℕ) → test b ≡ true → span_by test (b ∷ bs) ≡ suc (span_by test bs)
  unfolding span_by
  passes b bs e = rw e

  fails : (b : ℕ) (bs : List ℕ) → test b ≡ false → span_by test (b ∷ bs) ≡ 0
  unfolding span_by
  fails b bs e = rw e

  none : span_by test [] ≡ 0
  unfolding span_by
  none = refl

  pub span_le : (s : List ℕ) → span_by test s ≤ length s
  span_le [] = omega (arith, none)
  span_le (b ∷ bs) =
      by_test (test b) (λ e. omega (arith, passes b bs e, span_le bs)) (λ e. omega (arith, fails b bs e))

  -- each byte of the run passes
  pub span_at : (s : List ℕ) (i : ℕ) → i < span_by test s → test (get_or s i 0) ≡ true
  span_at [] i h = absurd (omega (arith, none))
  span_at (b ∷ bs) zero h = by_test (test b) (λ e. e) (λ e. absurd (omega (arith, fails b bs e)))
  span_at (b ∷ bs) (suc i) h =
      by_test (test b) (λ e. span_at bs i (omega (arith, passes b bs e))) (λ e. absurd (omega (arith, fails b bs e)))

  -- and the byte after it, if there is one, does not
  pub span_next : (s : List ℕ) → span_by test s < length s → test (get_or s (span_by test s) 0) ≡ false
  span_next [] h = absurd (omega arith)
  span_next (b ∷ bs) h =
      by_test (test b)
      (λ e. rw (passes b bs e) (span_next bs (omega (arith, passes b bs e))))
      (λ e. rw (fails b bs e) e)

  -- the run is the whole exactly if each byte passes
  pub all_span : (s : List ℕ) → all test s ≡ eqb (span_by test s) (length s)
  unfolding all span_by
  all_span [] = refl
  all_span (b ∷ bs) =
      by_test (test b)
      (λ e. rw e (all_span bs ∙ sym (eqb-suc-suc (span_by test bs) (length bs))))
      (λ e. rw e (sym (eqb-zero-suc (length bs))))

  pub all_take : (s : List ℕ) → all test (take (span_by test s) s) ≡ true
  unfolding all span_by
  all_take [] = refl
  all_take (b ∷ bs) = by_test (test b) (λ e. rw e (rw e (all_take bs))) (λ e. rw e)

  module _ (s : List ℕ) (i : ℕ) where
    pub span_end_le : i ≤ length s → i + span_by test (drop i s) ≤ length s
    span_end_le h = omega (arith, span_le (drop i s), length-drop i s)

    -- a run from a start on, at a place that it has reached: it goes on, stops, or ends with the bytes
    pub span_goes : (n : ℕ) → n ≡ i + span_by test (drop i s) → i < length s → test (get_or s i 0) ≡ true → n ≡ i + 1 + span_by test (drop (i + 1) s)
    span_goes n r h e =
        omega (arith, r, ap (span_by test) (at_place s i h), passes (get_or s i 0) (drop (i + 1) s) e)

    pub span_stops : (n : ℕ) → n ≡ i + span_by test (drop i s) → i < length s → test (get_or s i 0) ≡ false → i ≡ n
    span_stops n r h e =
        omega (arith, r, ap (span_by test) (at_place s i h), fails (get_or s i 0) (drop (i + 1) s) e)

    pub span_ends : (n : ℕ) → n ≡ i + span_by test (drop i s) → length s ≤ i → i ≡ n
    span_ends n r h = omega (arith, r, ap (span_by test) (drop_of_length-le s h), none)

    -- where all bytes from a start on pass, the run ends with them, or at the start if that is behind them
    pub span_last : (start m : ℕ) → start + span_by test (drop start s) ≡ i + span_by test (drop i s) → length s ≤ i → (start ≤ length s → i ≤ length s) → m ≡ max start (length s)
        → m ≡ start + span_by test (drop start s)
    span_last start m r h within e =
        by_order (length s) start
        (λ past. omega (arith, e, ap (span_by test) (drop_of_length-le s {i = start} (omega arith)), none))
        (λ less. omega (arith, e, within less, span_ends _ r h))

-- what a comment's own test says
pub line-ends : (b : ℕ) → b ≡ 0x0A → in_line b ≡ false
unfolding in_line
line-ends b h = rw (eq-eqb b 0x0A h)

pub line-goes : (b : ℕ) → (b ≡ 0x0A → ⊥) → in_line b ≡ true
unfolding in_line
line-goes b h = rw (ne_eqb b 0x0A h)
