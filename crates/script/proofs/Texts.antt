-- Pieces written one after the other, and asked one after the other whether one is too long.
-- Assumes nothing.
use Rattle.std.proofs.Common.{Bor}
use Rattle.std.specs.List.{concat, list_any}
use mathlib.Core.Path.{◌≡◌, refl, sym, ap, ◌∙◌, subst}
use mathlib.Core.Bool.{Bool, true, false, ◌||◌, true≢false}
use mathlib.Core.List.{List, [], ◌∷◌, ◌++◌, map, append_assoc}
use Prim.Native.Nat.{ℕ, ◌+◌, ◌*◌, ◌≤◌, ◌<◌}
use native.Mathlib.Numerals.{add-one}
use native.Mathlib.Omega.{arith}
use lib.ListN.{length, get_or, drop, length-append, drop_of_length-le}
use lib.Seq.{drop-cons}
use lib.Dec.{ltb}
use borrow.Author.Tests.{lt-ltb, le-ltb}
use Rattle.ground.specs.Lists.{any}
use Rattle.ground.proofs.Tests.{by_order}
use Rattle.refusals.specs.Limit.{input_limit}
use Rattle.parts.specs.Limit.{too_long}
use Rattle.lent.specs.Put.{Offers}
use Rattle.lent.proofs.Offers.{Onwards, onwards-start, onwards-step, onwards-end}

-- what the pieces read
abbrev pub texts : List (Bor (List ℕ)) → List (List ℕ)
texts pieces = map (λ (piece : Bor (List ℕ)). piece.now) pieces

-- what the pieces from a place on read
pub texts_next : (pieces : List (Bor (List ℕ))) (i : ℕ) (d : Bor (List ℕ)) → i < length pieces → texts (drop i pieces) ≡ (get_or pieces i d).now ∷ texts (drop (i + 1) pieces)
texts_next pieces i d less = rw (add-one i) (ap texts (drop-cons pieces i d less))

-- the loop that writes them
module _ (entry : List ℕ) (at : ℕ) (pieces : List (Bor (List ℕ))) where
  pub writing_start : Onwards entry at (concat (texts pieces)) entry at (concat (texts pieces))
  writing_start = onwards-start entry (concat (texts pieces)) at

  pub writing_step : (d d' : List ℕ) (to to' i : ℕ) (other : Bor (List ℕ)) → i < length pieces → Onwards entry at (concat (texts pieces)) d to (concat (texts (drop i pieces)))
      → Offers d d' to (get_or pieces i other).now to' → Onwards entry at (concat (texts pieces)) d' to' (concat (texts (drop (i + 1) pieces)))
  writing_step d d' to to' i other less so p =
      onwards-step entry (concat (texts pieces)) at d d' (get_or pieces i other).now (concat (texts (drop (i + 1) pieces))) to to'
      (subst (λ (l : List (List ℕ)). Onwards entry at (concat (texts pieces)) d to (concat l)) (texts_next pieces i other less) so) p

  pub writing_end : (d : List ℕ) (to i : ℕ) → length pieces ≤ i → Onwards entry at (concat (texts pieces)) d to (concat (texts (drop i pieces))) → Offers entry d at (concat (texts pieces)) to
  writing_end d to i past so =
      onwards-end entry (concat (texts pieces)) at d to
      (subst (λ (l : List (Bor (List ℕ))). Onwards entry at (concat (texts pieces)) d to (concat (texts l))) (drop_of_length-le pieces {i = i} past) so)

-- a piece, and the size of it that is too long or not
piece-long : (text : List ℕ) (rest : List (List ℕ)) (r : Bool) → r ≡ (ltb input_limit (length text) || false) → r ≡ true → too_long (text ∷ rest) ≡ true
unfolding too_long any
piece-long text rest r e over =
    by_order input_limit (length text)
    (λ more. rw (lt-ltb input_limit (length text) more) refl)
    (λ less. absurd (true≢false (sym over ∙ e ∙ rw (le-ltb input_limit (length text) less) refl)))

piece-short : (text : List ℕ) (r : Bool) → r ≡ (ltb input_limit (length text) || false) → r ≡ false → length text ≤ input_limit
piece-short text r e kept =
    by_order input_limit (length text)
    (λ more. absurd (true≢false (sym (e ∙ rw (lt-ltb input_limit (length text) more) refl) ∙ kept)))
    (λ less. less)

piece_passed : (text : List ℕ) (rest : List (List ℕ)) → length text ≤ input_limit → too_long (text ∷ rest) ≡ too_long rest
unfolding too_long any
piece_passed text rest less = rw (le-ltb input_limit (length text) less) refl

-- the loop that asks how long the pieces are
pub record Measuring (pieces : List (Bor (List ℕ))) (i need : ℕ) : Type 0 where
  pub none : too_long (texts pieces) ≡ too_long (texts (drop i pieces))
  pub long : need + length (concat (texts (drop i pieces))) ≡ length (concat (texts pieces))
  pub most : need ≤ i * input_limit

pub measuring_start : (pieces : List (Bor (List ℕ))) → Measuring pieces 0 0
measuring_start pieces = record { none = refl; long = omega arith; most = omega arith }

module _ (pieces : List (Bor (List ℕ))) (i need : ℕ) (other : Bor (List ℕ)) (r : Bool) (less : i < length pieces) (so : Measuring pieces i need) (e : r ≡ (ltb input_limit (length (get_or pieces i other).now) || false)) where
  pub measuring_long : r ≡ true → too_long (texts pieces) ≡ true
  measuring_long over = so.none ∙ ap too_long (texts_next pieces i other less) ∙ piece-long (get_or pieces i other).now (texts (drop (i + 1) pieces)) r e over

  pub measuring-room : r ≡ false → need + length (get_or pieces i other).now ≤ (i + 1) * input_limit
  measuring-room kept = omega (arith, so.most, piece-short (get_or pieces i other).now r e kept)

  pub measuring_step : r ≡ false → Measuring pieces (i + 1) (need + length (get_or pieces i other).now)
  measuring_step kept =
      let short = piece-short (get_or pieces i other).now r e kept in
      let next = texts_next pieces i other less in
      record {
        none = so.none ∙ ap too_long next ∙ piece_passed (get_or pieces i other).now (texts (drop (i + 1) pieces)) short;
        long = omega (arith, so.long, ap (λ (l : List (List ℕ)). length (concat l)) next, length-append (get_or pieces i other).now (concat (texts (drop (i + 1) pieces))));
        most = measuring-room kept;
      }

module _ (pieces : List (Bor (List ℕ))) (i need : ℕ) (past : length pieces ≤ i) (so : Measuring pieces i need) where
  none-left : drop i pieces ≡ []
  none-left = drop_of_length-le pieces {i = i} past

  pub measured-short : too_long (texts pieces) ≡ false
  unfolding too_long any
  measured-short = so.none ∙ ap (λ (l : List (Bor (List ℕ))). too_long (texts l)) none-left

  pub measured : need ≡ length (concat (texts pieces))
  measured = omega (arith, so.long, ap (λ (l : List (Bor (List ℕ))). length (concat (texts l))) none-left)

-- the sizes of inputs tell whether one is too long
pub sized : (inputs : List (List ℕ)) {r : Bool} → r ≡ list_any (λ (size : ℕ). ltb input_limit size) (map length inputs) → too_long inputs ≡ r
unfolding too_long any
sized [] e = sym e
sized (input ∷ inputs) e = ap (λ (b : Bool). ltb input_limit (length input) || b) (sized inputs refl) ∙ sym e

-- a line's head, its name and what opens its list, with the rest behind them
pub headed : (head name mark rest : List ℕ) → (head ++ (name ++ mark)) ++ rest ≡ head ++ (name ++ (mark ++ rest))
headed head name mark rest = append_assoc head (name ++ mark) rest ∙ ap (λ (l : List ℕ). head ++ l) (append_assoc name mark rest)
