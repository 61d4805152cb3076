-- Two digits a byte, and the digits of a number, written at a place.
-- Assumes nothing.
use mathlib.Core.Path.{◌≡◌, refl, sym, ap, ◌∙◌, subst}
use mathlib.Core.List.{List, [], ◌∷◌, ◌++◌, append_assoc}
use Prim.Native.Nat.{ℕ, ◌+◌, ◌*◌, ◌-◌, ◌/◌, ◌%◌, ◌<◌, ◌≤◌}
use native.Mathlib.Numerals.{add-one}
use native.Mathlib.Omega.{arith}
use lib.ListN.{length, get_or, take, drop, set, length-set, drop_of_length-le}
use lib.Seq.{sets-eq}
use Rattle.ground.proofs.Lists.{at_place}
use Rattle.lent.specs.Put.{Offers}
use Rattle.lent.proofs.Offers.{Onwards, onwards-start, onwards-step, onwards-end, offers_past}
use Rattle.values.specs.Text.{hex_digit, hex, hex_text}
use Rattle.values.proofs.Lengths.{length-hex, length-hex_text}

pub record Hexing (bytes entry : List ℕ) (at : ℕ) (out : List ℕ) (i to : ℕ) : Type 0 where
  pub within : i ≤ length bytes
  pub place : to ≡ at + 2 * i
  pub room : at + 2 * length bytes ≤ length entry
  pub long : length out ≡ length entry
  pub onwards : Onwards entry at (hex_text bytes) out to (hex_text (drop i bytes))

pub hexing_start : (bytes entry : List ℕ) (at : ℕ) → at ≤ length entry → length bytes ≤ (length entry - at) / 2 → Hexing bytes entry at entry 0 at
hexing_start bytes entry at h k = record {
  within = omega arith;
  place = omega arith;
  room = omega arith;
  long = refl;
  onwards = onwards-start entry (hex_text bytes) at;
}

pub hex-past : (bytes entry : List ℕ) (at next : ℕ) → (length entry - at) / 2 < length bytes → at ≤ length entry → Offers entry entry at (hex_text bytes) next
hex-past bytes entry at next h k = offers_past entry (hex_text bytes) at next (omega (arith, length-hex_text bytes))

pub hex-beyond : (bytes entry : List ℕ) (at next : ℕ) → length entry < at → Offers entry entry at (hex_text bytes) next
hex-beyond bytes entry at next h = offers_past entry (hex_text bytes) at next (omega arith)

-- two stores are a piece
two_stores : (d : List ℕ) (to a b : ℕ) → Offers d (set (set d to a) (to + 1) b) to (a ∷ b ∷ []) (to + 2)
two_stores d to a b h = record { after = refl; holds = ap (λ (k : ℕ). set (set d to a) k b) (add-one to) }

module _ (bytes entry : List ℕ) (at : ℕ) (out : List ℕ) (i to : ℕ) (so : Hexing bytes entry at out i to) (less : i < length bytes) where
  pub hex-first : to < length out
  hex-first = omega (arith, so.place, so.room, so.long)

  pub hex-second : (a : ℕ) → to + 1 < length (set out to a)
  hex-second a = omega (arith, so.place, so.room, so.long, length-set out to a)

  pub hexing_step : (a b : ℕ) → a ≡ hex_digit (get_or bytes i 0 / 16) → b ≡ hex_digit (get_or bytes i 0 % 16) → Hexing bytes entry at (set (set out to a) (to + 1) b) (i + 1) (to + 2)
  unfolding hex_text
  hexing_step a b p q =
      let e : hex_text (drop i bytes) ≡ (a ∷ b ∷ []) ++ hex_text (drop (i + 1) bytes) =
      ap hex_text (at_place bytes i less)
      ∙ ap (λ (x : ℕ). x ∷ hex_digit (get_or bytes i 0 % 16) ∷ hex_text (drop (i + 1) bytes)) (sym p)
      ∙ ap (λ (x : ℕ). a ∷ x ∷ hex_text (drop (i + 1) bytes)) (sym q) in
      record {
        within = omega arith;
        place = omega (arith, so.place);
        room = so.room;
        long = length-set (set out to a) (to + 1) b ∙ length-set out to a ∙ so.long;
        onwards =
            onwards-step entry (hex_text bytes) at out (set (set out to a) (to + 1) b) (a ∷ b ∷ []) (hex_text (drop (i + 1) bytes)) to (to + 2)
            (subst (λ (r : List ℕ). Onwards entry at (hex_text bytes) out to r) e so.onwards) (two_stores out to a b);
      }

pub hexing_end : (bytes entry : List ℕ) (at : ℕ) (out : List ℕ) (i to : ℕ) → Hexing bytes entry at out i to → length bytes ≤ i → Offers entry out at (hex_text bytes) to
unfolding hex_text
hexing_end bytes entry at out i to so h =
    onwards-end entry (hex_text bytes) at out to
    (subst (λ (r : List ℕ). Onwards entry at (hex_text bytes) out to r) (ap hex_text (drop_of_length-le bytes {i = i} h)) so.onwards)

-- the digits of a number
module _ (count n : ℕ) (entry : List ℕ) (at : ℕ) where
  pub digits-past : length entry - at < count → at ≤ length entry → Offers entry entry at (hex count n) at
  digits-past h k = offers_past entry (hex count n) at at (omega (arith, length-hex count n))

  pub digits-beyond : length entry < at → Offers entry entry at (hex count n) at
  digits-beyond h = offers_past entry (hex count n) at at (omega arith)

  pub digits-put : (exit : List ℕ) → exit ≡ take at entry ++ (hex (at + count - at) n ++ drop (at + count) entry) → Offers entry exit at (hex count n) (at + count)
  digits-put exit e h =
      let l : length (hex count n) ≡ count = length-hex count n in
      let z : at + count - at ≡ count = omega arith in
      record {
        after = ap (λ (k : ℕ). at + k) (sym l);
        holds =
            e ∙ ap (λ (k : ℕ). take at entry ++ (hex k n ++ drop (at + count) entry)) z
            ∙ ap (λ (k : ℕ). take at entry ++ (hex count n ++ drop (at + k) entry)) (sym l)
            ∙ sym (sets-eq (hex count n) entry at h ∙ append_assoc (take at entry) (hex count n) (drop (at + length (hex count n)) entry));
      }
