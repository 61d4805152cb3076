-- The text of a string that is not refused: it is UTF-8, and at most twice as long as the string.
-- Assumes nothing.
use mathlib.Core.Path.{◌≡◌}
use mathlib.Core.Bool.{true}
use mathlib.Core.List.{List, [], ◌∷◌}
use Prim.Native.Nat.{ℕ, zero, suc, ◌+◌, ◌*◌, ◌≤◌, ◌<◌}
use native.Mathlib.Omega.{arith}
use lib.ListN.{length, length-append}
use Rattle.utf8.specs.Encoding.{encoded, bytes_of}
use Rattle.utf8.specs.Octets.{utf8}
use Rattle.utf8.proofs.Concatenations.{utf8_nil, utf8_append}
use Rattle.utf8.proofs.Encodings.{encodes_utf8}
use Rattle.strings.specs.Points.{character_at, points_after, points}
use Rattle.strings.specs.Text.{encodings, text}
use Rattle.strings.proofs.Sizes.{character-measures}

encodings-utf8 : (ps : List ℕ) → utf8 (encodings ps) ≡ true
unfolding encodings
encodings-utf8 [] = utf8_nil
encodings-utf8 (p ∷ ps) = utf8_append (bytes_of (encoded p)) (encodings ps) (encodes_utf8 p) (encodings-utf8 ps)

pub text-utf8 : (s : List ℕ) → utf8 (text s) ≡ true
unfolding text
text-utf8 s = encodings-utf8 (points s)

-- what a slice of bytes has
abbrev pub Bytes : List ℕ → Type 0
Bytes [] = Unit {0}
Bytes (b ∷ bs) = (b < 256) × Bytes bs

-- k bytes still belong to the character before, which has had its share of the text
after_le : (k : ℕ) (s : List ℕ) → Bytes s → k ≤ length s → length (encodings (points_after k s)) + 2 * k ≤ 2 * length s
unfolding points_after encodings
after_le k [] h l = omega arith
after_le zero (b ∷ bs) h l =
    let c = character_at (b ∷ bs) in
    let m = character-measures b bs h.0 in
    let i = m.inside in
    let j = m.small in
    omega (arith, after_le c.more bs h.1 m.inside, length-append (bytes_of (encoded c.point)) (encodings (points_after c.more bs)))
after_le (suc k) (b ∷ bs) h l = omega (arith, after_le k bs h.1 (omega arith))

pub text_le : (s : List ℕ) → Bytes s → length (text s) ≤ 2 * length s
unfolding text
text_le s h = omega (arith, after_le 0 s h (omega arith))
