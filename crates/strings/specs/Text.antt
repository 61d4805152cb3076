-- Document 01, "Bytes to tokens" and "Numbers given back": the text is the UTF-8 of the code points; 9, 3, 11 in this order.
use Rattle.std.specs.Prelude.{Bool, false, cond, not, ◌||◌, List, [], ◌∷◌, ◌++◌, ℕ, leb, length, None, Option, Some}
use Rattle.refusals.specs.Limit.{input_limit}
use Rattle.refusals.specs.declared.Refusal.TheVariants.{StringParseError, InputTooLong, TextRoom}
use Rattle.lent.specs.Left.{Left, refusing, writing}
use Rattle.utf8.specs.Encoding.{scalar, encoded, bytes_of}
use Rattle.strings.specs.Points.{points}

unfoldable pub encodings : List ℕ → List ℕ
encodings [] = []
encodings (p ∷ ps) = bytes_of (encoded p) ++ encodings ps

unfoldable pub text : List ℕ → List ℕ
text s = encodings (points s)

-- DEPARTURE: a code point with no UTF-8, D800 to DFFF, refuses the string
unfoldable pub any_surrogate : List ℕ → Bool
any_surrogate [] = false
any_surrogate (p ∷ ps) = not (scalar p) || any_surrogate ps

unfoldable pub measured : List ℕ → Option ℕ
measured s = cond (any_surrogate (points s)) None (Some (length (text s)))

unfoldable pub decoded : List ℕ → List ℕ → Left
decoded s buffer =
    cond (leb (length s) input_limit)
    (cond (any_surrogate (points s)) (refusing StringParseError buffer) (writing TextRoom (text s) buffer))
    (refusing InputTooLong buffer)
