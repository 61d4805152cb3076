-- Document 01, "Samples at the edges": the strings among them, as one table. Each line is the inside of the quotes and its text.
use Rattle.std.specs.Prelude.{◌≡◌, refl, true, false, List, [], ◌∷◌, map, ℕ}
use Prim.Native.String.{String}
use Rattle.ground.specs.Bytes.{bytes}
use Rattle.words.specs.Radix.{worth}
use Rattle.words.specs.Run.{from}
use Rattle.utf8.specs.Encoding.{scalar, encoded}
use Rattle.strings.specs.Escape.{hex_run, braced, braced_escape, four_digits, escape}
use Rattle.strings.specs.Points.{character_at, points_after, points}
use Rattle.strings.specs.Text.{encodings, text, any_surrogate}

-- the samples, then edges of the theory's six forms and of document 01's departures
samples : List (List ℕ)
samples =
    bytes "\\u{000041}"
    ∷ bytes "\\u{0000041}"
    ∷ bytes "\"\""
    ∷ (0xFF ∷ [])
    ∷ bytes "\\u0041\\u{41}"
    ∷ bytes "\\u004"
    ∷ bytes "\\u{}"
    ∷ bytes "\\u{2FFFF}"
    ∷ bytes "\\u{30000}"
    ∷ bytes "\\u{41"
    ∷ bytes "\\x41"
    ∷ bytes "a\"b"
    ∷ []

texts : map text samples
    ≡ bytes "A"
    ∷ bytes "\\u{0000041}"
    ∷ bytes "\""
    ∷ (0xC3 ∷ 0xBF ∷ [])
    ∷ bytes "AA"
    ∷ bytes "\\u004"
    ∷ bytes "\\u{}"
    ∷ (0xF0 ∷ 0xAF ∷ 0xBF ∷ 0xBF ∷ [])
    ∷ bytes "\\u{30000}"
    ∷ bytes "\\u{41"
    ∷ bytes "\\x41"
    ∷ bytes "a\"b"
    ∷ []
unfolding samples text encodings points_after character_at escape braced_escape four_digits braced hex_run worth from encoded scalar
texts = refl

-- D800 to DFFF in either form refuse the string; their neighbours do not
refused : map (λ (s : String). any_surrogate (points (bytes s)))
    ("\\ud800" ∷ "\\udFFf" ∷ "\\u{d800}" ∷ "\\u{00DFFF}" ∷ "\\ud7ff" ∷ "\\ue000" ∷ [])
    ≡ true ∷ true ∷ true ∷ true ∷ false ∷ false ∷ []
unfolding any_surrogate points_after character_at escape braced_escape four_digits braced hex_run worth from scalar
refused = refl
