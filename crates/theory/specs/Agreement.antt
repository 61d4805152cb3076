-- Document 01, "Bytes to tokens", `\u`, beside Unicode Strings: where `strings` departs from the theory, and that it agrees elsewhere.
use Rattle.std.specs.Prelude.{◌≡◌, Bool, true, false, not, ◌&&◌, List, [], ◌∷◌, ℕ, None, Option, Some}
use Rattle.strings.specs.Points.{points}
use Rattle.strings.specs.Text.{encodings, text, any_surrogate}
use Rattle.theory.specs.Literal.{within, unquoted}
use Rattle.theory.specs.Theory.{Place, digit, backslash, u, opening, closing, d, d₄, escapes, number_by, characters_by, characters}

-- DEPARTURE: six digits of at most 2FFFF, which are a 0 and five digits of the theory's
abbrev pub six_digits : List Place
six_digits = backslash ∷ u ∷ opening ∷ digit 0 ∷ d₄ ∷ d ∷ d ∷ d ∷ d ∷ closing ∷ []

abbrev pub absent : Option ℕ → Bool
absent None = true
absent (Some n) = false

unfoldable pub nowhere : List Place → List ℕ → Bool
nowhere f [] = true
nowhere f (b ∷ bs) = absent (number_by f 0 (b ∷ bs)) && nowhere f bs

-- every place counts: an escape has one backslash, its first byte, so none begins inside another
unfoldable pub no_six_digits : List ℕ → Bool
no_six_digits s = nowhere six_digits (unquoted s)

unfoldable pub none_within : ℕ → ℕ → List ℕ → Bool
none_within least most [] = true
none_within least most (c ∷ cs) = not (within least most c) && none_within least most cs

-- DEPARTURE: these characters of the theory have no UTF-8, and refuse the string
unfoldable pub no_surrogate : List ℕ → Bool
no_surrogate s = none_within 0xD800 0xDFFF (characters (unquoted s))

-- what `literal-text` proves of every literal
pub record LiteralText (s : List ℕ) : Type 0 where
  -- `strings` reads by the theory's forms and a seventh
  pub seven-forms : points s ≡ characters_by (six_digits ∷ escapes) 0 (unquoted s)
  pub same-characters : no_six_digits s ≡ true → points s ≡ characters (unquoted s)
  pub same_text : no_six_digits s ≡ true → text s ≡ encodings (characters (unquoted s))
  -- 3 refuses it exactly where a character is a surrogate
  pub refused : no_six_digits s ≡ true → any_surrogate (points s) ≡ not (no_surrogate s)
