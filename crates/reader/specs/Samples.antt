-- Document 01, "Samples at the edges": the samples marked P, in its order, as one table.
use Rattle.std.specs.Prelude.{◌≡◌, refl, List, [], ◌∷◌, map, ℕ, ◌-◌, ◌^◌}
use Rattle.refusals.specs.Number.{number_of}
use Rattle.ground.specs.Bytes.{bytes}
use Rattle.ground.specs.Lists.{all}
use Rattle.words.specs.Radix.{worth}
use Rattle.words.specs.Run.{from, parsed}
use Rattle.words.specs.Extension.{extended}
use Rattle.utf8.specs.Octets.{octets, utf8}
use Rattle.utf8.specs.Encoding.{scalar, encoded}
use Rattle.strings.specs.Escape.{hex_run, braced, braced_escape, four_digits, escape}
use Rattle.strings.specs.Points.{character_at, points_after}
use Rattle.strings.specs.Text as S
use Rattle.strings.specs.Text.{encodings, any_surrogate}
use Rattle.arena.specs.Tree.{text}
use Rattle.arena.specs.Layout.{words}
use Rattle.brackets.specs.Walk.{Outcome, tree, refused}
use Rattle.lexicon.specs.Class.{class_of}
use Rattle.lexicon.specs.Span.{span_by, in_symbol, in_line}
use Rattle.tokens.specs.Lexeme.{inside, lexeme_at}
use Rattle.tokens.specs.Piece.{piece_at, lex_after}
use Rattle.reader.specs.Read.{parse}

-- a refusal's number, or a tree's words and text
data Told : Type 0 where
  number : ℕ → Told
  arena : List ℕ → List ℕ → Told

abbrev told : Outcome → Told
told (tree t) = arena (words t 0 0) (text t)
told (refused why) = number (number_of why)

-- each input, with what document 01 says of it
abbrev table : List (List ℕ × Told)
table =
    (bytes "", number 1)
    ∷ (bytes ")", number 5)
    ∷ (bytes "a b", number 6)
    ∷ (bytes ") \"", number 1)
    ∷ (bytes "#b", number 4)
    ∷ (bytes "#", number 1)
    ∷ (bytes "\"\\ud800\"", number 3)
    ∷ (bytes "\"\\u{000041}\"", arena (3 ∷ 1 ∷ 0 ∷ 0 ∷ []) (bytes "A"))
    ∷ (bytes "\"\\u{0000041}\"", arena (3 ∷ 11 ∷ 0 ∷ 0 ∷ []) (bytes "\\u{0000041}"))
    ∷ (bytes "\"\"\"\"", arena (3 ∷ 1 ∷ 0 ∷ 0 ∷ []) (bytes "\""))
    ∷ (
      bytes "(a #xF \"b\")",
      arena
          (5 ∷ 3 ∷ 4 ∷ 0
          ∷ 4 ∷ 1 ∷ 0 ∷ 0
          ∷ 1 ∷ 4 ∷ (2 ^ 64 - 1) ∷ (2 ^ 64 - 1)
          ∷ 3 ∷ 1 ∷ 1 ∷ 0 ∷ []) (bytes "ab"),
    )
    ∷ (bytes "12ab", number 6)
    ∷ ((0xFF ∷ []), number 2)
    ∷ ((0x22 ∷ 0xFF ∷ 0x22 ∷ []), arena (3 ∷ 2 ∷ 0 ∷ 0 ∷ []) (0xC3 ∷ 0xBF ∷ []))
    ∷ []

samples : map (λ (row : List ℕ × Told). told (parse row.0)) table ≡ map (λ (row : List ℕ × Told). row.1) table
unfolding parse lex_after piece_at lexeme_at inside class_of span_by in_symbol in_line utf8 octets parsed all from worth extended hex_run braced braced_escape four_digits escape character_at points_after encodings S.text any_surrogate scalar encoded
samples = refl

-- beside them: a fault behind a bad bracket and behind a whole tree, and brackets that are open at the end
edges : map (λ s. told (parse s)) (bytes ") #" ∷ bytes "a #" ∷ bytes "(" ∷ bytes "((a)" ∷ []) ≡ number 1 ∷ number 1 ∷ number 1 ∷ number 1 ∷ []
unfolding parse lex_after piece_at lexeme_at inside class_of span_by in_symbol in_line utf8 octets parsed all from worth extended hex_run braced braced_escape four_digits escape character_at points_after encodings S.text any_surrogate scalar encoded
edges = refl
