-- Document 01, "Numbers given back", 10, 11 and 12: the exact need where one room is one short, and rooms that are just enough.
use Rattle.std.specs.Prelude.{◌≡◌, refl, List, [], ◌∷◌, ◌++◌, map, ℕ, replicate, Err, Ok, Result}
use Rattle.refusals.specs.Number.{number_of, detail_of}
use Rattle.ground.specs.Bytes.{bytes}
use Rattle.words.specs.Radix.{worth}
use Rattle.utf8.specs.Octets.{octets, utf8}
use Rattle.utf8.specs.Encoding.{scalar, encoded}
use Rattle.strings.specs.Escape.{escape}
use Rattle.strings.specs.Points.{character_at, points_after}
use Rattle.strings.specs.Text.{encodings, text, any_surrogate}
use Rattle.lexicon.specs.Class.{class_of}
use Rattle.lexicon.specs.Span.{span_by, in_symbol}
use Rattle.tokens.specs.Lexeme.{inside, lexeme_at}
use Rattle.tokens.specs.Piece.{piece_at, lex_after}
use Rattle.reader.specs.Read.{parse, Left, reading}
use Rattle.reader.specs.declared.read.Reading.{Reading}
use Rattle.refusals.specs.declared.Refusal.{Refusal}

-- a refusal's number and need, or 0 and the nodes, the bytes of text and the depth of what is read
abbrev told : Result Reading Refusal → List ℕ
told (Ok it) = 0 ∷ it.nodes ∷ it.text ∷ it.depth ∷ []
told (Err why) = number_of why ∷ detail_of why ∷ []

-- six nodes, four bytes of text, and two brackets open at most
abbrev within : ℕ → ℕ → ℕ → Left
within n x d = reading (replicate n 9) (replicate x 9) (replicate d 9) (bytes "((a) (b \"cd\"))")

abbrev answers : List Left → List (List ℕ)
answers ls = map (λ (l : Left). told l.answer) ls

-- words for five nodes and three words more, a byte, an entry of the stack: each one short; just enough; several short, of which the first is told
rooms :
    answers (within 23 4 2 ∷ within 24 3 2 ∷ within 24 4 1 ∷ within 24 4 2 ∷ within 0 0 0 ∷ within 24 0 0 ∷ [])
    ≡ (10 ∷ 6 ∷ []) ∷ (11 ∷ 4 ∷ []) ∷ (12 ∷ 2 ∷ []) ∷ (0 ∷ 6 ∷ 4 ∷ 2 ∷ []) ∷ (10 ∷ 6 ∷ []) ∷ (11 ∷ 4 ∷ []) ∷ []
unfolding reading parse lex_after piece_at lexeme_at inside class_of span_by in_symbol utf8 octets worth escape character_at points_after encodings text any_surrogate scalar encoded
rooms = refl

-- with one more of each: the words and the text of the tree, the used entries of the stack zeroed, and what lies behind as it was
left_behind : within 25 5 3
    ≡ record {
      answer = (Ok (record { nodes = 6; text = 4; depth = 2 }));
      nodes =
          5 ∷ 2 ∷ 6 ∷ 0
          ∷ 5 ∷ 1 ∷ 3 ∷ 0
          ∷ 4 ∷ 1 ∷ 0 ∷ 0
          ∷ 5 ∷ 2 ∷ 6 ∷ 0
          ∷ 4 ∷ 1 ∷ 1 ∷ 0
          ∷ 3 ∷ 2 ∷ 2 ∷ 0
          ∷ 9 ∷ [];
      text = bytes "abcd" ++ (9 ∷ []);
      stack = 0 ∷ 0 ∷ 9 ∷ [];
    }
unfolding reading parse lex_after piece_at lexeme_at inside class_of span_by in_symbol utf8 octets worth escape character_at points_after encodings text any_surrogate scalar encoded
left_behind = refl
