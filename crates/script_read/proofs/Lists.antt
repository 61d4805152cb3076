-- Brackets round a row of S-expressions make one of it; a line feed after one changes nothing.
-- Assumes nothing.
use mathlib.Core.Path.{◌≡◌, refl, sym, ap, ◌∙◌}
use mathlib.Core.Bool.{true}
use mathlib.Core.List.{List, [], ◌∷◌, ◌++◌, append-nil}
use Prim.Native.Nat.{ℕ}
use Rattle.ground.specs.Bytes.{bytes}
use Rattle.words.specs.Radix.{worth}
use Rattle.lexicon.specs.Class.{class_of}
use Rattle.lexicon.specs.Span.{in_symbol}
use Rattle.arena.specs.Tree.{Tree, Trees, app, nil}
use Rattle.brackets.specs.Token.{opens, closes}
use Rattle.brackets.specs.Walk.{Walk, going, walk, tree, finish}
use Rattle.tokens.specs.Lexeme.{lexeme_at}
use Rattle.tokens.specs.Piece.{ok, more}
use Rattle.tokens.proofs.Lexes.{lex-nil, lex-opening, lex-closing}
use Rattle.reader.specs.Read.{outcome, parse}
use Rattle.parts.specs.Texts.{list}
use Rattle.script.specs.Line.{constructor_list}
use Rattle.script_read.specs.Reads.{outside_after, outside, Expression, Expressions}
use Rattle.script_read.proofs.Stops.{Stops}
use Rattle.script_read.proofs.Walks.{walk-append}
use Rattle.script_read.proofs.Rows.{Row, row_one, row-lex, row_ends, feed, blank, row-after, row-joined}

closing-stops : Stops 0x29
unfolding class_of in_symbol worth
closing-stops = record { symbol = refl; digit = refl; quote = refl }

outside-opening : (s : List ℕ) → outside (0x28 ∷ s) ≡ outside s
unfolding outside_after lexeme_at class_of
outside-opening s = refl

outside-closing : outside (0x29 ∷ []) ≡ true
unfolding outside_after lexeme_at class_of
outside-closing = refl

bracketed : {s : List ℕ} {ts : Trees} → Row s ts → Expression (0x28 ∷ (s ++ (0x29 ∷ []))) (app ts)
unfolding parse
bracketed {s} {ts} r = record {
  parsed =
      ap outcome (lex-opening (s ++ (0x29 ∷ [])) ∙ ap (more opens) (row-lex r 0x29 [] closing-stops (lex-closing [] ∙ ap (more closes) lex-nil)))
      ∙ ap finish (walk-append (going (nil ∷ [])) r.tokens (closes ∷ []) ∙ ap (λ (w : Walk). walk w (closes ∷ [])) (r.walked nil []));
  ends = outside-opening (s ++ (0x29 ∷ [])) ∙ row_ends r 0x29 [] closing-stops ∙ outside-closing;
}

pub list-is : {parts : List (List ℕ)} {ts : Trees} → Expressions parts ts → Expression (list parts) (app ts)
list-is xs = bracketed (row-joined 0x20 [] (blank, tt) xs)

pub constructors_are : {constructors : List (List ℕ)} {cs : Trees} → Expressions constructors cs → Expression (constructor_list constructors) (app cs)
unfolding constructor_list
constructors_are xs = bracketed (row-after (bytes "\n  ") (feed, (blank, (blank, tt))) (row-joined 0x0A (bytes "  ") (feed, (blank, (blank, tt))) xs))

-- a line feed after an S-expression brings nothing
pub fed : {s : List ℕ} {t : Tree} → Expression s t → parse (s ++ (0x0A ∷ [])) ≡ tree t
unfolding parse
fed {s} {t} x =
    let r = row_one x in
    ap outcome (row-lex r 0x0A [] feed.stops (feed.lexed [] ∙ lex-nil) ∙ ap ok (append-nil r.tokens) ∙ sym r.lexed) ∙ x.parsed
