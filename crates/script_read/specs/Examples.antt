-- Document 01, "What is carried over", item 4: a line and its tree, and lines whose parts are not as the laws ask.
use Rattle.std.specs.Prelude.{◌≡◌, refl, true, false, [], ◌∷◌, map}
use Rattle.refusals.specs.declared.Refusal.TheVariants.{UnexpectedEnd, TrailingTokens}
use Rattle.ground.specs.Bytes.{bytes}
use Rattle.ground.specs.Lists.{joined}
use Rattle.utf8.specs.Octets.{octets, utf8}
use Rattle.lexicon.specs.Class.{class_of}
use Rattle.lexicon.specs.Span.{span_by, in_symbol, in_line}
use Rattle.arena.specs.Tree.{app, nil, cons}
use Rattle.brackets.specs.Walk.{tree, refused}
use Rattle.tokens.specs.Lexeme.{inside, lexeme_at}
use Rattle.tokens.specs.Piece.{piece_at, lex_after}
use Rattle.reader.specs.Read.{parse}
use Rattle.parts.specs.Parts.{paired}
use Rattle.script.specs.Line.{assert, declare_const, define_fun}
use Rattle.script_read.specs.Reads.{outside_after, outside, Expression}
use Rattle.script_read.specs.Lines.{word}

-- no comment, one that a line feed ends, a semicolon in a string, and nothing
out : map outside (bytes "a" ∷ bytes "a ;b\n" ∷ bytes "\";\"" ∷ [] ∷ []) ≡ true ∷ true ∷ true ∷ true ∷ []
unfolding outside_after lexeme_at class_of span_by in_symbol in_line inside
out = refl

-- a comment to the end, with nothing in it or two semicolons
not-out : map outside (bytes "a ;" ∷ bytes "a\n;;" ∷ []) ≡ false ∷ false ∷ []
unfolding outside_after lexeme_at class_of span_by in_symbol in_line
not-out = refl

-- `a` with a comment and its line feed is such a part
pub noted : Expression (bytes "a ;b\n") (word "a")
unfolding parse lex_after piece_at outside_after lexeme_at class_of span_by in_symbol in_line utf8 octets
noted = record { parsed = refl; ends = refl }

two-arguments : parse (define_fun (bytes "f") (bytes "x" ∷ bytes "A" ∷ bytes "y" ∷ bytes "B" ∷ []) (bytes "A") (bytes "x"))
    ≡ tree (app (cons (word "define-fun") (cons (word "f")
    (cons (app (cons (app (cons (word "x") (cons (word "A") nil))) (cons (app (cons (word "y") (cons (word "B") nil))) nil)))
    (cons (word "A") (cons (word "x") nil))))))
unfolding define_fun paired joined parse lex_after piece_at lexeme_at class_of span_by in_symbol utf8 octets
two-arguments = refl

-- `a ;` is read as `a`, but the closing bracket of the line falls into its comment
commented : parse (bytes "a ;") ≡ tree (word "a")
unfolding parse lex_after piece_at lexeme_at class_of span_by in_symbol in_line utf8 octets
commented = refl

pub unfinished : parse (assert (bytes "a ;")) ≡ refused UnexpectedEnd
unfolding assert joined parse lex_after piece_at lexeme_at class_of span_by in_symbol in_line utf8 octets
unfinished = refl

-- and a sort with a line feed after it is lost in the comment of its name
pub lost : parse (declare_const (bytes "a;") (bytes "B\n")) ≡ tree (app (cons (word "declare-const") (cons (word "a") nil)))
unfolding declare_const joined parse lex_after piece_at lexeme_at class_of span_by in_symbol in_line utf8 octets
lost = refl

-- no single S-expression: two commands in the place of one
pub two_commands : parse (assert (bytes "a) (b")) ≡ refused TrailingTokens
unfolding assert joined parse lex_after piece_at lexeme_at class_of span_by in_symbol utf8 octets
two_commands = refl
