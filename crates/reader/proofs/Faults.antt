-- A fault of the lexer or of brackets is never a starred number: with rooms that suffice and a length that is allowed, equality with the Rust is claimed.
-- Assumes nothing.
use Rattle.std.proofs.Common.{Err, Ok, Result}
use mathlib.Core.Path.{◌≡◌, refl, subst}
use mathlib.Core.Bool.{false, ◌&&◌}
use mathlib.Core.List.{List, [], ◌∷◌}
use Prim.Native.Nat.{ℕ, zero, suc, ◌-◌, ◌^◌}
use native.Mathlib.Omega.{arith}
use lib.Dec.{ltb}
use Rattle.ground.proofs.Tests.{by_cond}
use Rattle.refusals.specs.declared.Refusal.{Refusal}
use Rattle.refusals.specs.declared.Refusal.TheVariants.{UnexpectedEnd}
use Rattle.refusals.specs.Number.{starred}
use Rattle.words.specs.declared.digits.Radix.{Radix}
use Rattle.words.specs.declared.digits.Radix.TheVariants.{Decimal}
use Rattle.words.specs.Radix.{base_of}
use Rattle.words.specs.Run.{number, digits, some_byte, parsed}
use Rattle.utf8.specs.Octets.{utf8}
use Rattle.strings.specs.Points.{points}
use Rattle.strings.specs.Text.{any_surrogate}
use Rattle.arena.specs.Tree.{Tree, Trees, app}
use Rattle.brackets.specs.Token.{Atom, Token, opens, closes, atom, leaf}
use Rattle.brackets.specs.Walk.{Walk, going, done, fault, add, step, walk, refused, finish}
use Rattle.tokens.specs.declared.lexeme.Kind.{Kind}
use Rattle.tokens.specs.declared.lexeme.Kind.TheVariants as K
use Rattle.tokens.specs.Lexeme.{lexeme_at}
use Rattle.tokens.specs.Piece.{Piece, space, token, wrong, from_parsed, piece_of, piece_at, Lexed, ok, bad, more, emit, lex_after, lex}
use Rattle.reader.specs.Read.{outcome, parse}
use Rattle.words.specs.declared.pair.Pair.{Pair}

abbrev Unstarred : Refusal → Type 0
Unstarred why = starred why ≡ false

abbrev UnstarredPiece : Piece → Type 0
UnstarredPiece space = Unit {0}
UnstarredPiece (token x) = Unit {0}
UnstarredPiece (wrong why) = Unstarred why

abbrev UnstarredParsed : Result Pair Refusal → Type 0
UnstarredParsed (Ok p) = Unit {0}
UnstarredParsed (Err why) = Unstarred why

parsed_unstarred : (r : Radix) (x : List ℕ) → UnstarredParsed (parsed r x)
unfolding parsed
parsed_unstarred r x = by_cond UnstarredParsed (some_byte x && digits r x && ltb (number (base_of r) x) (2 ^ 128)) _ _ (λ _. tt) (λ _. refl)

from_unstarred : (p : Result Pair Refusal) (make : ℕ → Atom) → UnstarredParsed p → UnstarredPiece (from_parsed p make)
from_unstarred (Ok p) make h = tt
from_unstarred (Err why) make h = h

piece_unstarred : (k : Kind) (x : List ℕ) → UnstarredPiece (piece_of k x)
piece_unstarred K.Blank x = tt
piece_unstarred K.Opening x = tt
piece_unstarred K.Closing x = tt
piece_unstarred (K.Bits r) x = from_unstarred (parsed r x) _ (parsed_unstarred r x)
piece_unstarred K.Number x = from_unstarred (parsed Decimal x) _ (parsed_unstarred Decimal x)
piece_unstarred K.Quoted x = by_cond UnstarredPiece (any_surrogate (points x)) _ _ (λ _. refl) (λ _. tt)
piece_unstarred K.Name x = by_cond UnstarredPiece (utf8 x) _ _ (λ _. tt) (λ _. refl)
piece_unstarred K.Stray x = refl
piece_unstarred K.Unclosed x = refl

abbrev UnstarredLexed : Lexed → Type 0
UnstarredLexed (ok xs) = Unit {0}
UnstarredLexed (bad why) = Unstarred why

more_unstarred : (x : Token) (r : Lexed) → UnstarredLexed r → UnstarredLexed (more x r)
more_unstarred x (ok xs) h = tt
more_unstarred x (bad why) h = h

emit_unstarred : (p : Piece) (r : Lexed) → UnstarredPiece p → UnstarredLexed r → UnstarredLexed (emit p r)
emit_unstarred space r p h = h
emit_unstarred (token x) r p h = more_unstarred x r h
emit_unstarred (wrong why) r p h = p

lex_unstarred : (k : ℕ) (s : List ℕ) → UnstarredLexed (lex_after k s)
unfolding lex_after piece_at
lex_unstarred zero [] = tt
lex_unstarred (suc k) [] = tt
lex_unstarred zero (b ∷ bs) =
    emit_unstarred (piece_at (b ∷ bs)) (lex_after ((lexeme_at (b ∷ bs)).width - 1) bs) (piece_unstarred (lexeme_at (b ∷ bs)).kind _)
    (lex_unstarred ((lexeme_at (b ∷ bs)).width - 1) bs)
lex_unstarred (suc k) (b ∷ bs) = lex_unstarred k bs

abbrev UnstarredWalk : Walk → Type 0
UnstarredWalk (going st) = Unit {0}
UnstarredWalk (done t) = Unit {0}
UnstarredWalk (fault why) = Unstarred why

add_unstarred : (st : List Trees) (t : Tree) → UnstarredWalk (add st t)
add_unstarred [] t = tt
add_unstarred (ks ∷ st) t = tt

step_unstarred : (w : Walk) (x : Token) → UnstarredWalk w → UnstarredWalk (step w x)
step_unstarred (going st) opens h = tt
step_unstarred (going []) closes h = refl
step_unstarred (going (ks ∷ st)) closes h = add_unstarred st (app ks)
step_unstarred (going st) (atom a) h = add_unstarred st (leaf a)
step_unstarred (done t) x h = refl
step_unstarred (fault why) x h = h

walk_unstarred : (w : Walk) (xs : List Token) → UnstarredWalk w → UnstarredWalk (walk w xs)
walk_unstarred w [] h = h
walk_unstarred w (x ∷ xs) h = walk_unstarred (step w x) xs (step_unstarred w x h)

finish_unstarred : (w : Walk) (why : Refusal) → UnstarredWalk w → finish w ≡ refused why → Unstarred why
finish_unstarred (going st) why h e = subst Unstarred (let q : UnexpectedEnd ≡ why = cc in q) refl
finish_unstarred (done t) why h e = let z : ◌≡◌ {A = ℕ} 0 1 = cc in absurd (omega arith)
finish_unstarred (fault n) why h e = subst Unstarred (let q : n ≡ why = cc in q) h

outcome_unstarred : (r : Lexed) (why : Refusal) → UnstarredLexed r → outcome r ≡ refused why → Unstarred why
outcome_unstarred (ok xs) why h e = finish_unstarred (walk (going []) xs) why (walk_unstarred (going []) xs tt) e
outcome_unstarred (bad n) why h e = subst Unstarred (let q : n ≡ why = cc in q) h

-- what the bytes alone decide, the Rust has a number for
pub parse_unstarred : (s : List ℕ) (why : Refusal) → parse s ≡ refused why → Unstarred why
unfolding parse
parse_unstarred s why e = outcome_unstarred (lex s) why (lex_unstarred 0 s) e
