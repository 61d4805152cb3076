-- The lines of a script are read as the lists of their heads and parts.
-- Assumes nothing.
use mathlib.Core.Path.{◌≡◌, refl}
use mathlib.Core.Bool.{false}
use mathlib.Core.List.{List, [], ◌∷◌}
use Prim.Native.Nat.{ℕ}
use Rattle.ground.specs.Bytes.{bytes}
use Rattle.ground.specs.Lists.{all, joined}
use Rattle.utf8.specs.Octets.{octets, utf8}
use Rattle.lexicon.specs.Class.{class_of}
use Rattle.lexicon.specs.Span.{in_symbol}
use Rattle.lexicon.specs.Symbol.{one_symbol}
use Rattle.arena.specs.Tree.{Tree, Trees, app}
use Rattle.brackets.specs.Walk.{tree}
use Rattle.tokens.specs.Piece.{lex_after}
use Rattle.reader.specs.Read.{parse}
use Rattle.reader.proofs.Answers.{read_left}
use Rattle.parts.specs.Parts.{paired}
use Rattle.parts.specs.Texts.{pair}
use Rattle.script.specs.Line.{command, is_empty, assert, declare_const, declare_fun, define_fun, with_parameters, declare_datatype}
use Rattle.script_read.specs.Reads.{Expression, Expressions, none, first}
use Rattle.script_read.specs.Lines.{parametric, Pairs, no_pair, first_pair, CommandRead, AssertRead, DeclareConstRead, DeclareFunRead, DefineFunRead, DeclareDatatypeRead}
use Rattle.script_read.proofs.Walks.{no-tree}
use Rattle.script_read.proofs.Symbols.{symbol-read}
use Rattle.script_read.proofs.Lists.{list-is, constructors_are, fed}

pub command-read : (parts : List (List ℕ)) (ts : Trees) → CommandRead parts ts
command-read parts ts xs =
    let e = fed (list-is xs) in
    record { parsed = e; left = λ h N T S. read_left (command parts) N T S (app ts) e h }

pub assert-read : (term : List ℕ) (t : Tree) → AssertRead term t
unfolding assert one_symbol all in_symbol class_of utf8 octets
assert-read term t x = command-read _ _ (first (symbol-read (bytes "assert") refl) (first x none))

pub declare_const_read : (name sort : List ℕ) (n s : Tree) → DeclareConstRead name sort n s
unfolding declare_const one_symbol all in_symbol class_of utf8 octets
declare_const_read name sort n s x y = command-read _ _ (first (symbol-read (bytes "declare-const") refl) (first x (first y none)))

pub declare_fun_read : (name : List ℕ) (arguments : List (List ℕ)) (sort : List ℕ) (n : Tree) (ts : Trees) (s : Tree) → DeclareFunRead name arguments sort n ts s
unfolding declare_fun one_symbol all in_symbol class_of utf8 octets
declare_fun_read name arguments sort n ts s x xs y = command-read _ _ (first (symbol-read (bytes "declare-fun") refl) (first x (first (list-is xs) (first y none))))

pairs-are : {parts : List (List ℕ)} {ts : Trees} → Pairs parts ts → Expressions (paired pair parts) ts
unfolding paired
pairs-are no_pair = none
pairs-are (first_pair x y xs) = first (list-is (first x (first y none))) (pairs-are xs)

pub define_fun_read : (name : List ℕ) (arguments : List (List ℕ)) (sort body : List ℕ) (n : Tree) (ts : Trees) (s b : Tree)
    → DefineFunRead name arguments sort body n ts s b
unfolding define_fun one_symbol all in_symbol class_of utf8 octets
define_fun_read name arguments sort body n ts s b x xs y z =
    command-read _ _ (first (symbol-read (bytes "define-fun") refl) (first x (first (list-is (pairs-are xs)) (first y (first z none)))))

-- an S-expression has a byte
some_byte : (s : List ℕ) (t : Tree) (parts : List (List ℕ)) → parse s ≡ tree t → is_empty (joined (bytes " ") (s ∷ parts)) ≡ false
unfolding parse lex_after joined
some_byte [] t parts h = no-tree h
some_byte (b ∷ bs) t [] h = refl
some_byte (b ∷ bs) t (part ∷ parts) h = refl

body_is : {parameters : List (List ℕ)} {ps : Trees} {body : List ℕ} {t : Tree} → Expressions parameters ps → Expression body t
    → Expression (with_parameters parameters body) (parametric ps t)
unfolding with_parameters joined one_symbol all in_symbol class_of utf8 octets
body_is none z = z
body_is (first {part} {t} {parts} x xs) z =
    rw (some_byte part t parts x.parsed) (list-is (first (symbol-read (bytes "par") refl) (first (list-is (first x xs)) (first z none))))

pub declare_datatype_read : (name : List ℕ) (parameters constructors : List (List ℕ)) (n : Tree) (ps cs : Trees) → DeclareDatatypeRead name parameters constructors n ps cs
unfolding declare_datatype one_symbol all in_symbol class_of utf8 octets
declare_datatype_read name parameters constructors n ps cs x xs ys =
    command-read _ _ (first (symbol-read (bytes "declare-datatype") refl) (first x (first (body_is xs (constructors_are ys)) none)))
