-- Document 01, "What is carried over", item 4: the tree that each line is, if its parts are single S-expressions; what the laws of this crate prove.
use Rattle.std.specs.Prelude.{◌≡◌, true, List, [], ◌∷◌, ℕ}
use Prim.Native.String.{String}
use Rattle.ground.specs.Bytes.{bytes}
use Rattle.lexicon.specs.Symbol.{one_symbol}
use Rattle.arena.specs.Tree.{Tree, Trees, symbol, app, nil, cons}
use Rattle.script.specs.Line.{command, assert, declare_const, declare_fun, define_fun, declare_datatype}
use Rattle.script_read.specs.Reads.{Expression, Expressions, ReadAs}

abbrev pub word : String → Tree
word s = symbol (bytes s)

-- names and sorts by turns; each pair is the list of its two
pub data Pairs : List (List ℕ) → Trees → Type 0 where
  no_pair : Pairs [] nil
  first_pair : {name sort : List ℕ} {n s : Tree} {parts : List (List ℕ)} {ts : Trees}
      → Expression name n → Expression sort s → Pairs parts ts → Pairs (name ∷ sort ∷ parts) (cons (app (cons n (cons s nil))) ts)

-- parameters bring `par`, none bring nothing
abbrev pub parametric : Trees → Tree → Tree
parametric nil body = body
parametric (cons p ps) body = app (cons (word "par") (cons (app (cons p ps)) (cons body nil)))

-- a name that is one symbol, such as each head, is such a part
abbrev pub SymbolRead : List ℕ → Type 0
SymbolRead name = one_symbol name ≡ true → Expression name (symbol name)

-- any command, from its head on
abbrev pub CommandRead : List (List ℕ) → Trees → Type 0
CommandRead parts ts = Expressions parts ts → ReadAs (command parts) (app ts)

abbrev pub AssertRead : List ℕ → Tree → Type 0
AssertRead term t = Expression term t → ReadAs (assert term) (app (cons (word "assert") (cons t nil)))

abbrev pub DeclareConstRead : List ℕ → List ℕ → Tree → Tree → Type 0
DeclareConstRead name sort n s =
    Expression name n → Expression sort s → ReadAs (declare_const name sort) (app (cons (word "declare-const") (cons n (cons s nil))))

abbrev pub DeclareFunRead : List ℕ → List (List ℕ) → List ℕ → Tree → Trees → Tree → Type 0
DeclareFunRead name arguments sort n ts s =
    Expression name n → Expressions arguments ts → Expression sort s
    → ReadAs (declare_fun name arguments sort) (app (cons (word "declare-fun") (cons n (cons (app ts) (cons s nil)))))

abbrev pub DefineFunRead : List ℕ → List (List ℕ) → List ℕ → List ℕ → Tree → Trees → Tree → Tree → Type 0
DefineFunRead name arguments sort body n ts s b =
    Expression name n → Pairs arguments ts → Expression sort s → Expression body b
    → ReadAs (define_fun name arguments sort body) (app (cons (word "define-fun") (cons n (cons (app ts) (cons s (cons b nil))))))

abbrev pub DeclareDatatypeRead : List ℕ → List (List ℕ) → List (List ℕ) → Tree → Trees → Trees → Type 0
DeclareDatatypeRead name parameters constructors n ps cs =
    Expression name n → Expressions parameters ps → Expressions constructors cs
    → ReadAs (declare_datatype name parameters constructors) (app (cons (word "declare-datatype") (cons n (cons (parametric ps (app cs)) nil))))
