-- Document 01, "Sorts and literals": what a shape found in the arena says of the trees that stand there.
use Rattle.std.specs.Prelude.{◌≡◌, true, false, List, ℕ, suc, ◌+◌, ◌*◌, ◌^◌, ◌≤◌, ◌<◌, ◌%◌, ◌/◌, eqb, length, None, Option, Some}
use Rattle.arena.specs.Layout.{stride}
use Rattle.arena.specs.Node.{after_at}
use Rattle.arena.specs.Stands.{TreeStands, StandAll}
use Rattle.arena.specs.Text.{text_at}
use Rattle.arena.specs.Tree.{Tree, Trees, bit_vec, numeral, symbol, app, nil, cons, count}
use Rattle.tables.specs.Sort.{Ext, decimal, datetime, duration}
use Rattle.shapes.specs.declared.shape.Found.{Found}
use Rattle.shapes.specs.declared.shape.Kind.{Kind}
use Rattle.shapes.specs.Shape.{Shape, unary, binary, ite, uncovered, as_none, as_some, some_of, as_empty, singleton, union, extension, indexed, made, other, on_symbol, on_numeral, on_bit_vec, on_app, index_shape, applied, headed, shape}
use Rattle.shapes.specs.declared.look.Index.{Index}
use Rattle.shapes.specs.declared.look.Word.{Word}

-- the tree stands at the node, wherever it and its text end
pub record Standing (t : Tree) (ws ts : List ℕ) (i : ℕ) : Type 0 where
  pub next : ℕ
  pub from : ℕ
  pub rest : ℕ
  pub there : TreeStands t ws ts i next from rest

-- the trees stand one after the other from the node on, so many of them
pub record StandingAll (us : Trees) (ws ts : List ℕ) (i many : ℕ) : Type 0 where
  pub next : ℕ
  pub from : ℕ
  pub rest : ℕ
  pub there : StandAll us ws ts i next from rest
  pub many-are : many ≡ count us

-- the text has these bytes there
pub record Reads (s ts : List ℕ) (offset size : ℕ) : Type 0 where
  pub bytes : text_at ts offset size ≡ s
  pub long : size ≡ length s
  pub within : offset + size ≤ length ts

abbrev pub ext_of : Kind → Ext
ext_of Kind.Decimal = decimal
ext_of Kind.Datetime = datetime
ext_of Kind.Duration = duration

abbrev pub Shows : List ℕ → List ℕ → Found → Shape → Type 0
Shows ws ts (Found.Unary op value) s = (v : Tree) × (s ≡ unary op v) × Standing v ws ts value
Shows ws ts (Found.Binary op left right) s = (v : Tree) × (w : Tree) × (s ≡ binary op v w) × Standing v ws ts left × Standing w ws ts right
Shows ws ts (Found.Ite condition left right) s =
    (c : Tree) × (v : Tree) × (w : Tree) × (s ≡ ite c v w) × Standing c ws ts condition × Standing v ws ts left × Standing w ws ts right
Shows ws ts Found.Uncovered s = s ≡ uncovered
Shows ws ts (Found.AsNone sort) s = (t : Tree) × (s ≡ as_none t) × Standing t ws ts sort
Shows ws ts (Found.AsSome sort value) s = (t : Tree) × (v : Tree) × (s ≡ as_some t v) × Standing t ws ts sort × Standing v ws ts value
Shows ws ts (Found.SomeOf value) s = (v : Tree) × (s ≡ some_of v) × Standing v ws ts value
Shows ws ts (Found.AsEmpty sort) s = (t : Tree) × (s ≡ as_empty t) × Standing t ws ts sort
Shows ws ts (Found.Singleton value) s = (v : Tree) × (s ≡ singleton v) × Standing v ws ts value
Shows ws ts (Found.Union left right) s = (v : Tree) × (w : Tree) × (s ≡ union v w) × Standing v ws ts left × Standing w ws ts right
Shows ws ts (Found.Extension kind low) s = (n : ℕ) × (s ≡ extension (ext_of kind) n) × (low ≡ n % 2 ^ 64)
Shows ws ts (Found.Indexed offset size low high) s = (digits : List ℕ) × (s ≡ indexed digits (low + high * 2 ^ 64)) × Reads digits ts offset size
Shows ws ts (Found.Made offset size first many) s = (f : List ℕ) × (us : Trees) × (s ≡ made f us) × Reads f ts offset size × StandingAll us ws ts first many
Shows ws ts Found.Other s = s ≡ other

-- the nodes that are handed on, where the arguments stand one after the other from a node on
abbrev pub Placed : List ℕ → ℕ → Found → Type 0
Placed ws first Found.Uncovered = Unit {0}
Placed ws first (Found.AsNone sort) = Unit {0}
Placed ws first (Found.AsSome sort value) = value ≡ first
Placed ws first (Found.SomeOf value) = value ≡ first
Placed ws first (Found.AsEmpty sort) = Unit {0}
Placed ws first (Found.Singleton value) = value ≡ first
Placed ws first (Found.Union left right) = (left ≡ first) × (right ≡ after_at ws first)
Placed ws first (Found.Extension kind low) = Unit {0}
Placed ws first (Found.Indexed offset size low high) = Unit {0}
Placed ws first (Found.Made offset size from many) = from ≡ first
Placed ws first Found.Other = Unit {0}
Placed ws first (Found.Unary op value) = value ≡ first
Placed ws first (Found.Binary op left right) = (left ≡ first) × (right ≡ after_at ws first)
Placed ws first (Found.Ite condition left right) = (condition ≡ first) × (left ≡ after_at ws first) × (right ≡ after_at ws left)

-- the shape of the application that stands at the node, its arguments behind its head
abbrev pub ShapeShows : List ℕ → List ℕ → ℕ → Found → Type 0
ShapeShows ws ts i r = (us : Trees) → Standing (app us) ws ts i → Shows ws ts r (shape us)

abbrev pub ShapeAt : List ℕ → List ℕ → ℕ → Found → Type 0
ShapeAt ws ts i r = Placed ws (after_at ws (i + 1)) r × ShapeShows ws ts i r

-- the shape of a name's application to the arguments that stand from a node on: to any, to one, to two
abbrev pub AppliedShows : List ℕ → List ℕ → ℕ → ℕ → ℕ → ℕ → Found → Type 0
AppliedShows ws ts offset size first many r = (f : List ℕ) (us : Trees) → Reads f ts offset size → StandingAll us ws ts first many → Shows ws ts r (applied f us)

abbrev pub AppliedAt : List ℕ → List ℕ → ℕ → ℕ → ℕ → ℕ → Found → Type 0
AppliedAt ws ts offset size first many r = Placed ws first r × AppliedShows ws ts offset size first many r

abbrev pub OneAt : (List ℕ → Tree → Shape) → List ℕ → List ℕ → ℕ → ℕ → ℕ → Found → Type 0
OneAt g ws ts offset size first r = Placed ws first r × ((f : List ℕ) (a : Tree) → Reads f ts offset size → Standing a ws ts first → Shows ws ts r (g f a))

abbrev pub TwoAt : (List ℕ → Tree → Tree → Shape) → List ℕ → List ℕ → ℕ → ℕ → ℕ → Found → Type 0
TwoAt g ws ts offset size first r =
    Placed ws first r × ((f : List ℕ) (a b : Tree) → Reads f ts offset size → StandingAll (cons a (cons b nil)) ws ts first 2 → Shows ws ts r (g f a b))

-- the same where the first of the two is a symbol
abbrev pub IndexAt : List ℕ → List ℕ → ℕ → ℕ → ℕ → ℕ → ℕ → Found → Type 0
IndexAt ws ts offset size off long first r =
    Placed ws first r × ((f g : List ℕ) (b : Tree) → Reads f ts offset size → Reads g ts off long → StandingAll (cons (symbol g) (cons b nil)) ws ts first 2 → Shows ws ts r (index_shape f g b))

-- the shape of an application whose head is one itself, its parts from one node on and the arguments from another
abbrev pub HeadedShows : List ℕ → List ℕ → ℕ → ℕ → ℕ → ℕ → Found → Type 0
HeadedShows ws ts inner parts value many r =
    (us vs : Trees) → StandingAll us ws ts inner parts → StandingAll vs ws ts value many → Shows ws ts r (headed us vs)

abbrev pub HeadedAt : List ℕ → List ℕ → ℕ → ℕ → ℕ → ℕ → Found → Type 0
HeadedAt ws ts inner parts value many r = Placed ws value r × HeadedShows ws ts inner parts value many r

-- the shape of the application whose head stands at the node, with so many arguments behind it
abbrev pub ByHeadShows : List ℕ → List ℕ → ℕ → ℕ → Found → Type 0
ByHeadShows ws ts i many r = (h : Tree) (us : Trees) → StandingAll (cons h us) ws ts i (suc many) → Shows ws ts r (shape (cons h us))

abbrev pub ByHeadAt : List ℕ → List ℕ → ℕ → ℕ → Found → Type 0
ByHeadAt ws ts i many r = Placed ws (after_at ws i) r × ByHeadShows ws ts i many r

-- what stands at the node, as far as it is looked at
abbrev pub WordAt : List ℕ → ℕ → Option Word → Type 0
WordAt ws i (Some it) = (ts : List ℕ) (a : Tree) → Standing a ws ts i → (s : List ℕ) × (a ≡ symbol s) × Reads s ts it.offset it.size
WordAt ws i None = (ts : List ℕ) (a : Tree) → Standing a ws ts i → on_symbol a false (λ s. true) ≡ false

abbrev pub IndexOf : List ℕ → ℕ → Option Index → Type 0
IndexOf ws i (Some it) = (ts : List ℕ) (a : Tree) → Standing a ws ts i → a ≡ numeral (it.low + it.high * 2 ^ 64)
IndexOf ws i None = (ts : List ℕ) (a : Tree) → Standing a ws ts i → on_numeral a false (λ n. true) ≡ false

abbrev pub WideAt : List ℕ → ℕ → Option ℕ → Type 0
WideAt ws i (Some low) = (ts : List ℕ) (a : Tree) → Standing a ws ts i → (n : ℕ) × (a ≡ bit_vec 64 n) × (low ≡ n % 2 ^ 64)
WideAt ws i None = (ts : List ℕ) (a : Tree) → Standing a ws ts i → on_bit_vec a false (λ w n. eqb w 64) ≡ false

abbrev pub PartsAt : List ℕ → ℕ → Option ℕ → Type 0
PartsAt ws i (Some many) =
    (i < length ws / stride) × ((ts : List ℕ) (a : Tree) → Standing a ws ts i → (us : Trees) × (a ≡ app us) × StandingAll us ws ts (i + 1) many)
PartsAt ws i None = (ts : List ℕ) (a : Tree) → Standing a ws ts i → on_app a false (λ us. true) ≡ false
