-- Document 02, R-2, `ite`: the literal that is left of one at a node where each `ite` is its taken branch.
use Rattle.std.specs.Prelude.{◌≡◌, Bool, true, false, cond, List, ℕ, zero, suc, ◌+◌, ◌≤◌, ◌<◌, Option, Some, None, Ok}
use Rattle.arena.specs.Node.{after_at}
use Rattle.arena.specs.Tree.{Tree, Trees, bit_vec, numeral, string, symbol, app}
use Rattle.tables.specs.Sort.{Tables}
use Rattle.shapes.specs.Shape.{Shape, uncovered, as_none, as_some, some_of, as_empty, singleton, union, extension, indexed, made, other, unary, binary, ite, shape}
use Rattle.shapes.specs.Shows.{Standing}
use Rattle.sorts.specs.Sort.{levels}
use Rattle.means.specs.Literal.{Lit, read_with}
use Rattle.marks.specs.Mark.{marked}
use Rattle.settled.specs.Settled.{decision, Settled}

-- an `ite`
abbrev pub ite_shape : Shape → Bool
ite_shape uncovered = false
ite_shape (as_none t) = false
ite_shape (as_some t v) = false
ite_shape (some_of v) = false
ite_shape (as_empty t) = false
ite_shape (singleton v) = false
ite_shape (union v w) = false
ite_shape (extension x n) = false
ite_shape (indexed digits w) = false
ite_shape (made f us) = false
ite_shape other = false
ite_shape (unary op v) = false
ite_shape (binary op v w) = false
ite_shape (ite c v w) = true

abbrev pub is_ite : Tree → Bool
is_ite (bit_vec w n) = false
is_ite (numeral n) = false
is_ite (string s) = false
is_ite (symbol s) = false
is_ite (app us) = ite_shape (shape us)

-- the literal of a value at a node inside a part of the arena, read with so many levels
pub record Stood (T : Tables) (ms ws ts : List ℕ) (allow : ℕ) (expected : Option ℕ) (l : Lit) (first end i : ℕ) : Type 0 where
  pub tree : Tree
  pub there : Standing tree ws ts i
  pub behind : first ≤ i
  pub within : there.next ≤ end
  pub reads : read_with T true allow expected tree ≡ Ok l
  pub settled : Settled T ms ws ts i there.next

pub record Taken (T : Tables) (ms ws ts : List ℕ) (allow : ℕ) (expected : Option ℕ) (l : Lit) (first end i : ℕ) : Type 0 where
  pub stood : Stood T ms ws ts allow expected l first end i
  pub plain : is_ite stood.tree ≡ false

-- where the arguments of an application stand, one behind the other
abbrev pub argument : List ℕ → ℕ → ℕ → ℕ
argument ws i zero = after_at ws (i + 1)
argument ws i (suc n) = after_at ws (argument ws i n)

-- from a tree at a node to the branch that is left of it, by what the conditions decide
pub data Leads (T : Tables) (ws : List ℕ) : Tree → ℕ → Tree → ℕ → Type 0 where
  stays : {t : Tree} {i : ℕ} → Leads T ws t i t i
  takes : {us : Trees} {u : Tree} {i j : ℕ} (c v w : Tree) (b : Bool) → shape us ≡ ite c v w → decision T (shape us) ≡ Some b →
      Leads T ws (cond b v w) (cond b (argument ws i 1) (argument ws i 2)) u j → Leads T ws (app us) i u j

-- the branch of an `ite` that is taken by what is remembered of it, behind the node and not beyond the end
pub record Branch (ms ws ts : List ℕ) (t : Tree) (i end j : ℕ) : Type 0 where
  pub parts : Trees
  pub condition : Tree
  pub left : Tree
  pub right : Tree
  pub is : t ≡ app parts
  pub shaped : shape parts ≡ ite condition left right
  pub there : Standing (cond (marked ms i) left right) ws ts j
  pub placed : j ≡ cond (marked ms i) (argument ws i 1) (argument ws i 2)
  pub behind : i < j
  pub within : there.next ≤ end

abbrev pub StepAt : List ℕ → List ℕ → List ℕ → ℕ → Option ℕ → Type 0
StepAt ms ws ts i None = (t : Tree) → Standing t ws ts i → is_ite t ≡ false
StepAt ms ws ts i (Some j) = (t : Tree) (s : Standing t ws ts i) → Branch ms ws ts t i s.next j

abbrev pub TakesAt : List ℕ → List ℕ → List ℕ → ℕ → ℕ → Type 0
TakesAt ms ws ts i j =
    (T : Tables) (allow : ℕ) (expected : Option ℕ) (l : Lit) → allow ≤ levels → (first end : ℕ) (h : Stood T ms ws ts allow expected l first end i) →
    (k : Taken T ms ws ts allow expected l first end j) × Leads T ws h.tree i k.stood.tree j
