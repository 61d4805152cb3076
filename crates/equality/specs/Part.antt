-- Document 01, "Sorts and literals", `set.empty`, `set.singleton`, `set.union`: what a set at a node is made of, once branches are taken.
use Rattle.std.specs.Prelude.{◌≡◌, List, ℕ, suc, ◌+◌, ◌≤◌, Option}
use Rattle.tables.specs.Sort.{Tables}
use Rattle.shapes.specs.Shape.{as_empty, singleton, union, shape}
use Rattle.arena.specs.Tree.{Tree, Trees, app}
use Rattle.sorts.specs.Sort.{levels}
use Rattle.values.specs.Value.{Values, v_set, v_nil, v_cons, union as both}
use Rattle.means.specs.Literal.{Lit}
use Rattle.settled.specs.Taken.{Stood, Taken, argument}
use Rattle.equality.specs.declared.part.Part.{Part}

module _ (T : Tables) (ms ws ts : List ℕ) (below i last : ℕ) (us : Trees) (vs : Values) where
  pub record Single (n : ℕ) : Type 0 where
    pub tree : Tree
    pub shaped : shape us ≡ singleton tree
    pub expected : Option ℕ
    pub member : Lit
    pub stood : Stood T ms ws ts below expected member (i + 2) last n
    pub same : stood.tree ≡ tree
    pub placed : n ≡ argument ws i 0
    pub are : vs ≡ v_cons member.value v_nil

  pub record Joined (left right : ℕ) : Type 0 where
    pub one : Tree
    pub other : Tree
    pub shaped : shape us ≡ union one other
    pub expected : Option ℕ
    pub first : Lit
    pub second : Lit
    pub firsts : Values
    pub seconds : Values
    pub at_left : Stood T ms ws ts below expected first (i + 2) last left
    pub at_right : Stood T ms ws ts below expected second (i + 2) last right
    pub same_left : at_left.tree ≡ one
    pub same-right : at_right.tree ≡ other
    pub left-placed : left ≡ argument ws i 0
    pub right-placed : right ≡ argument ws i 1
    pub apart : at_left.there.next ≤ right
    pub first-is : first.value ≡ v_set firsts
    pub second_is : second.value ≡ v_set seconds
    pub are : vs ≡ both firsts seconds

  abbrev pub PartSays : Part → Type 0
  PartSays Part.Empty = (t : Tree) × (shape us ≡ as_empty t) × (vs ≡ v_nil)
  PartSays (Part.One n) = Single n
  PartSays (Part.Both left right) = Joined left right
  PartSays Part.NoSet = ⊥

abbrev pub PartAt : List ℕ → List ℕ → ℕ → Part → Type 0
PartAt ws ts i r =
    (T : Tables) (ms : List ℕ) (below : ℕ) (expected : Option ℕ) (l : Lit) (first end : ℕ) → suc below ≤ levels → (h : Taken T ms ws ts (suc below) expected l first end i) (vs : Values) → l.value ≡ v_set vs →
    (us : Trees) × (h.stood.tree ≡ app us) × PartSays T ms ws ts below i h.stood.there.next us vs r
