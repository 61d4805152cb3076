-- Document 01, "The listing": what is left where a value is written: its text, sets in order without repeats, in the room of the text as it was read.
use Rattle.std.specs.Prelude.{◌≡◌, List, [], ◌∷◌, ◌++◌, ℕ, zero, suc, ◌≤◌, length, Option, Ok}
use Rattle.ground.specs.Bytes.{bytes}
use Rattle.runs.specs.Run.{run}
use Rattle.arena.specs.Tree.{Tree, Trees, nil, cons}
use Rattle.tables.specs.Layout.{Lent, tables_of}
use Rattle.tables.specs.Sort.{Tables}
use Rattle.shapes.specs.Shows.{Standing, StandingAll}
use Rattle.values.specs.Value.{Value, Values, v_set, v_nil, v_cons}
use Rattle.values.specs.Text.{text, texts}
use Rattle.values.specs.Normal.{normal, normals}
use Rattle.values.specs.HasSort.{HasSort, HaveSort, Loose}
use Rattle.means.specs.Literal.{Lit, read}
use Rattle.value_text.specs.Wrote.{Wrote}
use Rattle.value_text.specs.Laid.{Lays}

-- the tables that are lent
pub record Given (sorts members names : List ℕ) (l : Lent) : Type 0 where
  pub sorts-are : l.sorts ≡ sorts
  pub members-are : l.members ≡ members
  pub names-are : l.names ≡ names

-- the trees are read as the values, each of some sort
pub data Listed (T : Tables) (allow : ℕ) : Trees → Values → Type 0 where
  l_nil : Listed T allow nil v_nil
  l_cons : {u : Tree} {us : Trees} {vs : Values} (expected : Option ℕ) (k : Lit) → read T allow expected u ≡ Ok k → (row : ℕ) → HasSort k.value Loose T row → Listed T allow us vs →
      Listed T allow (cons u us) (v_cons k.value vs)

-- what stands before part i
abbrev pub comma : ℕ → List ℕ
comma zero = []
comma (suc i) = bytes ","

-- the parts from part i on
unfoldable pub onward : ℕ → List (List ℕ) → List ℕ
onward i [] = []
onward i (t ∷ ts) = comma i ++ (t ++ onward (suc i) ts)

-- a value at the front of what is lent, where there is room for its text as it was read
abbrev pub Writes : Value → List ℕ → List ℕ → ℕ → Type 0
Writes v entry exit r = length (text v) ≤ length entry → Wrote (length (text v)) (text (normal v)) entry exit r

module _ (sorts members names ws ts : List ℕ) where
  -- of the value that is read at a node, with so many levels, and has a sort
  abbrev pub ReadAt : ℕ → ℕ → (Value → Type 0) → Type 0
  ReadAt i allow P =
      (l : Lent) → Given sorts members names l → (t : Tree) → Standing t ws ts i → (expected : Option ℕ) (k : Lit) → read (tables_of l) allow expected t ≡ Ok k →
      (row : ℕ) → HasSort k.value Loose (tables_of l) row → P k.value

  -- the value at a node at the front, and at a place
  abbrev pub WritesValue : ℕ → ℕ → List ℕ → List ℕ → ℕ → Type 0
  WritesValue i allow entry exit r = ReadAt i allow (λ v. Writes v entry exit r)

  abbrev pub WritesInside : ℕ → ℕ → List ℕ → List ℕ → ℕ → ℕ → Type 0
  WritesInside i allow entry exit place r = ReadAt i allow (λ v. Lays (text v) (text (normal v)) entry exit place r)

  -- the set at a node, with so many levels below it: its members, each ended
  abbrev pub SetAt : ℕ → ℕ → (Values → Type 0) → Type 0
  SetAt i below P =
      (l : Lent) → Given sorts members names l → (t : Tree) → Standing t ws ts i → (expected : Option ℕ) (k : Lit) → read (tables_of l) (suc below) expected t ≡ Ok k →
      (vs : Values) → k.value ≡ v_set vs → (row : ℕ) → HaveSort vs Loose (tables_of l) row → P vs

  abbrev pub WritesMembers : ℕ → ℕ → List ℕ → List ℕ → ℕ → ℕ → Type 0
  WritesMembers i below entry exit place r = SetAt i below (λ vs. Lays (run (texts vs)) (run (texts (normals vs))) entry exit place r)

  -- so many fields from a node on
  abbrev pub FieldsAt : ℕ → ℕ → ℕ → (Values → Type 0) → Type 0
  FieldsAt first many allow P =
      (l : Lent) → Given sorts members names l → (us : Trees) → StandingAll us ws ts first many → (vs : Values) → Listed (tables_of l) allow us vs → P vs

  abbrev pub WritesFields : ℕ → ℕ → ℕ → List ℕ → List ℕ → ℕ → ℕ → Type 0
  WritesFields first many allow entry exit place r =
      FieldsAt first many allow (λ vs. Lays (onward 0 (texts vs)) (onward 0 (texts (normals vs))) entry exit place r)
