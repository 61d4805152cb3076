-- Document 01, "Sorts and literals", and document 02, R-2: what the value at a node is, once operators are worked out.
use Rattle.std.specs.Prelude.{◌≡◌, true, false, List, ℕ, suc, ◌+◌, ◌*◌, ◌%◌, ◌^◌, ◌≤◌, ◌<◌, Option, Ok}
use Rattle.ground.specs.Lists.{at}
use Rattle.words.specs.Extension.{signed}
use Rattle.arena.specs.Tree.{Tree, Trees, app, nil, cons}
use Rattle.tables.specs.Layout.{Lent, tables_of}
use Rattle.tables.specs.Sort.{Tables}
use Rattle.shapes.specs.Shape.{made, shape}
use Rattle.shapes.specs.Shows.{Standing, StandingAll, Reads, ext_of}
use Rattle.sorts.specs.Sort.{read_sort, levels}
use Rattle.values.specs.Value.{Value, Values, v_bool, v_string, v_ext, v_bits, v_none, v_some, v_set, v_entity, v_record, v_nil, v_cons}
use Rattle.means.specs.Literal.{Lit, made_row, app_lit, read_with}
use Rattle.settled.specs.Settled.{Settled}
use Rattle.settled.specs.Taken.{ite_shape, Stood, Taken}
use Rattle.forms.specs.declared.form.Form.{Form}

-- the tables that are lent
pub record Given (sorts members names : List ℕ) (l : Lent) : Type 0 where
  pub sorts-are : l.sorts ≡ sorts
  pub members-are : l.members ≡ members
  pub names-are : l.names ≡ names

-- the trees are read as the values
pub data Listed (T : Tables) (allow : ℕ) : Trees → Values → Type 0 where
  l_nil : Listed T allow nil v_nil
  l_cons : {u : Tree} {us : Trees} {vs : Values} (expected : Option ℕ) (k : Lit) → read_with T true allow expected u ≡ Ok k → Listed T allow us vs → Listed T allow (cons u us) (v_cons k.value vs)

-- of the literal that stands from node i up to the last, so many levels below it
module _ (T : Tables) (ms ws ts names : List ℕ) (below i last : ℕ) where
  -- an option, and what is inside it at a node
  pub record Optional (v : Value) (n : ℕ) : Type 0 where
    pub expected : Option ℕ
    pub inner : Lit
    pub stood : Stood T ms ws ts below expected inner (i + 1) last n
    pub is : v ≡ v_some inner.value

  -- a record, and so many fields from a node on
  pub record Fielded (v : Value) (row first many : ℕ) : Type 0 where
    pub trees : Trees
    pub fields : Values
    pub there : StandingAll trees ws ts first many
    pub behind : i < first
    pub to_last : there.next ≡ last
    pub reads : Listed T below trees fields
    pub settled : Settled T ms ws ts first last
    pub is : v ≡ v_record row fields

  abbrev pub Says : Value → Form → Type 0
  Says v (Form.Truth b) = v ≡ v_bool b
  Says v (Form.Text offset size) = (s : List ℕ) × Reads s ts offset size × (v ≡ v_string s)
  Says v (Form.Number kind low) = v ≡ v_ext (ext_of kind) (signed 64 low)
  Says v (Form.Bits width low high) = v ≡ v_bits width ((low + high * 2 ^ 64) % 2 ^ width)
  Says v Form.Nothing = v ≡ v_none
  Says v (Form.Inside n) = Optional v n
  Says v Form.Set = (vs : Values) × (v ≡ v_set vs)
  Says v (Form.Entity row offset size) = (s : List ℕ) × Reads s ts offset size × (v ≡ v_entity row s)
  Says v (Form.Member row offset size) = (s : List ℕ) × Reads s names offset size × (v ≡ v_entity row s)
  Says v (Form.Record row first many) = Fielded v row first many
  Says v Form.NoForm = ⊥

-- the value that is left at a node where no `ite` is
abbrev pub FormAt : List ℕ → List ℕ → List ℕ → List ℕ → List ℕ → List ℕ → ℕ → Form → Type 0
FormAt sorts members names ws ts ms i r =
    (l : Lent) → Given sorts members names l → (below : ℕ) (expected : Option ℕ) (k : Lit) (first end : ℕ) → suc below ≤ levels →
    (h : Taken (tables_of l) ms ws ts (suc below) expected k first end i) → Says (tables_of l) ms ws ts names below i h.stood.there.next k.value r

-- the same of an application
abbrev pub AppForm : List ℕ → List ℕ → List ℕ → List ℕ → List ℕ → ℕ → Form → Type 0
AppForm sorts names ws ts ms i r =
    (l : Lent) → l.sorts ≡ sorts → l.names ≡ names → (us : Trees) (s : Standing (app us) ws ts i) (below : ℕ) (expected : Option ℕ) (k : Lit) → suc below ≤ levels →
    read_with (tables_of l) true (suc below) expected (app us) ≡ Ok k → ite_shape (shape us) ≡ false → Settled (tables_of l) ms ws ts i s.next →
    Says (tables_of l) ms ws ts names below i s.next k.value r

-- that of a name to so many arguments from a node on, and that of a row's name
abbrev pub MadeForm : List ℕ → List ℕ → List ℕ → List ℕ → ℕ → ℕ → ℕ → ℕ → Form → Type 0
MadeForm sorts names ws ts offset size first many r =
    (l : Lent) → l.sorts ≡ sorts → l.names ≡ names → (f : List ℕ) (us : Trees) → Reads f ts offset size → (s : StandingAll us ws ts first many) (ms : List ℕ) (below i : ℕ) (expected : Option ℕ) (k : Lit) →
    app_lit (tables_of l) (λ t. read_sort (tables_of l) below t) (λ e u. read_with (tables_of l) true below e u) true expected (made f us) ≡ Ok k → i < first → Settled (tables_of l) ms ws ts i s.next →
    Says (tables_of l) ms ws ts names below i s.next k.value r

abbrev pub RowForm : List ℕ → List ℕ → ℕ → ℕ → ℕ → Form → Type 0
RowForm sorts ws row first many r =
    (l : Lent) → l.sorts ≡ sorts → (us : Trees) (ts : List ℕ) (s : StandingAll us ws ts first many) (ms names : List ℕ) (below i : ℕ) (k : Lit) →
    made_row (tables_of l) (λ t. read_sort (tables_of l) below t) (λ e u. read_with (tables_of l) true below e u) row (at (tables_of l).sorts row) us ≡ Ok k → i < first → Settled (tables_of l) ms ws ts i s.next →
    Says (tables_of l) ms ws ts names below i s.next k.value r
