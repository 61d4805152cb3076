-- Document 01, "The listing": what is left where a value was opened: the text of a value without another one in it, or what stands before the fields or the members of the others; and a set closed.
use Rattle.std.specs.Prelude.{◌≡◌, false, List, ◌++◌, ℕ, suc, Option, Ok}
use Rattle.ground.specs.Bytes.{bytes}
use Rattle.lent.specs.Put.{Offers}
use Rattle.runs.specs.Run.{run}
use Rattle.arena.specs.Tree.{Tree, Trees, app}
use Rattle.tables.specs.Layout.{Lent, tables_of}
use Rattle.tables.specs.Sort.{Tables}
use Rattle.shapes.specs.Shape.{made}
use Rattle.shapes.specs.Shows.{Standing, StandingAll, Reads}
use Rattle.sorts.specs.Sort.{read_sort}
use Rattle.values.specs.Value.{Value, Values, v_set}
use Rattle.values.specs.Text.{text, texts}
use Rattle.values.specs.Normal.{normal, normals}
use Rattle.values.specs.HasSort.{HasSort, HaveSort, Loose}
use Rattle.means.specs.Literal.{Lit, read, app_lit}
use Rattle.value_text.specs.declared.open.Opened.{Opened}
use Rattle.value_text.specs.Laid.{Lays}
use Rattle.value_text.specs.Value.{Given, Listed, onward, Writes}

-- the value's text is a head, the texts of the fields that stand from a node on, and `)`
pub record Fielded (T : Tables) (ws ts : List ℕ) (below first many : ℕ) (v : Value) (head : List ℕ) : Type 0 where
  pub trees : Trees
  pub fields : Values
  pub there : StandingAll trees ws ts first many
  pub reads : Listed T below trees fields
  pub as_read : text v ≡ head ++ (onward 0 (texts fields) ++ bytes ")")
  pub as_written : text (normal v) ≡ head ++ (onward 0 (texts (normals fields)) ++ bytes ")")

abbrev pub Opens : Tables → List ℕ → List ℕ → ℕ → Value → List ℕ → List ℕ → Opened → Type 0
Opens T ws ts below v entry exit (Opened.Whole r) = Writes v entry exit r
Opens T ws ts below v entry exit (Opened.Fields first many place) = (head : List ℕ) × (Offers entry exit 0 head place) × Fielded T ws ts below first many v head
Opens T ws ts below v entry exit (Opened.Set place) = (Offers entry exit 0 (bytes "{") place) × ((vs : Values) × (v ≡ v_set vs))

-- a set closed, whose members were laid behind its first brace
abbrev pub ClosesSet : List ℕ → List ℕ → ℕ → ℕ → ℕ → Type 0
ClosesSet entry exit place end r =
    (a b : List ℕ) → Offers a b 0 (bytes "{") place → (T : Tables) (row : ℕ) (vs : Values) → HaveSort vs Loose T row → Lays (run (texts vs)) (run (texts (normals vs))) b entry place end →
    Writes (v_set vs) a exit r

-- of the value that is read at a node with so many levels below it, and has a sort
abbrev pub OpensValue : List ℕ → List ℕ → List ℕ → List ℕ → List ℕ → ℕ → List ℕ → List ℕ → Opened → Type 0
OpensValue sorts members names ws ts i entry exit o =
    (l : Lent) → Given sorts members names l → (t : Tree) → Standing t ws ts i → (below : ℕ) (expected : Option ℕ) (k : Lit) → read (tables_of l) (suc below) expected t ≡ Ok k →
    (row : ℕ) → HasSort k.value Loose (tables_of l) row → Opens (tables_of l) ws ts below k.value entry exit o

-- the same of an application, and of that of a name
module _ (sorts names ws ts : List ℕ) where
  abbrev pub OpensApp : ℕ → List ℕ → List ℕ → Opened → Type 0
  OpensApp i entry exit o =
      (l : Lent) → l.sorts ≡ sorts → l.names ≡ names → (us : Trees) → Standing (app us) ws ts i → (below : ℕ) (expected : Option ℕ) (k : Lit) → read (tables_of l) (suc below) expected (app us) ≡ Ok k →
      (row : ℕ) → HasSort k.value Loose (tables_of l) row → Opens (tables_of l) ws ts below k.value entry exit o

  abbrev pub OpensMade : ℕ → ℕ → ℕ → ℕ → List ℕ → List ℕ → Opened → Type 0
  OpensMade offset size first many entry exit o =
      (l : Lent) → l.sorts ≡ sorts → l.names ≡ names → (f : List ℕ) (us : Trees) → Reads f ts offset size → StandingAll us ws ts first many → (below : ℕ) (expected : Option ℕ) (k : Lit) →
      app_lit (tables_of l) (λ t. read_sort (tables_of l) below t) (λ e u. read (tables_of l) below e u) false expected (made f us) ≡ Ok k →
      (row : ℕ) → HasSort k.value Loose (tables_of l) row → Opens (tables_of l) ws ts below k.value entry exit o
