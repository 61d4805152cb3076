-- Document 01, "Sorts and literals": what is left to read of a literal once its own node is read: nothing, one literal, two, or a record's fields.
use Rattle.std.specs.Prelude.{◌≡◌, false, List, ℕ, suc, length, Option, Result, Ok, Err}
use Rattle.ground.specs.Lists.{at}
use Rattle.refusals.specs.declared.Refusal.TheVariants.{UnmatchedRecordType}
use Rattle.arena.specs.Tree.{Tree, Trees, app}
use Rattle.tables.specs.Layout.{Lent, part, tables_of}
use Rattle.tables.specs.Sort.{Tables}
use Rattle.shapes.specs.Shape.{shape}
use Rattle.shapes.specs.Shows.{Standing, StandingAll}
use Rattle.sorts.specs.Result.{◌>>=◌, unless}
use Rattle.sorts.specs.Sort.{read_sort}
use Rattle.values.specs.Value.{v_record}
use Rattle.literals.specs.declared.form.Form.{Form}
use Rattle.literals.specs.declared.form.Then.{Then}
use Rattle.literals.specs.declared.plan.Plan.{Plan}
use Rattle.means.specs.Literal.{Lit, lit, read, fields_of, union_lit, same_count, entity_lit, made_row, made_lit, expect_in, app_lit}
use Rattle.literals.specs.Answer.{answer}
use Rattle.literals.specs.Parts.{inside_of, then_lit}
use Rattle.literals.specs.declared.answer.Literal.{Literal}
use Rattle.refusals.specs.declared.Refusal.{Refusal}

-- what a plan says of the literal that it is the plan of, with so many levels below
abbrev pub Means : Tables → List ℕ → List ℕ → List ℕ → Option ℕ → ℕ → Result Plan Refusal → Result Lit Refusal → Type 0
Means T fields ws ts expected below (Err r) m = Err r ≡ answer m
Means T fields ws ts expected below (Ok (Plan.Done a)) m = Ok a ≡ answer m
Means T fields ws ts expected below (Ok (Plan.One value inside step)) m =
    (v : Tree) × Standing v ws ts value × (m ≡ (read T below inside v >>= λ l. then_lit T step l))
Means T fields ws ts expected below (Ok (Plan.Two left right)) m =
    (v : Tree) × (w : Tree) × Standing v ws ts left × Standing w ws ts right
    × (m ≡ (read T below expected v >>= λ l. read T below expected w >>= λ k. union_lit l k))
Means T fields ws ts expected below (Ok (Plan.Record row node first many)) m =
    (us : Trees) × StandingAll us ws ts node many × (length (part fields first many) ≡ many)
    × (m ≡ (fields_of (λ e u. read T below e u) (part fields first many) us >>= λ vs. Ok (lit row (v_record row vs))))

-- the tables that are lent
pub record Given (sorts fields members names : List ℕ) (l : Lent) : Type 0 where
  pub sorts-are : l.sorts ≡ sorts
  pub fields-are : l.fields ≡ fields
  pub members-are : l.members ≡ members
  pub names-are : l.names ≡ names

module _ (sorts fields members names ws ts : List ℕ) where
  -- the literal at a node
  abbrev pub PlansAt : ℕ → Option ℕ → ℕ → Result Plan Refusal → Type 0
  PlansAt i expected below r =
      (l : Lent) → Given sorts fields members names l → (t : Tree) → Standing t ws ts i →
      Means (tables_of l) fields ws ts expected below r (read (tables_of l) (suc below) expected t)

  -- what a literal at a node answers, and what the record walk answers for the fields from a first one on
  abbrev pub DecodesAt : ℕ → Option ℕ → ℕ → Result Literal Refusal → Type 0
  DecodesAt i expected allow r =
      (l : Lent) → Given sorts fields members names l → (t : Tree) → Standing t ws ts i → r ≡ answer (read (tables_of l) allow expected t)

  abbrev pub FieldsAt : ℕ → ℕ → ℕ → ℕ → ℕ → Result Literal Refusal → Type 0
  FieldsAt row node first many allow r =
      (l : Lent) → Given sorts fields members names l → (us : Trees) → StandingAll us ws ts node many → length (part fields first many) ≡ many →
      r ≡ answer (fields_of (λ e u. read (tables_of l) allow e u) (part fields first many) us >>= λ vs. Ok (lit row (v_record row vs)))

-- an entity's literal, whatever the text
abbrev pub EntityAt : List ℕ → ℕ → ℕ → ℕ → Result Literal Refusal → Type 0
EntityAt ws row first many r = (ts : List ℕ) (us : Trees) → StandingAll us ws ts first many → r ≡ answer (entity_lit row us)

-- a record of so many fields from one on, whatever the tables
abbrev pub RecordAs : ℕ → ℕ → ℕ → ℕ → ℕ → ℕ → Result Plan Refusal → Type 0
RecordAs most row begin size node many r =
    (T : Tables) (fields : List ℕ) → length fields ≡ most → (ws ts : List ℕ) (expected : Option ℕ) (below : ℕ) (us : Trees) → StandingAll us ws ts node many →
    Means T fields ws ts expected below r
    (unless (same_count (part fields begin size) us) UnmatchedRecordType (fields_of (λ e u. read T below e u) (part fields begin size) us >>= λ vs. Ok (lit row (v_record row vs))))

-- (NAME ..) to the arguments that stand from a node on, by NAME's row and by NAME
abbrev pub PlansRow : List ℕ → ℕ → List ℕ → ℕ → ℕ → ℕ → Result Plan Refusal → Type 0
PlansRow sorts most ws row first many r =
    (l : Lent) → l.sorts ≡ sorts → length l.fields ≡ most → (ts : List ℕ) (expected : Option ℕ) (below : ℕ) (us : Trees) → StandingAll us ws ts first many →
    Means (tables_of l) l.fields ws ts expected below r
    (made_row (tables_of l) (λ t. read_sort (tables_of l) below t) (λ e u. read (tables_of l) below e u) row (at (tables_of l).sorts row) us)

abbrev pub PlansMade : List ℕ → ℕ → List ℕ → List ℕ → List ℕ → ℕ → ℕ → Result Plan Refusal → Type 0
PlansMade sorts most names ws name first many r =
    (l : Lent) → l.sorts ≡ sorts → l.names ≡ names → length l.fields ≡ most → (ts : List ℕ) (expected : Option ℕ) (below : ℕ) (us : Trees) → StandingAll us ws ts first many →
    Means (tables_of l) l.fields ws ts expected below r (made_lit (tables_of l) (λ t. read_sort (tables_of l) below t) (λ e u. read (tables_of l) below e u) name us)

-- (some v), (set.singleton v)
abbrev pub then_of : Form → Then
then_of Form.Option = Then.Some
then_of Form.Set = Then.Singleton

abbrev pub PlansInside : List ℕ → Option ℕ → Form → ℕ → Result Plan Refusal → Type 0
PlansInside sorts expected form value r =
    (l : Lent) → l.sorts ≡ sorts → (fields ws ts : List ℕ) (below : ℕ) (v : Tree) → Standing v ws ts value →
    Means (tables_of l) fields ws ts expected below r
    (expect_in (tables_of l) (inside_of form) expected >>= λ q. read (tables_of l) below q v >>= λ k. then_lit (tables_of l) (then_of form) k)

-- an application
abbrev pub PlansApp : List ℕ → ℕ → List ℕ → List ℕ → List ℕ → ℕ → Option ℕ → ℕ → Result Plan Refusal → Type 0
PlansApp sorts most names ws ts i expected below r =
    (l : Lent) → l.sorts ≡ sorts → l.names ≡ names → length l.fields ≡ most → (us : Trees) → Standing (app us) ws ts i →
    Means (tables_of l) l.fields ws ts expected below r
    (app_lit (tables_of l) (λ t. read_sort (tables_of l) below t) (λ e u. read (tables_of l) below e u) false expected (shape us))
