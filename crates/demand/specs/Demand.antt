-- Document 01, "The model walk" and "The listing", and document 02, R-1: demand 3, what the definitions that a listing prints say of an accepted reply.
use Rattle.std.specs.Prelude.{◌≡◌, true, List, ℕ, None, Option, Some}
use Rattle.ground.specs.Lists.{at}
use Rattle.arena.specs.Tree.{Tree}
use Rattle.tables.specs.Sort.{Variable, Function, Tables}
use Rattle.sorts.specs.Sort.{levels}
use Rattle.values.specs.HasSort.{HasSort, Ascending}
use Rattle.values.specs.Value.{Value}
use Rattle.means.specs.Literal.{read}
use Rattle.commands.specs.declared.form.Form.{Form}
use Rattle.model.specs.Model.{Table, Definition, last_variable, last_function}
use Rattle.demand.specs.Meaning.{value_of, meaning}
use Rattle.demand.specs.Lookup.{lookup, Gives}
use Rattle.demand.specs.Last.{Body, last_term, last_body}
use Rattle.demand.specs.Premise.{apart, no_two}

-- a value of a row's sort, its sets in order
abbrev pub Sorted : Tables → ℕ → Value → Type 0
Sorted T row v = HasSort v Ascending T row

-- one value, of the row's sort
pub record One (T : Tables) (row : ℕ) (t : Table) (v : Value) : Type 0 where
  pub given : Gives t v (lookup t v)
  pub only : (w : Value) → Gives t v w → w ≡ lookup t v
  pub sorted : Sorted T row (lookup t v)

-- a variable that the reply does not define has no value; one that it does has one, of its sort, and it is its last term's
pub data OfVariable (T : Tables) (x : Variable) : Option Tree → Option Value → Type 0 where
  undefined : OfVariable T x None None
  defined : {t : Tree} {v : Value} → Sorted T x.sort v → value_of (read T levels (Some x.sort) t) ≡ Some v → OfVariable T x (Some t) (Some v)

-- what a function's table gives each argument: one value, and under the premises it is what the last body means; this holds of every value, so of those of the argument's sort
pub record TableOf (T : Tables) (f : Function) (b : Body) (table : Table) : Type 0 where
  pub one : (v : Value) → One T f.result table v
  pub means : apart T b.argument ≡ true → no_two T f b ≡ true → (v : Value) → meaning b.term T b.argument v (Some f.result) ≡ Some (lookup table v)

-- a function that the model does not define has no table, and one that it does has one
pub data OfFunction (T : Tables) (f : Function) : Option Body → Option Table → Type 0 where
  undefined : OfFunction T f None None
  defined : {b : Body} {table : Table} → TableOf T f b table → OfFunction T f (Some b) (Some table)

-- demand 3's first sentence, of a reply and of the definitions that its listing prints
abbrev pub First : Tables → Form → Tree → List Definition → Type 0
First T form t ds = (i : ℕ) (x : Variable) → at T.variables i ≡ Some x → OfVariable T x (last_term T i form t) (last_variable i ds)

-- demand 3, of a model
pub record Demand (T : Tables) (t : Tree) (ds : List Definition) : Type 0 where
  pub variables : First T Form.Model t ds
  pub functions : (i : ℕ) (f : Function) → at T.functions i ≡ Some f → OfFunction T f (last_body T i t) (last_function i ds)

-- R-1: its first sentence, of a reply to get-value, which defines no function
pub record Valued (T : Tables) (t : Tree) (ds : List Definition) : Type 0 where
  pub variables : First T Form.Values t ds
  pub functions : (i : ℕ) → last_function i ds ≡ None

-- of a reply, by its form
abbrev pub Demanded : Form → Tables → Tree → List Definition → Type 0
Demanded Form.Model T t ds = Demand T t ds
Demanded Form.Values T t ds = Valued T t ds
