-- Document 01, "Sorts and literals": what it is for a value to have the sort of a row; a text is UTF-8, as the arena's are.
use Rattle.std.specs.Prelude.{◌≡◌, true, List, [], ◌∷◌, ℕ, ◌<◌, ◌^◌, Some}
use Rattle.ground.specs.Lists.{at}
use Rattle.utf8.specs.Octets.{utf8}
use Rattle.order.specs.Order.{before}
use Rattle.tables.specs.Sort.{Sort, bool, string, ext, bit_vec, option_of, set_of, entity_of, record_of, Tables}
use Rattle.values.specs.Value.{Value, Values, v_bool, v_string, v_ext, v_bits, v_none, v_some, v_set, v_entity, v_record, v_nil, v_cons}
use Rattle.values.specs.Text.{text}
use Rattle.values.specs.Plain.{InWord}

-- each text before the next: in order, and no repeats
abbrev pub Ascending : Values → Type 0
Ascending v_nil = Unit {0}
Ascending (v_cons v v_nil) = Unit {0}
Ascending (v_cons v (v_cons w ws)) = (before (text v) (text w) ≡ true) × Ascending (v_cons w ws)

-- nothing is asked of a set's members
abbrev pub Loose : Values → Type 0
Loose vs = Unit {0}

-- the row is an option or a set, and the one inside it is as asked
pub record Of (T : Tables) (make : ℕ → Sort) (row : ℕ) (P : ℕ → Type 0) : Type 0 where
  pub inner : ℕ
  pub here : at T.sorts row ≡ Some (make inner)
  pub has : P inner

-- the value's own row is that of an entity
pub record Named (T : Tables) (own row : ℕ) (s : List ℕ) : Type 0 where
  pub name : List ℕ
  pub here : at T.sorts row ≡ Some (entity_of name)
  pub same : own ≡ row
  pub has : utf8 s ≡ true

-- the value's own row is that of a record, and the fields are as asked
pub record Fields (T : Tables) (own row : ℕ) (P : List ℕ → Type 0) : Type 0 where
  pub name : List ℕ
  pub fields : List ℕ
  pub here : at T.sorts row ≡ Some (record_of name fields)
  pub same : own ≡ row
  pub has : P fields

-- a first field and the others
pub record Field (P : ℕ → Type 0) (Q : List ℕ → Type 0) (fields : List ℕ) : Type 0 where
  pub first : ℕ
  pub rest : List ℕ
  pub both : fields ≡ first ∷ rest
  pub head : P first
  pub tail : Q rest

-- A says what is asked of a set's members: Loose of a literal as written, Ascending of a value
abbrev mutual
  pub HasSort : Value → (Values → Type 0) → Tables → ℕ → Type 0
  HasSort (v_bool b) A T r = at T.sorts r ≡ Some bool
  HasSort (v_string s) A T r = (at T.sorts r ≡ Some string) × (utf8 s ≡ true)
  HasSort (v_ext e z) A T r = (at T.sorts r ≡ Some (ext e)) × InWord z
  HasSort (v_bits w n) A T r = (at T.sorts r ≡ Some (bit_vec w)) × (n < 2 ^ w)
  HasSort v_none A T r = Of T option_of r (λ q. Unit {0})
  HasSort (v_some v) A T r = Of T option_of r (λ q. HasSort v A T q)
  HasSort (v_set vs) A T r = Of T set_of r (λ q. HaveSort vs A T q) × A vs
  HasSort (v_entity q s) A T r = Named T q r s
  HasSort (v_record q vs) A T r = Fields T q r (λ fs. FieldSorts vs A T fs)

  pub HaveSort : Values → (Values → Type 0) → Tables → ℕ → Type 0
  HaveSort v_nil A T r = Unit {0}
  HaveSort (v_cons v vs) A T r = HasSort v A T r × HaveSort vs A T r

  pub FieldSorts : Values → (Values → Type 0) → Tables → List ℕ → Type 0
  FieldSorts v_nil A T fs = fs ≡ []
  FieldSorts (v_cons v vs) A T fs = Field (λ f. HasSort v A T f) (λ gs. FieldSorts vs A T gs) fs
