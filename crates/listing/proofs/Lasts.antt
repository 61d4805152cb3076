-- The definition that is kept for a slot is its row's last one, and stands on what it was read from.
-- Assumes nothing.
use Rattle.std.proofs.Common.{None, Option, Some}
use mathlib.Core.Path.{◌≡◌, refl, sym, ap, ap₂, ◌∙◌, subst}
use mathlib.Core.Bool.{cond}
use mathlib.Core.List.{List, [], ◌∷◌}
use Prim.Native.Nat.{ℕ, min, ◌+◌, ◌^◌, ◌<◌}
use native.Mathlib.Omega.{arith}
use lib.Dec.{eqb}
use borrow.Author.Tests.{eq-eqb, ne_eqb, eqb-true, eqb-false}
use Rattle.ground.proofs.Tests.{by_test}
use Rattle.order.specs.Every.{Every, also}
use Rattle.tables.specs.Layout.{Lent, count, tables_of}
use Rattle.tables.proofs.Rows.{variable-count, function-count}
use Rattle.values.specs.Value.{Value}
use Rattle.literals.specs.Answer.{capped}
use Rattle.model.specs.Model.{Table, Definition, is_variable, is_function, or_else, variable_in, function_in, last_variable, last_function}
use Rattle.model.proofs.Choices.{mapped, mapped_or}
use Rattle.definitions.specs.Measure.{value_size, table_size}
use Rattle.walk.specs.Noted.{slot, size}
use Rattle.walk.specs.Last.{slots, node_word, value_word, need_word, word_at, last_in, Words, Holds}
use Rattle.walk.specs.Placed.{Placed, its, Within}
use Rattle.listing.specs.Grounds.{ValueStands, TableStands, Stands, Grounded, Known}

-- the last one of a slot's name has that slot, and stands on what it was read from
module _ (l : Lent) (ws ts : List ℕ) (k : ℕ) where
  pub record Owns (p : Placed) : Type 0 where
    pub slot_is : k ≡ slot l p.it
    pub ground : Grounded l ws ts p

  abbrev pub OwnsIn : Option Placed → Type 0
  OwnsIn None = Unit {0}
  OwnsIn (Some p) = Owns p

  owns_if : (p : Placed) → Grounded l ws ts p → OwnsIn (cond (eqb k (slot l p.it)) (Some p) None)
  owns_if p g = by_test (eqb k (slot l p.it)) (λ h. rw h (record { slot_is = eqb-true k (slot l p.it) h; ground = g })) (λ h. rw h tt)

  owns_or : (a b : Option Placed) → OwnsIn a → OwnsIn b → OwnsIn (or_else a b)
  owns_or None b f g = g
  owns_or (Some p) b f g = f

  pub slot_owned : (ps : List Placed) → Every (Grounded l ws ts) ps → OwnsIn (last_in l k ps)
  unfolding last_in
  slot_owned [] e = tt
  slot_owned (p ∷ ps) (also g gs) = owns_or (last_in l k ps) _ (slot_owned ps gs) (owns_if p g)

-- what the words of a slot hold of its variable, and of its function
module _ (l : Lent) (ws ts last : List ℕ) (k : ℕ) where
  pub record VariableNoted (v : Value) : Type 0 where
    pub low : k < count l.variables
    pub some-node : 0 < word_at last k node_word
    pub stands : ValueStands l ws ts v (word_at last k value_word)
    pub long : word_at last k need_word ≡ value_size v
    pub small : value_size v < 2 ^ 42

  pub record FunctionNoted (i : ℕ) (t : Table) : Type 0 where
    pub high : k ≡ count l.variables + i
    pub low : i < count l.functions
    pub some-node : 0 < word_at last k node_word
    pub stands : TableStands l ws ts i t (word_at last k node_word)
    pub long : word_at last k need_word ≡ table_size t
    pub small : table_size t < 2 ^ 42

  pub data Slot : Option Placed → Type 0 where
    empty : word_at last k node_word ≡ 0 → Slot None
    variable : {p : Placed} (v : Value) → p.it ≡ is_variable k v → VariableNoted v → Slot (Some p)
    function : {p : Placed} (i : ℕ) (t : Table) → p.it ≡ is_function i t → FunctionNoted i t → Slot (Some p)

  whole : (n m : ℕ) → n ≡ min m 18446744073709551615 → m < 2 ^ 42 → n ≡ m
  whole n m e h = omega arith

  slot_of : (p : Placed) (d : Definition) → p.it ≡ d → k ≡ slot l d → Within (tables_of l) d → size d < 2 ^ 42 → Stands l ws ts d p.node p.value → 0 < p.node →
      Words p (word_at last k node_word) (word_at last k value_word) (word_at last k need_word) → word_at last k need_word ≡ capped (size d) → Slot (Some p)
  slot_of p (is_variable i v) e s w small stands z h long =
      variable v (e ∙ ap (λ (j : ℕ). is_variable j v) (sym s))
      (record {
        low = omega (arith, s, w, variable-count l);
        some-node = omega (arith, z, h.node-is);
        stands = subst (ValueStands l ws ts v) (sym h.value-is) stands;
        long = whole (word_at last k need_word) (value_size v) long small;
        small = small;
      })
  slot_of p (is_function i t) e s w small stands z h long =
      function i t e
      (record {
        high = s;
        low = omega (arith, w, function-count l);
        some-node = omega (arith, z, h.node-is);
        stands = subst (TableStands l ws ts i t) (sym h.node-is) stands;
        long = whole (word_at last k need_word) (table_size t) long small;
        small = small;
      })

  slot_as : (o : Option Placed) → OwnsIn l ws ts k o → Holds o (word_at last k node_word) (word_at last k value_word) (word_at last k need_word) → Slot o
  slot_as None f h = empty h.0
  slot_as (Some p) f h =
      slot_of p p.it refl f.slot_is f.ground.within f.ground.small f.ground.stands f.ground.no_root h h.long-is

  pub slot-known : (ps : List Placed) → Known l ws ts last ps → k < slots → Slot (last_in l k ps)
  slot-known ps known low = slot_as (last_in l k ps) (slot_owned l ws ts k ps known.grounded) (known.kept.holds k low)

-- the slots' last definitions are those of the rows
module _ (l : Lent) where
  abbrev pub it_in : Option Placed → Option Definition
  it_in o = mapped (λ p. p.it) o

  it_if : (k : ℕ) (p : Placed) → it_in (cond (eqb k (slot l p.it)) (Some p) None) ≡ cond (eqb k (slot l p.it)) (Some p.it) None
  it_if k p = by_test (eqb k (slot l p.it)) (λ h. rw h refl) (λ h. rw h refl)

  variable_if : (k : ℕ) → k < count l.variables → (d : Definition) → cond (eqb k (slot l d)) (Some d) None ≡ mapped (is_variable k) (variable_in k d)
  variable_if k h (is_variable j v) =
      by_test (eqb k j) (λ t. let e : k ≡ j = eqb-true k j t in rw (t, e) refl) (λ t. rw t refl)
  variable_if k h (is_function j t) = rw (ne_eqb k (count l.variables + j) (λ z. omega arith)) refl

  function_if : (i : ℕ) (d : Definition) → Within (tables_of l) d → cond (eqb (count l.variables + i) (slot l d)) (Some d) None ≡ mapped (is_function i) (function_in i d)
  function_if i (is_variable j v) w = rw (ne_eqb (count l.variables + i) j (λ z. omega (arith, z, w, variable-count l))) refl
  function_if i (is_function j t) w =
      let n = count l.variables in
      by_test (eqb i j)
      (λ h. let e : i ≡ j = eqb-true i j h in rw (h, eq-eqb (n + i) (n + j) (omega arith), e) refl)
      (λ h. let e = eqb-false i j h in rw (h, ne_eqb (n + i) (n + j) (λ z. e (omega arith))) refl)

  pub last-variable : (k : ℕ) → k < count l.variables → (ps : List Placed) → it_in (last_in l k ps) ≡ mapped (is_variable k) (last_variable k (its ps))
  unfolding last_in last_variable
  last-variable k h [] = refl
  last-variable k h (p ∷ ps) =
      sym (mapped_or (λ q. q.it) (last_in l k ps) (cond (eqb k (slot l p.it)) (Some p) None))
      ∙ ap₂ (λ (a b : Option Definition). or_else a b) (last-variable k h ps) (it_if k p ∙ variable_if k h p.it)
      ∙ mapped_or (is_variable k) (last_variable k (its ps)) (variable_in k p.it)

  pub last-function : (ws ts : List ℕ) (i : ℕ) (ps : List Placed) → Every (Grounded l ws ts) ps → it_in (last_in l (count l.variables + i) ps) ≡ mapped (is_function i) (last_function i (its ps))
  unfolding last_in last_function
  last-function ws ts i [] e = refl
  last-function ws ts i (p ∷ ps) (also g gs) =
      let k = count l.variables + i in
      sym (mapped_or (λ q. q.it) (last_in l k ps) (cond (eqb k (slot l p.it)) (Some p) None))
      ∙ ap₂ (λ (a b : Option Definition). or_else a b) (last-function ws ts i ps gs) (it_if k p ∙ function_if i p.it g.within)
      ∙ mapped_or (is_function i) (last_function i (its ps)) (function_in i p.it)
