-- The lines of all names are the slots' lines, one after the other; and so are the counts.
-- Assumes nothing.
use Rattle.std.proofs.Common.{None, Option, Some}
use mathlib.Core.Path.{◌≡◌, refl, sym, ap, ap₂, ◌∙◌, subst}
use mathlib.Core.Bool.{true}
use mathlib.Core.List.{List, [], ◌++◌, map}
use Prim.Native.Nat.{ℕ, ◌+◌, ◌-◌, ◌≤◌, ◌<◌}
use native.Mathlib.Nat.{sub-zero}
use native.Mathlib.Omega.{arith}
use Rattle.order.specs.Every.{Every}
use Rattle.tables.specs.Layout.{Lent, count, variable_at, function_at, tables_of}
use Rattle.tables.specs.Rules.{lawful}
use Rattle.tables.proofs.Lawful.{lawful-parts}
use Rattle.tables.proofs.Rows.{variable-count, function-count}
use Rattle.values.specs.Normal.{normal}
use Rattle.values.specs.Value.{Value}
use Rattle.value_text.specs.Laid.{Lays}
use Rattle.value_text.proofs.Lays.{lays_then, lays_none}
use Rattle.model.specs.Model.{Table, Definition, is_variable, is_function, last_variable, last_function}
use Rattle.model.specs.Listing.{settled_table, settled, one, variable_lines, function_lines, variables_from, functions_from, variable_count, function_count}
use Rattle.model.proofs.Choices.{mapped}
use Rattle.model.proofs.Settled.{settled-variable, settled-function}
use Rattle.walk.specs.Last.{last_in}
use Rattle.walk.specs.Placed.{Placed, its}
use Rattle.listing.specs.Grounds.{Grounded}
use Rattle.listing.specs.Entries.{entry, entry_in, settled_in, entries}
use Rattle.listing.specs.Tally.{variable_one, function_one, one_in}
use Rattle.listing.proofs.Folds.{over-next, over-end, over_as, rows-over, texts, sums, texts-parts, sums-parts, sums_none}
use Rattle.listing.proofs.Lasts.{it_in, last-variable, last-function}

-- how many slots there are
abbrev pub many : Lent → ℕ
many l = count l.variables + count l.functions

pub many-few : (l : Lent) → lawful (tables_of l) ≡ true → many l ≤ 2048
many-few l rules =
    let h = lawful-parts (tables_of l) rules in omega (arith, h.variables.few, variable-count l, h.functions.few, function-count l)

-- the rows of the two tables
module _ (l : Lent) (ds : List Definition) where
  variables-are : variables_from ds 0 (tables_of l).variables ≡ texts (λ j. variable_lines (variable_at l j) (last_variable j ds)) 0 (count l.variables)
  unfolding tables_of
  variables-are = rows-over (λ a b. a ++ b) [] (variables_from ds) (λ j v. variable_lines v (last_variable j ds)) (λ i. refl) (λ i v vs. refl) (variable_at l) 0 (count l.variables)

  functions-are : functions_from ds 0 (tables_of l).functions ≡ texts (λ j. function_lines (function_at l j) (last_function j ds)) 0 (count l.functions)
  unfolding tables_of
  functions-are = rows-over (λ a b. a ++ b) [] (functions_from ds) (λ j v. function_lines v (last_function j ds)) (λ i. refl) (λ i v vs. refl) (function_at l) 0 (count l.functions)

  variables-counted : variable_count ds 0 (tables_of l).variables ≡ sums (λ j. one ds (last_variable j ds)) 0 (count l.variables)
  unfolding tables_of
  variables-counted = rows-over (λ a b. a + b) 0 (variable_count ds) (λ j v. one ds (last_variable j ds)) (λ i. refl) (λ i v vs. refl) (variable_at l) 0 (count l.variables)

  functions-counted : function_count ds 0 (tables_of l).functions ≡ sums (λ j. one ds (last_function j ds)) 0 (count l.functions)
  unfolding tables_of
  functions-counted = rows-over (λ a b. a + b) 0 (function_count ds) (λ j v. one ds (last_function j ds)) (λ i. refl) (λ i v vs. refl) (function_at l) 0 (count l.functions)

-- what a slot gives, by its last definition
module _ (l : Lent) where
  abbrev given : {A : Type 0} → A → (Definition → A) → Option Definition → A
  given e f None = e
  given e f (Some d) = f d

  as_given : {A : Type 0} (e : A) (f : Definition → A) (g : Option Placed → A) → g None ≡ e → ((p : Placed) → g (Some p) ≡ f p.it) → (o : Option Placed) → g o ≡ given e f (it_in l o)
  as_given e f g s t None = s
  as_given e f g s t (Some p) = t p

  module _ {A : Type 0} (e : A) (f : Definition → A) (g : Option Placed → A) (s : g None ≡ e) (t : (p : Placed) → g (Some p) ≡ f p.it) where
    of-variable : (h : Option Value → A) → h None ≡ e → (k : ℕ) → ((v : Value) → h (Some v) ≡ f (is_variable k v)) → k < count l.variables → (ps : List Placed) →
        g (last_in l k ps) ≡ h (last_variable k (its ps))
    of-variable h n k y b ps =
        as_given e f g s t (last_in l k ps) ∙ ap (given e f) (last-variable l k b ps) ∙ back (last_variable k (its ps))
      where
        back : (o : Option Value) → given e f (mapped (is_variable k) o) ≡ h o
        back None = sym n
        back (Some v) = sym (y v)

    of_function : (h : Option Table → A) → h None ≡ e → (i : ℕ) → ((u : Table) → h (Some u) ≡ f (is_function i u)) → (ws ts : List ℕ) (ps : List Placed) → Every (Grounded l ws ts) ps →
        g (last_in l (count l.variables + i) ps) ≡ h (last_function i (its ps))
    of_function h n i y ws ts ps gs =
        as_given e f g s t (last_in l (count l.variables + i) ps) ∙ ap (given e f) (last-function l ws ts i ps gs) ∙ back (last_function i (its ps))
      where
        back : (o : Option Table) → given e f (mapped (is_function i) o) ≡ h o
        back None = sym n
        back (Some u) = sym (y u)

module _ (l : Lent) (ps : List Placed) where
  abbrev pub entry_of : ℕ → List ℕ
  entry_of k = entry_in l (last_in l k ps)

  abbrev pub settled_of : ℕ → List ℕ
  settled_of k = settled_in l (last_in l k ps)

module _ (l : Lent) (ws ts : List ℕ) (ps : List Placed) (gs : Every (Grounded l ws ts) ps) where
  pub entries-are : texts (entry_of l ps) 0 (many l) ≡ entries l (its ps)
  entries-are =
      texts-parts (entry_of l ps) (λ j. variable_lines (variable_at l j) (last_variable j (its ps))) (λ j. function_lines (function_at l j) (last_function j (its ps))) (count l.variables) (count l.functions)
      (λ k b. of-variable l [] (entry l) (entry_in l) refl (λ p. refl) (variable_lines (variable_at l k)) refl k (λ v. refl) b ps)
      (λ k b. of_function l [] (entry l) (entry_in l) refl (λ p. refl) (function_lines (function_at l k)) refl k (λ u. refl) ws ts ps gs)
      ∙ sym (ap₂ (λ (a b : List ℕ). a ++ b) (variables-are l (its ps)) (functions-are l (its ps)))

  pub entries-settled : texts (settled_of l ps) 0 (many l) ≡ entries l (map settled (its ps))
  entries-settled =
      texts-parts (settled_of l ps) (λ j. variable_lines (variable_at l j) (last_variable j (map settled (its ps)))) (λ j. function_lines (function_at l j) (last_function j (map settled (its ps)))) (count l.variables) (count l.functions)
      (λ k b.
      of-variable l [] (λ d. entry l (settled d)) (settled_in l) refl (λ p. refl) (λ o. variable_lines (variable_at l k) (mapped normal o)) refl k (λ v. refl) b ps
      ∙ ap (variable_lines (variable_at l k)) (sym (settled-variable k (its ps))))
      (λ k b.
      of_function l [] (λ d. entry l (settled d)) (settled_in l) refl (λ p. refl) (λ o. function_lines (function_at l k) (mapped settled_table o)) refl k (λ u. refl) ws ts ps gs
      ∙ ap (function_lines (function_at l k)) (sym (settled-function k (its ps))))
      ∙ sym (ap₂ (λ (a b : List ℕ). a ++ b) (variables-are l (map settled (its ps))) (functions-are l (map settled (its ps))))

  pub variables-summed : sums (λ k. one_in variable_one (last_in l k ps)) 0 (many l) ≡ variable_count (its ps) 0 (tables_of l).variables
  variables-summed =
      sums-parts (λ k. one_in variable_one (last_in l k ps)) (λ j. one (its ps) (last_variable j (its ps))) (λ j. 0) (count l.variables) (count l.functions)
      (λ k b. of-variable l 0 variable_one (one_in variable_one) refl (λ p. refl) (one (its ps)) refl k (λ v. refl) b ps)
      (λ k b. of_function l 0 variable_one (one_in variable_one) refl (λ p. refl) (λ o. 0) refl k (λ u. refl) ws ts ps gs)
      ∙ omega (arith, variables-counted l (its ps), sums_none 0 (count l.functions))

  pub functions-summed : sums (λ k. one_in function_one (last_in l k ps)) 0 (many l) ≡ function_count (its ps) 0 (tables_of l).functions
  functions-summed =
      sums-parts (λ k. one_in function_one (last_in l k ps)) (λ j. 0) (λ j. one (its ps) (last_function j (its ps))) (count l.variables) (count l.functions)
      (λ k b. of-variable l 0 function_one (one_in function_one) refl (λ p. refl) (λ o. 0) refl k (λ v. refl) b ps)
      (λ k b. of_function l 0 function_one (one_in function_one) refl (λ p. refl) (one (its ps)) refl k (λ u. refl) ws ts ps gs)
      ∙ omega (arith, functions-counted l (its ps), sums_none 0 (count l.variables))

-- settled definitions are as many
module _ (l : Lent) (ds : List Definition) where
  one-mapped : {A B : Type 0} (f : A → B) (o : Option A) → one ds o ≡ one (map settled ds) (mapped f o)
  one-mapped f None = refl
  one-mapped f (Some a) = refl

  same-counted : {A : Type 0} (f : A → A) (last : ℕ → List Definition → Option A) → ((i : ℕ) → last i (map settled ds) ≡ mapped f (last i ds)) → (n : ℕ) →
      sums (λ j. one ds (last j ds)) 0 n ≡ sums (λ j. one (map settled ds) (last j (map settled ds))) 0 n
  same-counted f last e n =
      over_as (λ a b. a + b) 0 (λ j. one ds (last j ds)) (λ j. one (map settled ds) (last j (map settled ds))) n 0 0
      (λ k b. one-mapped f (last (0 + k) ds) ∙ ap (one (map settled ds)) (sym (e (0 + k))))

  pub same-variables : variable_count ds 0 (tables_of l).variables ≡ variable_count (map settled ds) 0 (tables_of l).variables
  same-variables = variables-counted l ds ∙ same-counted normal last_variable (λ i. settled-variable i ds) (count l.variables) ∙ sym (variables-counted l (map settled ds))

  pub same-functions : function_count ds 0 (tables_of l).functions ≡ function_count (map settled ds) 0 (tables_of l).functions
  same-functions = functions-counted l ds ∙ same-counted settled_table last_function (λ i. settled-function i ds) (count l.functions) ∙ sym (functions-counted l (map settled ds))

-- the rest of the slots, once it is laid, makes the whole: what the loop keeps
abbrev pub Onwards : (ℕ → List ℕ) → (ℕ → List ℕ) → ℕ → List ℕ → ℕ → List ℕ → ℕ → ℕ → Type 0
Onwards g h n entry place d to i =
    (e : List ℕ) (next : ℕ) → Lays (texts g i (n - i)) (texts h i (n - i)) d e to next → Lays (texts g 0 n) (texts h 0 n) entry e place next

module _ (g h : ℕ → List ℕ) (n : ℕ) (entry : List ℕ) (place : ℕ) where
  pub onwards-start : Onwards g h n entry place entry place 0
  onwards-start e next p = subst (λ (m : ℕ). Lays (texts g 0 m) (texts h 0 m) entry e place next) (sub-zero n) p

  pub onwards-step : (d d' : List ℕ) (to to' i : ℕ) → i < n → Onwards g h n entry place d to i → Lays (g i) (h i) d d' to to' → Onwards g h n entry place d' to' (i + 1)
  onwards-step d d' to to' i inside so p e next q =
      so e next
      (subst (λ (s : List ℕ). Lays s (texts h i (n - i)) d e to next) (sym (over-next (λ a b. a ++ b) [] g n i inside))
      (subst (λ (s : List ℕ). Lays (g i ++ texts g (i + 1) (n - (i + 1))) s d e to next) (sym (over-next (λ a b. a ++ b) [] h n i inside)) (lays_then p q)))

  pub onwards-end : (d : List ℕ) (to i : ℕ) → n ≤ i → Onwards g h n entry place d to i → Lays (texts g 0 n) (texts h 0 n) entry d place to
  onwards-end d to i past so =
      so d to
      (subst (λ (s : List ℕ). Lays s (texts h i (n - i)) d d to to) (sym (over-end (λ a b. a ++ b) [] g n i past))
      (subst (λ (s : List ℕ). Lays [] s d d to to) (sym (over-end (λ a b. a ++ b) [] h n i past)) (lays_none d to)))
