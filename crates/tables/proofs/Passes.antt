-- The check of each table, row by row, is the form and the rules of document 01.
-- Assumes nothing.
use Rattle.std.proofs.Common.{Some, Err, Ok}
use mathlib.Core.Path.{◌≡◌, refl, sym, ap, ◌∙◌}
use mathlib.Core.Bool.{Bool, true, false, ◌&&◌, and_assoc}
use mathlib.Core.List.{List, []}
use Prim.Native.Nat.{ℕ, zero, suc, ◌<◌}
use native.Mathlib.Nat.{zero-add}
use native.Mathlib.Omega.{arith}
use lib.Dec.{leb, ltb, eqb}
use lib.ListN.{length}
use borrow.Author.Tests.{lt-ltb, le-ltb, ne_eqb}
use Rattle.ground.specs.Lists.{all, at, distinct, tabulate}
use Rattle.ground.proofs.Tests.{and-false, by_order}
use Rattle.utf8.specs.Octets.{utf8}
use Rattle.arena.specs.Text.{same_text}
use Rattle.tables.specs.Sort.{Sort, Variable, Function, Member}
use Rattle.tables.specs.Layout.{Lent, count, word, part, name_at, sort_of, sort_at, variable_at, function_at, member_at, tables_of, whole, inside, name_inside, sort_formed, member_formed, rows, formed}
use Rattle.tables.specs.Rules.{row_limit, name_limit, name_right, own_name, sort_right, sorts_right, same_sort, variable_right, function_right, is_entity, member_right, table, lawful}
use Rattle.tables.specs.Search.{every_row}
use Rattle.tables.specs.Right.{lent_sorts, right_sort, right_variable, right_function, entity_at, right_member, alone, alone_sort, table_passes}
use Rattle.refusals.specs.declared.Refusal.TheVariants.{BadTable}
use Rattle.tables.specs.Check.{passes, checked}
use Rattle.tables.proofs.Places.{length-tabulate, at-tabulate, at-past}
use Rattle.tables.proofs.Searches.{exchange, every-all, every-both, every-distinct}
use Rattle.tables.proofs.Sorts.{by_kind, identity-fields}
use Rattle.tables.proofs.Tabled.{both}

shuffle : (w f l r d : Bool) → ((w && l) && ((f && r) && d)) ≡ ((w && f) && ((l && r) && d))
shuffle true true true r d = refl
shuffle true true false r d = refl
shuffle true false true r d = refl
shuffle true false false r d = refl
shuffle false f l r d = refl

-- a table by its rows: form, rules, and no two the same
module _ (ws : List ℕ) (right single form rule : ℕ → Bool) (split : (i : ℕ) → right i ≡ (form i && rule i)) where
  pub table-parts : table_passes ws (both right single) ≡ ((whole ws && every_row form 0 (count ws)) && ((leb (count ws) row_limit && every_row rule 0 (count ws)) && every_row single 0 (count ws)))
  table-parts =
      rw (every-both (both right single) right single (λ i. refl) 0 (count ws), every-both right form rule split 0 (count ws))
      (shuffle (whole ws) (every_row form 0 (count ws)) (leb (count ws) row_limit) (every_row rule 0 (count ws)) (every_row single 0 (count ws)))

four : (w f g l m r s d e : Bool) → f ≡ g → l ≡ m → r ≡ s → d ≡ e → ((w && f) && ((l && r) && d)) ≡ ((w && g) && ((m && s) && e))
four w f g l m r s d e p q t u = rw (p, q, t, u) refl

-- how an entity's row is known
abbrev EntityOf : List ℕ → ℕ → List ℕ → ℕ → Type 0
EntityOf name number fields kind = eqb kind 9 ≡ is_entity (Some (sort_of kind name number fields))

entity-other : (name : List ℕ) (number : ℕ) (fields : List ℕ) (kind : ℕ) → 9 < kind → EntityOf name number fields kind
entity-other name number fields kind h =
    rw (ne_eqb kind 1 (λ e. omega arith), ne_eqb kind 2 (λ e. omega arith), ne_eqb kind 3 (λ e. omega arith), ne_eqb kind 4 (λ e. omega arith), ne_eqb kind 5 (λ e. omega arith), ne_eqb kind 6 (λ e. omega arith), ne_eqb kind 7 (λ e. omega arith), ne_eqb kind 8 (λ e. omega arith), ne_eqb kind 9 (λ e. omega arith))

entity-kind : (name : List ℕ) (number : ℕ) (fields : List ℕ) (kind : ℕ) → EntityOf name number fields kind
entity-kind name number fields kind =
    by_kind {P = EntityOf name number fields} refl refl refl refl refl refl refl refl refl refl (entity-other name number fields) kind

four-tests : (a b c d : Bool) → ((a && b) && (c && d)) ≡ (a && ((b && c) && d))
four-tests true true c d = refl
four-tests true false c d = refl
four-tests false b c d = refl

six-tests : (a o e x b u : Bool) → ((a && o) && (e && (x && (b && u)))) ≡ ((a && x) && (((o && e) && b) && u))
six-tests true true true x b u = refl
six-tests true true false x b u = sym (and-false x)
six-tests true false e x b u = sym (and-false x)
six-tests false o e x b u = refl

gather : (a b c d p q r s : Bool) → ((((a && b) && c) && d) && (((p && q) && r) && s)) ≡ ((a && p) && ((b && q) && ((c && r) && (d && s))))
gather a b c d p q r s =
    exchange ((a && b) && c) d ((p && q) && r) s
    ∙ ap (λ (x : Bool). x && (d && s)) (exchange (a && b) c (p && q) r ∙ ap (λ (x : Bool). x && (c && r)) (exchange a b p q))
    ∙ and_assoc ((a && p) && (b && q)) (c && r) (d && s)
    ∙ and_assoc (a && p) (b && q) ((c && r) && (d && s))

module _ (l : Lent) where
  abbrev sort_list : List Sort
  sort_list = tabulate (sort_at l) 0 (count l.sorts)

  entity-at : (row : ℕ) → entity_at l.sorts row ≡ is_entity (at sort_list row)
  entity-at row =
      by_order row (count l.sorts)
      (λ h.
      rw (lt-ltb row (count l.sorts) h, at-tabulate (sort_at l) (count l.sorts) row h)
      (entity-kind (name_at l.names l.sorts row) (word l.sorts row 3) (part l.fields (word l.sorts row 3) (word l.sorts row 4)) (word l.sorts row 2)))
      (λ h. rw (le-ltb row (count l.sorts) h, at-past (sort_at l) 0 (count l.sorts) row h) refl)

  limited : {A : Type 0} (f : ℕ → A) (n : ℕ) → leb n row_limit ≡ leb (length (tabulate f 0 n)) row_limit
  limited f n = ap (λ (k : ℕ). leb k row_limit) (sym (length-tabulate f 0 n))

  formed-rows : (form : ℕ → Bool) (n : ℕ) → every_row form 0 n ≡ all (λ b. b) (tabulate form 0 n)
  formed-rows form n = every-all form form (λ b. b) (λ i. refl) 0 n

  sorts-right : (k n : ℕ) → every_row (λ i. sort_right i (sort_at l i)) k n ≡ sorts_right k (tabulate (sort_at l) k n)
  unfolding every_row sorts_right tabulate
  sorts-right k zero = refl
  sorts-right k (suc n) = ap (λ (t : Bool). sort_right k (sort_at l k) && t) (sorts-right (suc k) n)

  abbrev bare : Lent
  bare = lent_sorts l.sorts [] l.names

  sort-agree : (i j : ℕ) → same_sort (sort_at bare i) (sort_at bare j) ≡ same_sort (sort_at l i) (sort_at l j)
  sort-agree i j = rw (identity-fields l bare refl refl i, identity-fields l bare refl refl j) refl

  abbrev pub sorts_pass : Bool
  sorts_pass = table_passes l.sorts (both (right_sort l.sorts l.fields l.names) (alone_sort l.sorts l.names))

  sorts-parts : sorts_pass ≡ (rows (sort_formed l) l.sorts && (leb (length sort_list) row_limit && sorts_right 0 sort_list && distinct same_sort sort_list))
  sorts-parts =
      table-parts l.sorts (right_sort l.sorts l.fields l.names) (alone_sort l.sorts l.names) (sort_formed l) (λ i. sort_right i (sort_at l i)) (λ i. refl)
      ∙ four (whole l.sorts) _ _ _ _ _ _ _ _
      (formed-rows (sort_formed l) (count l.sorts))
      (limited (sort_at l) (count l.sorts))
      (sorts-right 0 (count l.sorts))
      (every-distinct (sort_at l) same_sort (λ i j. same_sort (sort_at bare i) (sort_at bare j)) sort-agree (count l.sorts) 0 (count l.sorts) (zero-add (count l.sorts)))

  abbrev pub variables_pass : Bool
  variables_pass = table_passes l.variables (both (right_variable l.variables l.names (count l.sorts)) (alone l.names l.variables))

  variable-split : (i : ℕ) → right_variable l.variables l.names (count l.sorts) i ≡ (name_inside l.names l.variables i && variable_right (tables_of l) (variable_at l i))
  unfolding tables_of
  variable-split i =
      rw (length-tabulate (sort_at l) 0 (count l.sorts))
      (and_assoc (name_inside l.names l.variables i) (name_right (name_at l.names l.variables i)) (ltb (word l.variables i 2) (count l.sorts)))

  abbrev variable_list : List Variable
  variable_list = tabulate (variable_at l) 0 (count l.variables)

  variables-parts : variables_pass ≡ (rows (name_inside l.names l.variables) l.variables && table (variable_right (tables_of l)) (λ a b. same_text a.name b.name) variable_list)
  variables-parts =
      table-parts l.variables (right_variable l.variables l.names (count l.sorts)) (alone l.names l.variables) (name_inside l.names l.variables) (λ i. variable_right (tables_of l) (variable_at l i)) variable-split
      ∙ four (whole l.variables) _ _ _ _ _ _ _ _
      (formed-rows (name_inside l.names l.variables) (count l.variables))
      (limited (variable_at l) (count l.variables))
      (every-all (λ i. variable_right (tables_of l) (variable_at l i)) (variable_at l) (variable_right (tables_of l)) (λ i. refl) 0 (count l.variables))
      (every-distinct (variable_at l) (λ a b. same_text a.name b.name) (λ i j. same_text (name_at l.names l.variables i) (name_at l.names l.variables j)) (λ i j. refl) (count l.variables) 0 (count l.variables) (zero-add (count l.variables)))

  abbrev pub functions_pass : Bool
  functions_pass = table_passes l.functions (both (right_function l.functions l.names (count l.sorts)) (alone l.names l.functions))

  function-split : (i : ℕ) → right_function l.functions l.names (count l.sorts) i ≡ (name_inside l.names l.functions i && function_right (tables_of l) (function_at l i))
  unfolding tables_of
  function-split i =
      rw (length-tabulate (sort_at l) 0 (count l.sorts))
      (four-tests (name_inside l.names l.functions i) (name_right (name_at l.names l.functions i)) (ltb (word l.functions i 2) (count l.sorts)) (ltb (word l.functions i 3) (count l.sorts)))

  abbrev function_list : List Function
  function_list = tabulate (function_at l) 0 (count l.functions)

  functions-parts : functions_pass ≡ (rows (name_inside l.names l.functions) l.functions && table (function_right (tables_of l)) (λ a b. same_text a.name b.name) function_list)
  functions-parts =
      table-parts l.functions (right_function l.functions l.names (count l.sorts)) (alone l.names l.functions) (name_inside l.names l.functions) (λ i. function_right (tables_of l) (function_at l i)) function-split
      ∙ four (whole l.functions) _ _ _ _ _ _ _ _
      (formed-rows (name_inside l.names l.functions) (count l.functions))
      (limited (function_at l) (count l.functions))
      (every-all (λ i. function_right (tables_of l) (function_at l i)) (function_at l) (function_right (tables_of l)) (λ i. refl) 0 (count l.functions))
      (every-distinct (function_at l) (λ a b. same_text a.name b.name) (λ i j. same_text (name_at l.names l.functions i) (name_at l.names l.functions j)) (λ i j. refl) (count l.functions) 0 (count l.functions) (zero-add (count l.functions)))

  abbrev pub members_pass : Bool
  members_pass = table_passes l.members (both (right_member l.members l.sorts l.names) (alone l.names l.members))

  member-split : (i : ℕ) → right_member l.members l.sorts l.names i ≡ (member_formed l i && member_right (tables_of l) (member_at l i))
  unfolding tables_of
  member-split i =
      rw (entity-at (word l.members i 2))
      (six-tests (name_inside l.names l.members i) (own_name (name_at l.names l.members i)) (is_entity (at sort_list (word l.members i 2)))
      (inside (word l.members i 3) (word l.members i 4) l.names) (leb (length (part l.names (word l.members i 3) (word l.members i 4))) name_limit) (utf8 (part l.names (word l.members i 3) (word l.members i 4))))

  abbrev member_list : List Member
  member_list = tabulate (member_at l) 0 (count l.members)

  members-parts : members_pass ≡ (rows (member_formed l) l.members && table (member_right (tables_of l)) (λ a b. same_text a.name b.name) member_list)
  members-parts =
      table-parts l.members (right_member l.members l.sorts l.names) (alone l.names l.members) (member_formed l) (λ i. member_right (tables_of l) (member_at l i)) member-split
      ∙ four (whole l.members) _ _ _ _ _ _ _ _
      (formed-rows (member_formed l) (count l.members))
      (limited (member_at l) (count l.members))
      (every-all (λ i. member_right (tables_of l) (member_at l i)) (member_at l) (member_right (tables_of l)) (λ i. refl) 0 (count l.members))
      (every-distinct (member_at l) (λ a b. same_text a.name b.name) (λ i j. same_text (name_at l.names l.members i) (name_at l.names l.members j)) (λ i j. refl) (count l.members) 0 (count l.members) (zero-add (count l.members)))

  pub passes-parts : passes l ≡ (sorts_pass && (variables_pass && (functions_pass && members_pass)))
  unfolding passes formed lawful tables_of
  passes-parts =
      rw (sorts-parts, variables-parts, functions-parts, members-parts)
      (gather
      (rows (sort_formed l) l.sorts)
      (rows (name_inside l.names l.variables) l.variables)
      (rows (name_inside l.names l.functions) l.functions)
      (rows (member_formed l) l.members)
      (leb (length sort_list) row_limit && sorts_right 0 sort_list && distinct same_sort sort_list)
      (table (variable_right (tables_of l)) (λ a b. same_text a.name b.name) variable_list)
      (table (function_right (tables_of l)) (λ a b. same_text a.name b.name) function_list)
      (table (member_right (tables_of l)) (λ a b. same_text a.name b.name) member_list))

  pub is-refused : false ≡ (sorts_pass && (variables_pass && (functions_pass && members_pass))) → Err BadTable ≡ checked l
  is-refused h = rw (passes-parts, sym h) refl

  pub is-passed : true ≡ (sorts_pass && (variables_pass && (functions_pass && members_pass))) → (Ok tt) ≡ checked l
  is-passed h = rw (passes-parts, sym h) refl

-- with the number of sort rows that was counted
module _ (l : Lent) (n : ℕ) (e : n ≡ count l.sorts) (r : Bool) where
  pub variables-counted : r ≡ table_passes l.variables (both (right_variable l.variables l.names n) (alone l.names l.variables)) → r ≡ variables_pass l
  variables-counted h =
      h ∙ ap (λ (k : ℕ). table_passes l.variables (both (right_variable l.variables l.names k) (alone l.names l.variables))) e

  pub functions-counted : r ≡ table_passes l.functions (both (right_function l.functions l.names n) (alone l.names l.functions)) → r ≡ functions_pass l
  functions-counted h =
      h ∙ ap (λ (k : ℕ). table_passes l.functions (both (right_function l.functions l.names k) (alone l.names l.functions))) e
