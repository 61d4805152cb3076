-- The needs that reading the tables' text tells are below 2 ^ 56: they are the words of lawful tables.
-- Assumes nothing.
use Rattle.std.proofs.Common.{Result}
use mathlib.Core.Path.{◌≡◌, refl, sym, subst}
use mathlib.Core.Bool.{true, ◌&&◌}
use mathlib.Core.List.{List, [], ◌∷◌}
use Prim.Native.Nat.{ℕ, suc, ◌*◌, ◌^◌, ◌≤◌, ◌<◌}
use native.Mathlib.Omega.{arith}
use lib.Dec.{leb, ltb}
use lib.ListN.{length, length-append}
use borrow.Author.Tests.{leb-true}
use Rattle.ground.specs.Lists.{all}
use Rattle.ground.proofs.Tests.{by_order, both_left, both_right, by_cond}
use Rattle.tables.specs.Sort.{Sort, bool, string, ext, bit_vec, option_of, set_of, entity_of, record_of, Tables}
use Rattle.tables.specs.Layout.{Lent}
use Rattle.tables.specs.Rules.{field_limit, own_name, sort_right, sorts_right}
use Rattle.tables.proofs.Lawful.{lawful-parts}
use Rattle.tables_text.specs.Line.{variable_line, function_line, member_line}
use Rattle.tables_text.specs.Words.{fields_of, all_fields, variable_words, function_words, member_words, variables_at, functions_at, members_at, laid}
use Rattle.tables_text.specs.Read.{text_limit, Spells, Buffers, Left, fitted, Reads}
use Rattle.tables_text.proofs.Parses.{table-long, sorts-long}
use Rattle.tables_text.proofs.Readings.{by-spelling}
use Rattle.told.specs.Yields.{tables_read}
use Rattle.stazzumpi.proofs.Needs.{Small}
use Rattle.refusals.specs.declared.Refusal.{Refusal}
use Rattle.tables_text.specs.declared.parse.Counts.{Counts}

fields-few : (i : ℕ) (s : Sort) → sort_right i s ≡ true → length (fields_of s) ≤ field_limit
fields-few i bool h = omega arith
fields-few i string h = omega arith
fields-few i (ext e) h = omega arith
fields-few i (bit_vec width) h = omega arith
fields-few i (option_of row) h = omega arith
fields-few i (set_of row) h = omega arith
fields-few i (entity_of name) h = omega arith
fields-few i (record_of name fields) h =
    leb-true (length fields) field_limit
    (both_right (own_name name) (leb (length fields) field_limit) (both_left (own_name name && leb (length fields) field_limit) (all (λ row. ltb row i) fields) h))

fields-long : (i : ℕ) (ss : List Sort) → sorts_right i ss ≡ true → length (all_fields ss) ≤ length ss * field_limit
unfolding sorts_right all_fields
fields-long i [] h = omega arith
fields-long i (s ∷ ss) h =
    omega (
      arith,
      length-append (fields_of s) (all_fields ss),
      fields-few i s (both_left (sort_right i s) (sorts_right (suc i) ss) h),
      fields-long (suc i) ss (both_right (sort_right i s) (sorts_right (suc i) ss) h),
    )

record Few (l : Lent) : Type 0 where
  sorts : length l.sorts < 2 ^ 56
  fields : length l.fields < 2 ^ 56
  variables : length l.variables < 2 ^ 56
  functions : length l.functions < 2 ^ 56
  members : length l.members < 2 ^ 56

laid-few : (text : List ℕ) (t : Tables) → Spells text t → Few (laid t text)
unfolding laid
laid-few text t s =
    let h = lawful-parts t s.lawful in
    record {
      sorts = omega (arith, h.few, sorts-long 0 0 t.sorts);
      fields = omega (arith, h.few, fields-long 0 t.sorts h.sorts);
      variables = omega (arith, h.variables.few, table-long variable_words variable_line (λ at v. refl) (variables_at t) t.variables);
      functions = omega (arith, h.functions.few, table-long function_words function_line (λ at f. refl) (functions_at t) t.functions);
      members = omega (arith, h.members.few, table-long member_words member_line (λ at m. refl) (members_at t) t.members);
    }

abbrev SmallLeft : Left → Type 0
SmallLeft left = Small (tables_read left.answer)

fitted-small : (entry : Buffers) (l : Lent) → Few l → SmallLeft (fitted entry l)
unfolding fitted
fitted-small entry l few =
    by_cond SmallLeft (leb (length l.sorts) (length entry.sorts)) _ _
    (λ _. by_cond SmallLeft (leb (length l.fields) (length entry.fields)) _ _
    (λ _. by_cond SmallLeft (leb (length l.variables) (length entry.variables)) _ _
    (λ _. by_cond SmallLeft (leb (length l.functions) (length entry.functions)) _ _
    (λ _. by_cond SmallLeft (leb (length l.members) (length entry.members)) _ _ (λ _. tt) (λ _. few.members))
    (λ _. few.functions))
    (λ _. few.variables))
    (λ _. few.fields))
    (λ _. few.sorts)

pub read-tables-small : (text : List ℕ) (entry : Buffers) (r : Result Counts Refusal) (exit : Buffers) → Reads text entry r exit → Small (tables_read r)
read-tables-small text entry r exit d =
    by_order text_limit (length text)
    (λ h. subst (λ (a : Result Counts Refusal). Small (tables_read a)) (sym (d.long h).answers) (omega arith))
    (λ h.
    by-spelling text
    (λ t s. subst (λ (a : Result Counts Refusal). Small (tables_read a)) (sym (d.spelled h t s).answers) (fitted-small entry (laid t text) (laid-few text t s)))
    (λ never. subst (λ (a : Result Counts Refusal). Small (tables_read a)) (sym (d.other h never).answers) (omega arith)))
