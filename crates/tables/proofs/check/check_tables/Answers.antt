use Rattle.std.proofs.Common.{ap, not}
use mathlib.Core.Path.{◌≡◌, sym, ◌∙◌}
use mathlib.Core.Bool.{false, ◌&&◌}
use Rattle.tables.specs.Layout.{Lent}
use Rattle.tables.proofs.Answers.{and_no, and_yes}
use Rattle.tables.proofs.Passes.{sorts_pass, variables_pass, functions_pass, members_pass, is-refused, is-passed, variables-counted, functions-counted}
use Rattle.tables.proofs.check.check_tables.Goals.{else-check_sorts-via-then-check_sorts+then-check_variables+then-check_functions+else-check_members, else-check_sorts-via-then-check_sorts+then-check_variables+else-check_functions, else-check_sorts-via-then-check_sorts+else-check_variables, else-check_sorts-via-else-check_sorts}
use Rattle.tables.proofs.check.check_tables.Goals as goal

pub returns-then-check_members : goal.returns-then-check_members
returns-then-check_members c =
    let a = c.args in
    let l : Lent = record { sorts = a.sorts.now; fields = a.fields.now; variables = a.variables.now; functions = a.functions.now; members = a.members.now; names = a.names.now } in
    is-passed l (and_yes _ _ _ c.check_sorts.ensures (ap not c.if-check_sorts.true) _ (and_yes _ _ _ (variables-counted l _ c.count-sort_rows.ensures _ c.check_variables.ensures) (ap not c.if-check_variables.true) _ (and_yes _ _ _ (functions-counted l _ c.count-sort_rows.ensures _ c.check_functions.ensures) (ap not c.if-check_functions.true) _ (sym c.if-check_members.true ∙ c.check_members.ensures))))

pub returns : goal.returns
returns c =
    let a = c.args in
    let l : Lent = record { sorts = a.sorts.now; fields = a.fields.now; variables = a.variables.now; functions = a.functions.now; members = a.members.now; names = a.names.now } in
    let wrong : false ≡ (sorts_pass l && (variables_pass l && (functions_pass l && members_pass l))) =
    elim c.else-check_sorts.branch [
      | else-check_sorts-via-then-check_sorts+then-check_variables+then-check_functions+else-check_members w ↦ and_yes _ _ _ c.check_sorts.ensures (ap not w.if-check_sorts.true) _ (and_yes _ _ _ (variables-counted l _ c.count-sort_rows.ensures _ w.check_variables.ensures) (ap not w.if-check_variables.true) _ (and_yes _ _ _ (functions-counted l _ c.count-sort_rows.ensures _ w.check_functions.ensures) (ap not w.if-check_functions.true) _ (sym w.if-check_members.false ∙ w.check_members.ensures)))
      | else-check_sorts-via-then-check_sorts+then-check_variables+else-check_functions w ↦ and_yes _ _ _ c.check_sorts.ensures (ap not w.if-check_sorts.true) _ (and_yes _ _ _ (variables-counted l _ c.count-sort_rows.ensures _ w.check_variables.ensures) (ap not w.if-check_variables.true) _ (and_no _ _ _ (functions-counted l _ c.count-sort_rows.ensures _ w.check_functions.ensures) (ap not w.if-check_functions.false)))
      | else-check_sorts-via-then-check_sorts+else-check_variables w ↦ and_yes _ _ _ c.check_sorts.ensures (ap not w.if-check_sorts.true) _ (and_no _ _ _ (variables-counted l _ c.count-sort_rows.ensures _ w.check_variables.ensures) (ap not w.if-check_variables.false))
      | else-check_sorts-via-else-check_sorts w ↦ and_no _ _ _ c.check_sorts.ensures (ap not w.if-check_sorts.false)
    ] in
    is-refused l wrong
