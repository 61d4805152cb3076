use Rattle.literals.proofs.Forms.{inside_option, inside-set, option_there, option_missing, set_there, set_missing}
use Rattle.literals.proofs.form.inside_row.Goals as goal

pub returns-in-Option-sort : goal.returns-in-Option-sort
returns-in-Option-sort c = let a = c.args in inside_option a.sorts.now a.row a.form c.sort_at-sort.result c.sort_at-sort.ensures _ c.in-Option.is (option_there _ _ c.in-Option-sort.is)

pub returns-in_default : goal.returns-in_default
returns-in_default c = let a = c.args in inside_option a.sorts.now a.row a.form c.sort_at-sort.result c.sort_at-sort.ensures _ c.in-Option.is (option_missing _ c.in_default.not-Option)

pub returns-in-Set-sort : goal.returns-in-Set-sort
returns-in-Set-sort c = let a = c.args in inside-set a.sorts.now a.row a.form c.sort_at-sort.result c.sort_at-sort.ensures _ c.in-Set.is (set_there _ _ c.in-Set-sort.is)

pub returns-in_default-sort : goal.returns-in_default-sort
returns-in_default-sort c = let a = c.args in inside-set a.sorts.now a.row a.form c.sort_at-sort.result c.sort_at-sort.ensures _ c.in-Set.is (set_missing _ c.in_default-sort.not-Set)
