use Rattle.std.proofs.lemmas.Result.{err_from_is_err_and}
use mathlib.Core.Path.{refl}
use Rattle.listing.proofs.Wholes.{tables-passed, tables_back}
use Rattle.listing.proofs.list.list_form.Goals as goal

pub returns : goal.returns
returns c = let a = c.args in tables-passed a.form (record { sorts = a.sorts.now; fields = a.fields.now; variables = a.variables.now; functions = a.functions.now; members = a.members.now; names = a.names.now }) a.nodes.now a.text.now a.out.now c.check_tables.result c.check_tables.ensures c.in_ok-check_tables.was _ refl _ _ c.list_stored.ensures

pub returns-in_err-check_tables : goal.returns-in_err-check_tables
returns-in_err-check_tables c =
    let a = c.args in
    let p = err_from_is_err_and c.from_residual.result c.from_residual.ensures.1 in
    rw (p.1, p.2) (tables_back a.form (record { sorts = a.sorts.now; fields = a.fields.now; variables = a.variables.now; functions = a.functions.now; members = a.members.now; names = a.names.now }) a.nodes.now a.text.now a.out.now c.check_tables.result c.check_tables.ensures _ c.in_err-check_tables.was)
