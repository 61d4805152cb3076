use Rattle.std.proofs.lemmas.Result.{err_from_is_err_and}
use Rattle.listing.proofs.Wholes.{parts-done, parts-refused}
use Rattle.listing.proofs.list.list_parts.Goals as goal

pub returns : goal.returns
returns c = let a = c.args in parts-done a.form (record { sorts = a.sorts.now; fields = a.fields.now; variables = a.variables.now; functions = a.functions.now; members = a.members.now; names = a.names.now }) a.nodes.now a.text.now a.count a.last.now _ a.out.now c.walk_parts.result c.walk_parts.ensures c.in_ok-walk_parts.was _ _ (c.list_noted.ensures a.fields.now)

pub returns-in_err-walk_parts : goal.returns-in_err-walk_parts
returns-in_err-walk_parts c =
    let a = c.args in
    let p = err_from_is_err_and c.from_residual.result c.from_residual.ensures.1 in
    rw (p.1, p.2) (parts-refused a.form (record { sorts = a.sorts.now; fields = a.fields.now; variables = a.variables.now; functions = a.functions.now; members = a.members.now; names = a.names.now }) a.nodes.now a.text.now a.count a.last.now _ a.out.now c.walk_parts.result c.walk_parts.ensures _ c.in_err-walk_parts.was)
