use Rattle.std.proofs.lemmas.Result.{err_from_is_err_and}
use Rattle.listing.proofs.Wholes.{stored-tree, stored_back}
use Rattle.listing.proofs.list.list_stored.Goals as goal

pub returns : goal.returns
returns c = let a = c.args in stored-tree a.form (record { sorts = a.sorts.now; fields = a.fields.now; variables = a.variables.now; functions = a.functions.now; members = a.members.now; names = a.names.now }) a.nodes.now a.text.now a.last.now a.out.now c.check_arena.result c.check_arena.ensures _ _ c.in_ok-check_arena.was _ _ c.list_checked.ensures

pub returns-in_err-check_arena : goal.returns-in_err-check_arena
returns-in_err-check_arena c =
    let a = c.args in
    let p = err_from_is_err_and c.from_residual.result c.from_residual.ensures.1 in
    rw (p.1, p.2) (stored_back a.form (record { sorts = a.sorts.now; fields = a.fields.now; variables = a.variables.now; functions = a.functions.now; members = a.members.now; names = a.names.now }) a.nodes.now a.text.now a.last.now a.out.now c.check_arena.result c.check_arena.ensures _ c.in_err-check_arena.was)
