use Rattle.listing.proofs.Wholes.{reply_listed, reply_no-list}
use Rattle.listing.proofs.list.list_checked.Goals as goal

pub returns : goal.returns
returns c = let a = c.args in reply_listed a.form (record { sorts = a.sorts.now; fields = a.fields.now; variables = a.variables.now; functions = a.functions.now; members = a.members.now; names = a.names.now }) a.nodes.now a.text.now a.last.now a.out.now c.list_at-list.result c.list_at-list.ensures _ c.in-Some.is _ _ c.list_parts.ensures

pub returns-in_default : goal.returns-in_default
returns-in_default c = let a = c.args in reply_no-list a.form (record { sorts = a.sorts.now; fields = a.fields.now; variables = a.variables.now; functions = a.functions.now; members = a.members.now; names = a.names.now }) a.nodes.now a.text.now a.last.now a.out.now c.list_at-list.result c.list_at-list.ensures c.in_default.is
