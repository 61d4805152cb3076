use Rattle.listing.proofs.Wholes.{finish-short, finish-written}
use Rattle.listing.proofs.list.list_noted.Goals as goal

pub returns-then-out-need : goal.returns-then-out-need
returns-then-out-need c = let a = c.args in λ fields. finish-short (record { sorts = a.sorts.now; fields = fields; variables = a.variables.now; functions = a.functions.now; members = a.members.now; names = a.names.now }) a.nodes.now a.text.now a.last.now a.out.now c.tally_entries-tally.result (c.tally_entries-tally.ensures a.sorts.now a.members.now a.nodes.now a.text.now fields) _ _ c.header_need-head.ensures c.plus-need.ensures c.if-out-need.true

pub returns : goal.returns
returns c = let a = c.args in λ fields. finish-written (record { sorts = a.sorts.now; fields = fields; variables = a.variables.now; functions = a.functions.now; members = a.members.now; names = a.names.now }) a.nodes.now a.text.now a.last.now a.out.now c.tally_entries-tally.result (c.tally_entries-tally.ensures a.sorts.now a.members.now a.nodes.now a.text.now fields) _ _ c.header_need-head.ensures c.plus-need.ensures _ _ _ _ _ c.if-out-need.false c.write_header-start.ensures (c.write_entries-end.ensures fields) c.clear_between.ensures
