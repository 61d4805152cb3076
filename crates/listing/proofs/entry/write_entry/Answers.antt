use mathlib.Core.Path.{refl}
use Rattle.listing.proofs.Pieces.{entry-none, entry-variable, entry-function}
use Rattle.listing.proofs.entry.write_entry.Goals as goal

pub returns-then-node-eq0 : goal.returns-then-node-eq0
returns-then-node-eq0 c = let a = c.args in entry-none a.sorts.now a.variables.now a.functions.now a.members.now a.names.now a.nodes.now a.text.now a.last.now a.slot _ c.noted-node.ensures a.out.now a.place c.if-node-eq0.true

pub returns-then-slot-rows : goal.returns-then-slot-rows
returns-then-slot-rows c = let a = c.args in entry-variable a.sorts.now a.variables.now a.functions.now a.members.now a.names.now a.nodes.now a.text.now a.last.now a.slot _ c.noted-node.ensures c.if-node-eq0.false _ c.count-rows.ensures a.out.now _ a.place _ c.if-slot-rows.true _ c.noted-value.ensures c.write_variable.ensures

pub returns : goal.returns
returns c = let a = c.args in entry-function a.sorts.now a.variables.now a.functions.now a.members.now a.names.now a.nodes.now a.text.now a.last.now a.slot _ c.noted-node.ensures c.if-node-eq0.false _ c.count-rows.ensures a.out.now _ a.place _ c.if-slot-rows.false _ refl c.write_function.ensures
