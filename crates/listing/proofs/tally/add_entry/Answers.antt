use mathlib.Core.Path.{refl}
use Rattle.listing.proofs.Tallies.{add_none, add-variable, add-function}
use Rattle.listing.proofs.tally.add_entry.Goals as goal

pub returns-then-node-eq0 : goal.returns-then-node-eq0
returns-then-node-eq0 c = let a = c.args in add_none a.variables.now a.functions.now a.names.now a.last.now a.slot a.tally _ c.noted-node.ensures c.if-node-eq0.true

pub returns-then-slot-rows : goal.returns-then-slot-rows
returns-then-slot-rows c = let a = c.args in add-variable a.variables.now a.functions.now a.names.now a.last.now a.slot a.tally _ c.noted-node.ensures c.if-node-eq0.false _ c.noted-long.ensures _ c.count-rows.ensures _ _ _ c.if-slot-rows.true c.variable_need-size.ensures c.plus.ensures c.plus-then-slot-rows.ensures

pub returns : goal.returns
returns c = let a = c.args in add-function a.variables.now a.functions.now a.names.now a.last.now a.slot a.tally _ c.noted-node.ensures c.if-node-eq0.false _ c.noted-long.ensures _ c.count-rows.ensures _ _ _ c.if-slot-rows.false _ refl c.function_need-size.ensures c.plus-2.ensures c.plus-3.ensures
