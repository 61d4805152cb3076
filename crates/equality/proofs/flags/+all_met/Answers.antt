use mathlib.Core.Path.{subst}
use mathlib.Core.Bool.{Bool, true, ◌&&◌}
use Rattle.equality.specs.Notes.{Met, MetAt}
use Rattle.equality.proofs.Clears.{both_nested, met-empty, met-one, met-both, met-left, part_none}
use Rattle.equality.proofs.flags.+all_met.Goals as goal

pub returns-then-allow-eq0 : goal.returns-then-allow-eq0
returns-then-allow-eq0 t c = let a = c.args in both_nested a.marks.now a.nodes.now a.text.now a.at c.taken-place.result c.taken-place.ensures c.part_at-part.result c.part_at-part.ensures _ _ c.in-Both.is a.allow (Met a.marks.now true) c.if-allow-eq0.true

pub returns-then-all_met : goal.returns-then-all_met
returns-then-all_met t c = let a = c.args in subst (λ (b : Bool). MetAt a.marks.now a.nodes.now a.text.now a.at a.allow (b && c.all_met-then-all_met.result)) c.if-all_met.true (met-both a.marks.now a.nodes.now a.text.now a.at c.taken-place.result c.taken-place.ensures c.part_at-part.result c.part_at-part.ensures _ _ c.in-Both.is a.allow c.if-allow-eq0.false _ _ c.all_met.ensures c.all_met-then-all_met.ensures)

pub returns-in-Empty : goal.returns-in-Empty
returns-in-Empty t c = let a = c.args in met-empty a.marks.now a.nodes.now a.text.now a.at c.taken-place.result c.taken-place.ensures c.part_at-part.result c.part_at-part.ensures a.allow c.in-Empty.is

pub returns-in-One : goal.returns-in-One
returns-in-One t c = let a = c.args in met-one a.marks.now a.nodes.now a.text.now a.at c.taken-place.result c.taken-place.ensures c.part_at-part.result c.part_at-part.ensures _ c.in-One.is a.allow _ c.marked.ensures

pub returns-else-all_met : goal.returns-else-all_met
returns-else-all_met t c = let a = c.args in met-left a.marks.now a.nodes.now a.text.now a.at c.taken-place.result c.taken-place.ensures c.part_at-part.result c.part_at-part.ensures _ _ c.in-Both.is a.allow c.if-allow-eq0.false _ c.if-all_met.false c.all_met.ensures

pub returns-in-NoSet : goal.returns-in-NoSet
returns-in-NoSet t c = let a = c.args in part_none a.marks.now a.nodes.now a.text.now a.at c.taken-place.result c.taken-place.ensures c.part_at-part.result c.part_at-part.ensures a.allow (Met a.marks.now true) c.in-NoSet.is
