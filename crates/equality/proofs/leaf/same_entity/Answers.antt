use borrow.Enum.Refused.{opened}
use Rattle.arena.specs.Text.{text_at}
use Rattle.equality.proofs.Leaves.{entity-other-row, entity-same-row, member-other-row, member-same-row, entity-unlike}
use Rattle.equality.proofs.leaf.same_entity.Goals as goal

pub returns-then-row-other : goal.returns-then-row-other
returns-then-row-other c = let a = c.args in entity-other-row a.names.now a.text.now a.row (text_at a.held.now a.offset a.size) a.right _ _ _ c.in-Entity.is c.if-row-other.true

pub returns-then-row-other-2 : goal.returns-then-row-other-2
returns-then-row-other-2 c = let a = c.args in member-other-row a.names.now a.text.now a.row (text_at a.held.now a.offset a.size) a.right _ _ _ c.in-Member.is c.if-row-other-2.true

pub returns-else-row-other : goal.returns-else-row-other
returns-else-row-other c = let a = c.args in entity-same-row a.names.now a.text.now a.row (text_at a.held.now a.offset a.size) a.right _ _ _ c.in-Entity.is c.if-row-other.false _ c.same_at.ensures

pub returns-else-row-other-2 : goal.returns-else-row-other-2
returns-else-row-other-2 c = let a = c.args in member-same-row a.names.now a.text.now a.row (text_at a.held.now a.offset a.size) a.right _ _ _ c.in-Member.is c.if-row-other-2.false _ c.same_at-in-Member.ensures

pub returns-in_default : goal.returns-in_default
returns-in_default c = let a = c.args in entity-unlike a.names.now a.text.now a.row (text_at a.held.now a.offset a.size) a.right (opened c.in_default.in_default-own.keys3)
