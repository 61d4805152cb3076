use mathlib.Core.Path.{refl, ◌∙◌}
use Rattle.arms.proofs.Chains.{chain-start, chain-past, chain-behind, chain_next, chain-end}
use Rattle.arms.proofs.chain.write_chain.Goals as goal

pub loop-at-init : goal.loop-at-init
loop-at-init c = let a = c.args in (refl, refl, chain-start a.sorts.now a.members.now a.names.now a.nodes.now a.text.now a.offset a.size a.body a.out.now a.place)

pub loop-at-preserved : goal.loop-at-preserved
loop-at-preserved c = let a = c.args in (c.write_arm-to.auto.scratch ∙ c.loop-at.invariant.0, c.write_arm-to.auto.out ∙ c.loop-at.invariant.1, chain_next a.sorts.now a.members.now a.names.now a.nodes.now a.text.now a.offset a.size a.body a.out.now a.place _ _ _ c.loop-at.invariant.2 _ c.link_at.ensures _ _ _ c.in-Some.is _ _ c.write_arm-to.ensures)

pub returns-in_default : goal.returns-in_default
returns-in_default c = let a = c.args in chain-end a.sorts.now a.members.now a.names.now a.nodes.now a.text.now a.offset a.size a.body a.out.now a.place _ _ _ c.loop-at.invariant.2 _ c.link_at.ensures c.in_default.is _ refl refl

pub returns-then-rest-at : goal.returns-then-rest-at
returns-then-rest-at c = let a = c.args in chain-behind a.sorts.now a.members.now a.names.now a.nodes.now a.text.now a.offset a.size a.body a.out.now a.place _ _ _ c.loop-at.invariant.2 _ c.link_at.ensures _ _ _ c.in-Some.is c.if-rest-at.true _ _

pub returns-after-loop-at : goal.returns-after-loop-at
returns-after-loop-at c = let a = c.args in chain-past a.sorts.now a.members.now a.names.now a.nodes.now a.text.now a.offset a.size a.body a.out.now a.place _ _ _ c.loop-at.invariant.2 c.loop-at-test.false _ _
