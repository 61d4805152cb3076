use native.Mathlib.Omega.{arith}
use Rattle.std.proofs.lemmas.Result.{err_from_is_err_and}
use Rattle.definitions.proofs.Chains.{chain-start, chain-past, chain-behind, chain-refused, chain_next, chain-end}
use Rattle.definitions.proofs.body.check_chain.Goals as goal

pub loop-at-init : goal.loop-at-init
loop-at-init c = chain-start _ _ _ _ _ _ _ _ _ _ _

pub returns-in_default : goal.returns-in_default
returns-in_default c = chain-end _ _ _ _ _ _ _ _ _ _ _ _ _ c.loop-at.invariant _ c.link_at.ensures c.in_default.is _ c.decode_literal-literal.ensures _ c.value_of.ensures _ c.closed_as.ensures

pub returns-in_err-need : goal.returns-in_err-need
returns-in_err-need c =
    let p = err_from_is_err_and c.from_residual.result c.from_residual.ensures.1 in
    rw (p.1, p.2) (chain-refused _ _ _ _ _ _ _ _ _ _ _ _ _ c.loop-at.invariant _ c.link_at.ensures _ _ _ c.in-Some.is _ c.check_arm.ensures _ c.in_err-need.was)

pub returns-then-link-at : goal.returns-then-link-at
returns-then-link-at c = chain-behind _ _ _ _ _ _ _ _ _ _ _ _ _ c.loop-at.invariant _ c.link_at.ensures _ _ _ c.in-Some.is _ c.check_arm.ensures (omega arith)

pub loop-at-preserved : goal.loop-at-preserved
loop-at-preserved c = chain_next _ _ _ _ _ _ _ _ _ _ _ _ _ c.loop-at.invariant _ c.link_at.ensures _ _ _ c.in-Some.is _ c.check_arm.ensures _ c.in_ok-need.was _ c.plus-total.ensures

pub returns : goal.returns
returns c = chain-past _ _ _ _ _ _ _ _ _ _ _ _ _ c.loop-at.invariant (omega arith)
