use mathlib.Core.Path.{◌∙◌, ap}
use Prim.Native.Nat.{ℕ, ◌+◌}
use Rattle.std.proofs.lemmas.Result.{err_from_is_err_and}
use Rattle.definitions.proofs.Measures.{arm-first, arm-second, arm-key, arm-value, arm-both}
use Rattle.literals.specs.Answer.{capped}
use Rattle.definitions.proofs.measure.arm_of.Goals as goal
use Rattle.definitions.proofs.measure.arm_of.Goals.{then-key-argument-via-then-key-argument, then-key-argument-via-else-key-argument+then-not-fits}

pub returns-in_err-key : goal.returns-in_err-key
returns-in_err-key c = let p = err_from_is_err_and c.from_residual.result c.from_residual.ensures.1 in rw (p.1, p.2) (arm-first _ _ _ _ _ c.in_err-key.was)

pub returns-in_err-value : goal.returns-in_err-value
returns-in_err-value c =
    let p = err_from_is_err_and c.from_residual-in_err-value.result c.from_residual-in_err-value.ensures.1 in
    rw (p.1, p.2) (arm-second _ _ _ _ _ _ _ c.in_ok-key.was _ c.in_err-value.was)

pub returns-then-key-argument : goal.returns-then-key-argument
returns-then-key-argument c =
    elim c.then-key-argument.branch [
      | then-key-argument-via-then-key-argument w ↦ arm-key _ _ _ _ _ _ _ c.in_ok-key.was _ _ _ c.in_ok-value.was w.if-key-argument.true
      | then-key-argument-via-else-key-argument+then-not-fits w ↦ arm-value _ _ _ _ _ _ _ c.in_ok-key.was _ _ _ c.in_ok-value.was w.if-key-argument.false w.if-not-fits.true
    ]

pub returns : goal.returns
returns c = arm-both _ _ _ _ _ _ _ c.in_ok-key.was _ _ _ c.in_ok-value.was c.if-key-argument.false c.if-not-fits.false _ (c.plus-2.ensures ∙ ap (λ (n : ℕ). capped (n + 12)) c.plus.ensures)
