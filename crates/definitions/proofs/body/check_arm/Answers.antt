use mathlib.Core.Path.{◌≡◌}
use Rattle.std.proofs.Common.{None, Some, Option, ℕ, arith}
use Rattle.std.proofs.lemmas.Result.{err_from_is_err_and}
use Rattle.refusals.specs.declared.Refusal.{Refusal}
use Rattle.refusals.specs.declared.Refusal.TheVariants.{UnexpectedForm}
use Rattle.definitions.proofs.Arms.{arm-keyed, arm_shapeless}
use Rattle.definitions.proofs.body.check_arm.Goals as goal

pub returns-in_err-node : goal.returns-in_err-node
returns-in_err-node c =
    let p = err_from_is_err_and c.from_residual.result c.from_residual.ensures.1 in
    let n : ◌≡◌ {A = Option ℕ} c.key_at.result None = grind arith in
    let r : ◌≡◌ {A = Refusal} c.in_err-node.field-0.0 UnexpectedForm = grind arith in
    rw (p.1, p.2, r) (arm_shapeless _ _ _ _ _ _ _ _ _ _ _ c.key_at.ensures _ _ n)

pub returns : goal.returns
returns c =
    let n : ◌≡◌ {A = Option ℕ} c.key_at.result (Some c.in_ok-node.node) = grind arith in
    arm-keyed _ _ _ _ _ _ _ _ _ _ _ c.key_at.ensures _ _ _ n _ _ c.decode_literal-key.ensures c.decode_literal-literal.ensures _ c.arm_of.ensures
