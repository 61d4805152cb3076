use mathlib.Core.Path.{sym, ◌∙◌}
use native.Mathlib.Omega.{arith}
use Rattle.utf8.proofs.Encodings.{scalar-top, encoded-one, encoded-two, encoded-three, encoded-four, encoded-none}
use Rattle.utf8.proofs.encode.Goals as goal

pub returns-then-point-lt128 : goal.returns-then-point-lt128
returns-then-point-lt128 c = encoded-one _ c.if-point-lt128.true

pub returns-then-point-lt2048 : goal.returns-then-point-lt2048
returns-then-point-lt2048 c = encoded-two _ c.if-point-lt128.false c.if-point-lt2048.true

pub returns-then-not-is_scalar : goal.returns-then-not-is_scalar
returns-then-not-is_scalar c = encoded-none _ (sym c.is_scalar.ensures ∙ c.if-not-is_scalar.true)

pub returns-then-point-lt65536 : goal.returns-then-point-lt65536
returns-then-point-lt65536 c = encoded-three _ c.if-point-lt2048.false c.if-point-lt65536.true (sym c.is_scalar.ensures ∙ c.if-not-is_scalar.false)

pub overflow_cast-result-2 : goal.overflow_cast-result-2
overflow_cast-result-2 c = omega (arith, scalar-top _ (sym c.is_scalar.ensures ∙ c.if-not-is_scalar.false))

pub returns : goal.returns
returns c = encoded-four _ c.if-point-lt65536.false (sym c.is_scalar.ensures ∙ c.if-not-is_scalar.false)
