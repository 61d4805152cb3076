use native.Mathlib.Nat.{le_trans}
use lib.Dec.{lit≤}
use mathlib.Core.Path.{◌∙◌, sym}
use native.Mathlib.Omega.{arith}
use Rattle.strings.proofs.Escapes.{braced_failed, braced-few, braced-empty, braced_large, braced_point}
use Rattle.strings.proofs.escape.braced_escape.Goals as goal
use Rattle.strings.proofs.escape.braced_escape.Goals.{then-digits-eq0-via-then-digits-eq0, then-digits-eq0-via-else-digits-eq0+then-value-gt196607}

pub returns-in_err-value : goal.returns-in_err-value
returns-in_err-value c = rw c.from_residual.ensures (braced_failed _ (sym c.hex_digits.ensures ∙ c.in_err-value.was))

pub returns-then-digits-eq0 : goal.returns-then-digits-eq0
returns-then-digits-eq0 c =
    let e = sym c.hex_digits.ensures ∙ c.in_ok-value.was in
    elim c.then-digits-eq0.branch [
      | then-digits-eq0-via-then-digits-eq0 w ↦ braced-empty _ _ _ e w.if-digits-eq0.true
      | then-digits-eq0-via-else-digits-eq0+then-value-gt196607 w ↦ braced_large _ _ _ e (le_trans (lit≤ tt) w.if-value-gt196607.true)
    ]

pub overflow_add-result : goal.overflow_add-result
overflow_add-result c = record { fits = omega (arith, braced-few _ _ _ (sym c.hex_digits.ensures ∙ c.in_ok-value.was)) }

pub returns : goal.returns
returns c = braced_point _ _ _ (sym c.hex_digits.ensures ∙ c.in_ok-value.was) c.if-digits-eq0.false c.if-value-gt196607.false
