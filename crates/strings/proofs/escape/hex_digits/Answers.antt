use mathlib.Core.Path.{◌∙◌}
use native.Mathlib.Omega.{arith}
use Rattle.strings.proofs.Braces.{passing_start, passing_end, passing_brace, passing_full, passing_other, value-small, passing_step}
use Rattle.strings.proofs.escape.hex_digits.Goals as goal
use Rattle.strings.proofs.escape.hex_digits.Goals.{then-digits-ge6-via-then-digits-ge6, then-digits-ge6-via-else-digits-ge6+then-worth-ge16}

pub loop-at-init : goal.loop-at-init
loop-at-init c = passing_start _ _ c.requires

pub overflow_mul-value : goal.overflow_mul-value
overflow_mul-value c = record { fits = omega (arith, value-small _ _ _ _ _ c.loop-at.invariant c.if-s-at.false c.if-byte-eq125.false _ c.digit_worth-worth.ensures c.if-digits-ge6.false) }

pub overflow_add-value : goal.overflow_add-value
overflow_add-value c = record { fits = omega (arith, value-small _ _ _ _ _ c.loop-at.invariant c.if-s-at.false c.if-byte-eq125.false _ c.digit_worth-worth.ensures c.if-digits-ge6.false) }

pub loop-at-preserved : goal.loop-at-preserved
loop-at-preserved c = passing_step _ _ _ _ _ c.loop-at.invariant c.if-s-at.false c.if-byte-eq125.false _ (c.from.ensures ∙ c.digit_worth-worth.ensures) c.if-digits-ge6.false (omega arith)

pub returns-then-s-at : goal.returns-then-s-at
returns-then-s-at c = passing_end _ _ _ _ _ c.loop-at.invariant c.if-s-at.true

pub returns-then-byte-eq125 : goal.returns-then-byte-eq125
returns-then-byte-eq125 c = passing_brace _ _ _ _ _ c.loop-at.invariant c.if-s-at.false c.if-byte-eq125.true

pub returns-then-digits-ge6 : goal.returns-then-digits-ge6
returns-then-digits-ge6 c =
    elim c.then-digits-ge6.branch [
      | then-digits-ge6-via-then-digits-ge6 w ↦ passing_full _ _ _ _ _ c.loop-at.invariant c.if-s-at.false c.if-byte-eq125.false w.if-digits-ge6.true
      | then-digits-ge6-via-else-digits-ge6+then-worth-ge16 w ↦ passing_other _ _ _ _ _ c.loop-at.invariant c.if-s-at.false c.if-byte-eq125.false _ c.digit_worth-worth.ensures w.if-worth-ge16.true
    ]
