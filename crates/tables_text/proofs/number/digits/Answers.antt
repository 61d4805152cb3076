use mathlib.Core.Path.{refl, ap, ◌∙◌}
use Prim.Native.Nat.{ℕ, ◌+◌, ◌*◌}
use lib.ListN.{drop}
use Rattle.tables_text.specs.Parse.{digits_from}
use native.Mathlib.Omega.{arith}
use Rattle.tables_text.proofs.Numerals.{digits-end, digits_step, digits-below, digits_above, digits-over}
use Rattle.tables_text.proofs.number.digits.Goals.{then-byte-lt48-via-then-byte-lt48, then-byte-lt48-via-else-byte-lt48+then-byte-gt57, then-byte-lt48-via-else-byte-lt48+else-byte-gt57+then-number-ge1000}
use Rattle.tables_text.proofs.number.digits.Goals as goal

pub loop-byte-init : goal.loop-byte-init
loop-byte-init c = refl

pub returns-then-byte-lt48 : goal.returns-then-byte-lt48
returns-then-byte-lt48 c =
    let s = c.args.s.now in
    elim c.then-byte-lt48.branch [
      | then-byte-lt48-via-then-byte-lt48 w ↦ digits-below s _ _ c.loop-byte.invariant c.loop-byte-test.true w.if-byte-lt48.true
      | then-byte-lt48-via-else-byte-lt48+then-byte-gt57 w ↦ digits_above s _ _ c.loop-byte.invariant c.loop-byte-test.true w.if-byte-gt57.true
      | then-byte-lt48-via-else-byte-lt48+else-byte-gt57+then-number-ge1000 w ↦ digits-over s _ _ c.loop-byte.invariant c.loop-byte-test.true w.if-number-ge1000.true
    ]

pub loop-byte-preserved : goal.loop-byte-preserved
loop-byte-preserved c =
    let s = c.args.s.now in
    ap (λ (x : ℕ). digits_from (c.loop-byte.number * 10 + x) (drop (c.loop-byte.byte-index + 1) s)) c.from.ensures
    ∙ digits_step s _ _ c.loop-byte.invariant c.loop-byte-test.true (λ h. omega (arith, c.if-byte-lt48.false)) (λ h. omega (arith, c.if-byte-gt57.false)) (λ h. omega (arith, c.if-number-ge1000.false))

pub returns : goal.returns
returns c = digits-end c.args.s.now _ _ c.loop-byte.invariant c.loop-byte-test.false
