use Rattle.std.proofs.Common.{ℕ, Bool, ◌&&◌, ◌<◌}
use mathlib.Core.Path.{sym, ap, ◌∙◌}
use native.Mathlib.Nat.{sub-zero}
use native.Mathlib.Omega.{arith}
use Rattle.tables.specs.Layout.{count}
use Rattle.tables.specs.Search.{every_row}
use Rattle.tables.proofs.Searches.{every-fails, every-later, every-end}
use Rattle.tables.proofs.check.rows_pass.Goals as goal

pub returns-then-not-is_table : goal.returns-then-not-is_table
returns-then-not-is_table g c = λ right agree. ap (λ (t : Bool). t && every_row right 0 (count c.args.rows.now)) (sym c.if-not-is_table.true ∙ c.is_table.ensures)

pub loop-i-init : goal.loop-i-init
loop-i-init g c =
    let n = count c.args.rows.now in
    (c.count-i-end.ensures, λ right agree. sym (ap (λ (k : ℕ). every_row right 0 k) (sub-zero n) ∙ ap (λ (t : Bool). t && every_row right 0 n) (sym c.if-not-is_table.false ∙ c.is_table.ensures)))

pub returns-then-not-test : goal.returns-then-not-test
returns-then-not-test g c =
    let h = c.loop-i.invariant in
    let inside : c.loop-i.i < count c.args.rows.now = omega (arith, h.0) in
    λ right agree. sym (h.1 right agree ∙ every-fails right c.loop-i.i (count c.args.rows.now) inside (sym (agree c.loop-i.i c.test.result inside c.test.ensures) ∙ c.if-not-test.true))

pub loop-i-preserved : goal.loop-i-preserved
loop-i-preserved g c =
    let h = c.loop-i.invariant in
    let inside : c.loop-i.i < count c.args.rows.now = omega (arith, h.0) in
    (h.0, λ right agree. h.1 right agree ∙ every-later right c.loop-i.i (count c.args.rows.now) inside (sym (agree c.loop-i.i c.test.result inside c.test.ensures) ∙ c.if-not-test.false))

pub returns : goal.returns
returns g c =
    let h = c.loop-i.invariant in
    λ right agree. sym (h.1 right agree ∙ every-end right c.loop-i.i (count c.args.rows.now) (omega (arith, h.0)))
