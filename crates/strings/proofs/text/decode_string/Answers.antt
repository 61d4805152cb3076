use mathlib.Core.Path.{◌∙◌, sym}
use Rattle.std.proofs.lemmas.Result.{err_from_is_err_and}
use Rattle.strings.proofs.Answers.{decoded-long, decoded-surrogate, decoded-room, decoded-short, decoded-text, asked_some, asked_none}
use Rattle.strings.proofs.text.decode_string.Goals as goal

pub returns-then-s-gt-INPUT_LIMIT : goal.returns-then-s-gt-INPUT_LIMIT
returns-then-s-gt-INPUT_LIMIT c = let a = c.args in decoded-long a.s.now a.out.now c.if-s-gt-INPUT_LIMIT.true

pub returns-in_err-need : goal.returns-in_err-need
returns-in_err-need c =
    let a = c.args in
    let p = err_from_is_err_and c.from_residual.result c.from_residual.ensures.1 in
    let q = asked_none c.measure.result _ _ (sym c.ok_or.ensures.value ∙ c.in_err-need.was) in
    rw (p.1, p.2, q.1)
    (decoded-surrogate a.s.now a.out.now c.if-s-gt-INPUT_LIMIT.false (sym c.measure.ensures ∙ q.0))

pub returns-then-out-need : goal.returns-then-out-need
returns-then-out-need c =
    let a = c.args in
    let m = asked_some c.measure.result _ _ (sym c.ok_or.ensures.value ∙ c.in_ok-need.was) in
    decoded-short a.s.now a.out.now c.if-s-gt-INPUT_LIMIT.false _ (sym c.measure.ensures ∙ m) c.if-out-need.true

pub write_text-requires : goal.write_text-requires
write_text-requires c =
    let a = c.args in
    let m = asked_some c.measure.result _ _ (sym c.ok_or.ensures.value ∙ c.in_ok-need.was) in
    decoded-room a.s.now a.out.now c.if-s-gt-INPUT_LIMIT.false _ (sym c.measure.ensures ∙ m) c.if-out-need.false

pub returns : goal.returns
returns c =
    let a = c.args in
    let m = asked_some c.measure.result _ _ (sym c.ok_or.ensures.value ∙ c.in_ok-need.was) in
    decoded-text a.s.now a.out.now c.if-s-gt-INPUT_LIMIT.false _ (sym c.measure.ensures ∙ m) c.if-out-need.false _ c.write_text.ensures.holds
