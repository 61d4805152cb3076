use Rattle.std.proofs.Common.{Err}
use mathlib.Core.Path.{refl, sym, ◌∙◌}
use Rattle.std.proofs.lemmas.Result.{err_from_is_err_and}
use Rattle.reader.proofs.Answers.{too_long, left-refused, ready, stack-room, left-written}
use Rattle.reader.proofs.read.parse_sexpr.Goals as goal

pub returns-then-input-gt-INPUT_LIMIT : goal.returns-then-input-gt-INPUT_LIMIT
returns-then-input-gt-INPUT_LIMIT c = let a = c.args in too_long a.input.now a.nodes.now a.text.now a.stack.now c.if-input-gt-INPUT_LIMIT.true

pub count_tokens-requires : goal.count_tokens-requires
count_tokens-requires c = (c.class_table-table.ensures, c.if-input-gt-INPUT_LIMIT.false)

pub returns-in_err-scan : goal.returns-in_err-scan
returns-in_err-scan c =
    let a = c.args in
    let p = err_from_is_err_and c.from_residual.result c.from_residual.ensures.1 in
    rw (p.1, p.2) (left-refused a.input.now a.nodes.now a.text.now a.stack.now c.if-input-gt-INPUT_LIMIT.false _ (sym c.in_err-scan.was ∙ c.count_tokens.ensures) (Err _) refl _ refl)

pub returns-in_err-reading : goal.returns-in_err-reading
returns-in_err-reading c =
    let a = c.args in
    let p = err_from_is_err_and c.from_residual-in_err-reading.result c.from_residual-in_err-reading.ensures.1 in
    rw (p.1, p.2) (left-refused a.input.now a.nodes.now a.text.now a.stack.now c.if-input-gt-INPUT_LIMIT.false _ (sym c.in_ok-scan.was ∙ c.count_tokens.ensures) (Err _) (sym c.in_err-reading.was ∙ c.judge.ensures) _ refl)

pub write_tokens-requires : goal.write_tokens-requires
write_tokens-requires c = let a = c.args in (c.class_table-table.ensures, c.if-input-gt-INPUT_LIMIT.false, ready a.input.now a.nodes.now a.text.now a.stack.now c.if-input-gt-INPUT_LIMIT.false _ (sym c.in_ok-scan.was ∙ c.count_tokens.ensures) _ c.judge.ensures _ _ _ c.in_ok-reading.was)

pub clear-requires : goal.clear-requires
clear-requires c = let a = c.args in stack-room a.input.now a.nodes.now a.text.now a.stack.now c.if-input-gt-INPUT_LIMIT.false _ (sym c.in_ok-scan.was ∙ c.count_tokens.ensures) _ c.judge.ensures _ _ _ c.in_ok-reading.was _ _ _ c.write_tokens.ensures

pub returns : goal.returns
returns c = let a = c.args in left-written a.input.now a.nodes.now a.text.now a.stack.now c.if-input-gt-INPUT_LIMIT.false _ (sym c.in_ok-scan.was ∙ c.count_tokens.ensures) _ c.judge.ensures _ _ _ c.in_ok-reading.was _ _ _ c.write_tokens.ensures _ c.clear.ensures
