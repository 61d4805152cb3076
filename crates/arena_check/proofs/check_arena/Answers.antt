use native.Mathlib.Omega.{arith}
use Rattle.std.proofs.lemmas.Result.{err_from_is_err_and}
use mathlib.Core.Path.{sym, ◌∙◌}
use Rattle.arena_check.proofs.Told.{refused_none}
use Rattle.arena_check.proofs.Answers.{no_root, too_many}
use Rattle.arena_check.proofs.Walks.{walked_start, walked-wrong, walked_next, walked-long, walked_whole}
use Rattle.arena_check.proofs.check_arena.Goals as goal
use Rattle.arena_check.proofs.check_arena.Goals.{then-end-eq0-via-then-end-eq0, then-end-eq0-via-else-end-eq0+then-end-gt-MOST_NODES}

pub returns-then-end-eq0 : goal.returns-then-end-eq0
returns-then-end-eq0 c =
    let a = c.args in
    elim c.then-end-eq0.branch [
      | then-end-eq0-via-then-end-eq0 w ↦ no_root a.words.now a.text.now _ c.after-end.ensures w.if-end-eq0.true
      | then-end-eq0-via-else-end-eq0+then-end-gt-MOST_NODES w ↦ too_many a.words.now a.text.now _ c.after-end.ensures w.if-end-gt-MOST_NODES.true
    ]

pub loop-at-init : goal.loop-at-init
loop-at-init c = walked_start _ _ _

pub loop-at-preserved : goal.loop-at-preserved
loop-at-preserved c = walked_next _ _ _ _ _ c.loop-at.invariant c.loop-at-test.true _ _ c.check_node.ensures (grind arith)

pub returns-in_err-from : goal.returns-in_err-from
returns-in_err-from c =
    let p = err_from_is_err_and c.from_residual.result c.from_residual.ensures.1 in
    let q = refused_none c.check_node.result _ _ (sym c.ok_or.ensures.value ∙ c.in_err-from.was) in
    rw (p.1, p.2, q.1)
    (walked-wrong _ _ _ _ _ c.loop-at.invariant c.after-end.ensures c.loop-at-test.true (c.check_node.ensures.wrong q.0))

pub returns-then-from-gt-MOST_TEXT : goal.returns-then-from-gt-MOST_TEXT
returns-then-from-gt-MOST_TEXT c = walked-long _ _ _ _ _ c.loop-at.invariant c.after-end.ensures c.loop-at-test.false c.if-from-gt-MOST_TEXT.true

pub returns : goal.returns
returns c = walked_whole _ _ _ _ _ c.loop-at.invariant c.after-end.ensures c.loop-at-test.false (omega arith) (omega arith) c.if-from-gt-MOST_TEXT.false
