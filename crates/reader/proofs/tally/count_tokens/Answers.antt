use Rattle.std.proofs.lemmas.Result.{err_from_is_err_and}
use mathlib.Core.Path.{sym, ◌∙◌, subst}
use native.Mathlib.Omega.{arith}
use Rattle.tokens.proofs.Lexes.{found_some, found_within, found-there, bytes_of}
use Rattle.reader.proofs.Sofar.{Sofar, sofar-past, sofar-start, sofar-step, sofar-fault, sofar-end, ample}
use Rattle.reader.proofs.tally.count_tokens.Goals as goal

pub begin-scan-requires : goal.begin-scan-requires
begin-scan-requires c = tt

pub loop-at-init : goal.loop-at-init
loop-at-init c = subst (Sofar c.args.s.now 0) (sym c.begin-scan.ensures) (sofar-start c.args.s.now)

pub lexeme_at-found-requires : goal.lexeme_at-found-requires
lexeme_at-found-requires c = (c.requires.0, c.loop-at-test.true)

pub overflow_add-from : goal.overflow_add-from
overflow_add-from c = let a = c.args in omega (arith, c.requires.1, found_within a.s.now c.loop-at.at _ c.loop-at-test.true c.lexeme_at-found.ensures, found-there a.s.now c.loop-at.at _ c.loop-at-test.true c.lexeme_at-found.ensures)

pub overflow_add-end : goal.overflow_add-end
overflow_add-end c = let a = c.args in omega (arith, c.requires.1, found_within a.s.now c.loop-at.at _ c.loop-at-test.true c.lexeme_at-found.ensures, found-there a.s.now c.loop-at.at _ c.loop-at-test.true c.lexeme_at-found.ensures)

pub slice_bounds-turn-count : goal.slice_bounds-turn-count
slice_bounds-turn-count c = omega arith

pub slice_bounds-turn-start : goal.slice_bounds-turn-start
slice_bounds-turn-start c = omega arith

pub slice_bounds-turn-end : goal.slice_bounds-turn-end
slice_bounds-turn-end c = let a = c.args in omega (arith, found_within a.s.now c.loop-at.at _ c.loop-at-test.true c.lexeme_at-found.ensures, found-there a.s.now c.loop-at.at _ c.loop-at-test.true c.lexeme_at-found.ensures)

pub turn-requires : goal.turn-requires
turn-requires c = let a = c.args in ample a.s.now c.loop-at.at c.loop-at.scan c.lexeme_at-found.result c.loop-at.invariant (bytes_of a.s.now (λ i. (c.type_inv.s i).fits)) c.loop-at-test.true c.lexeme_at-found.ensures c.requires.1

pub returns-in_err-scan : goal.returns-in_err-scan
returns-in_err-scan c =
    let a = c.args in
    let p = err_from_is_err_and c.from_residual.result c.from_residual.ensures.1 in
    rw (p.1, p.2) (sym c.in_err-scan.was ∙ sofar-fault a.s.now c.loop-at.at c.loop-at.scan c.lexeme_at-found.result c.loop-at.invariant (bytes_of a.s.now (λ i. (c.type_inv.s i).fits)) c.loop-at-test.true c.lexeme_at-found.ensures c.turn.result _ c.in_err-scan.was c.turn.ensures)

pub overflow_add-at : goal.overflow_add-at
overflow_add-at c = omega (arith, c.requires.1, found-there c.args.s.now c.loop-at.at _ c.loop-at-test.true c.lexeme_at-found.ensures)

pub loop-at-smaller : goal.loop-at-smaller
loop-at-smaller c = let a = c.args in omega (arith, c.past_blanks-at.ensures, c.loop-at-test.true, found_some a.s.now c.loop-at.at _ c.loop-at-test.true c.lexeme_at-found.ensures, found-there a.s.now c.loop-at.at _ c.loop-at-test.true c.lexeme_at-found.ensures)

pub loop-at-preserved : goal.loop-at-preserved
loop-at-preserved c = let a = c.args in sofar-past _ _ _ _ (sofar-step a.s.now c.loop-at.at c.loop-at.scan c.lexeme_at-found.result c.loop-at.invariant (bytes_of a.s.now (λ i. (c.type_inv.s i).fits)) c.loop-at-test.true c.lexeme_at-found.ensures _ (sym c.in_ok-scan.was ∙ c.turn.ensures)) c.past_blanks-at.ensures

pub returns : goal.returns
returns c = sofar-end c.args.s.now c.loop-at.at c.loop-at.scan c.loop-at.invariant c.loop-at-test.false
