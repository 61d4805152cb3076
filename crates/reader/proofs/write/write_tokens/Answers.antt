use native.Mathlib.Omega.{arith}
use Rattle.tokens.proofs.Lexes.{found_some, found_within, found-there, bytes_of}
use Rattle.reader.proofs.Holds.{holds-start, holds-fine, holds-again, holds-end, holds-past}
use Rattle.reader.proofs.write.write_tokens.Goals as goal

pub begin-scan-requires : goal.begin-scan-requires
begin-scan-requires c = tt

pub loop-at-init : goal.loop-at-init
loop-at-init c = let a = c.args in holds-start a.s.now a.nodes.now a.text.now a.stack.now _ c.requires.2 (omega arith) c.begin-scan.ensures

pub lexeme_at-found-requires : goal.lexeme_at-found-requires
lexeme_at-found-requires c = (c.requires.0, c.loop-at-test.true)

pub overflow_add-from : goal.overflow_add-from
overflow_add-from c = let a = c.args in omega (arith, c.requires.1, found_within a.s.now c.loop-at.at _ c.loop-at-test.true c.lexeme_at-found.ensures, found-there a.s.now c.loop-at.at _ c.loop-at-test.true c.lexeme_at-found.ensures)

pub overflow_add-end : goal.overflow_add-end
overflow_add-end c = let a = c.args in omega (arith, c.requires.1, found_within a.s.now c.loop-at.at _ c.loop-at-test.true c.lexeme_at-found.ensures, found-there a.s.now c.loop-at.at _ c.loop-at-test.true c.lexeme_at-found.ensures)

pub slice_bounds-write_piece-count : goal.slice_bounds-write_piece-count
slice_bounds-write_piece-count c = omega arith

pub slice_bounds-write_piece-start : goal.slice_bounds-write_piece-start
slice_bounds-write_piece-start c = omega arith

pub slice_bounds-write_piece-end : goal.slice_bounds-write_piece-end
slice_bounds-write_piece-end c = let a = c.args in omega (arith, found_within a.s.now c.loop-at.at _ c.loop-at-test.true c.lexeme_at-found.ensures, found-there a.s.now c.loop-at.at _ c.loop-at-test.true c.lexeme_at-found.ensures)

pub write_piece-scan-requires : goal.write_piece-scan-requires
write_piece-scan-requires c = let a = c.args in holds-fine a.s.now a.nodes.now a.text.now a.stack.now c.loop-at.scan c.loop-at.at c.loop-at.nodes c.loop-at.text c.loop-at.stack c.lexeme_at-found.result c.loop-at.invariant (bytes_of a.s.now (λ i. (c.type_inv.s i).fits)) c.requires.1 c.loop-at-test.true c.lexeme_at-found.ensures

pub overflow_add-at : goal.overflow_add-at
overflow_add-at c = let a = c.args in omega (arith, c.requires.1, found_within a.s.now c.loop-at.at _ c.loop-at-test.true c.lexeme_at-found.ensures, found-there a.s.now c.loop-at.at _ c.loop-at-test.true c.lexeme_at-found.ensures)

pub past_blanks-at-requires : goal.past_blanks-at-requires
past_blanks-at-requires c = c.requires.0

pub loop-at-smaller : goal.loop-at-smaller
loop-at-smaller c = let a = c.args in omega (arith, c.past_blanks-at.ensures, c.loop-at-test.true, found_some a.s.now c.loop-at.at _ c.loop-at-test.true c.lexeme_at-found.ensures, found_within a.s.now c.loop-at.at _ c.loop-at-test.true c.lexeme_at-found.ensures, found-there a.s.now c.loop-at.at _ c.loop-at-test.true c.lexeme_at-found.ensures)

pub loop-at-preserved : goal.loop-at-preserved
loop-at-preserved c = let a = c.args in holds-past _ _ _ _ _ _ _ _ _ _ (holds-again a.s.now a.nodes.now a.text.now a.stack.now c.loop-at.scan c.loop-at.at c.loop-at.nodes c.loop-at.text c.loop-at.stack c.lexeme_at-found.result c.loop-at.invariant (bytes_of a.s.now (λ i. (c.type_inv.s i).fits)) c.requires.1 c.loop-at-test.true c.lexeme_at-found.ensures _ _ _ _ c.write_piece-scan.ensures) c.past_blanks-at.ensures

pub returns : goal.returns
returns c = let a = c.args in holds-end a.s.now a.nodes.now a.text.now a.stack.now c.loop-at.scan c.loop-at.at c.loop-at.nodes c.loop-at.text c.loop-at.stack c.loop-at.invariant c.loop-at-test.false
