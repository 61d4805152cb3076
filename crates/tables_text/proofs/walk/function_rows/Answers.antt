use mathlib.Core.Path.{refl}
use Rattle.tables_text.specs.Parse.{function_in}
use Rattle.tables_text.specs.Line.{function_line}
use Rattle.tables_text.specs.Words.{function_words}
use Rattle.tables_text.proofs.Spelled.{function-sound}
use Rattle.tables_text.proofs.Walks.{walking_start, walking_full, walking_room, walking_stop, walking_step}
use Rattle.tables_text.proofs.walk.function_rows.Goals as goal

pub loop-row-init : goal.loop-row-init
loop-row-init c = walking_start function_in function_line function_words function-sound c.args.text.now c.args.table.now _ c.requires.0

pub function_line-requires : goal.function_line-requires
function_line-requires c = let a = c.args in (c.loop-row.invariant.within, walking_room function_in function_line function_words function-sound (λ at x. refl) a.text.now a.table.now _ _ _ _ c.loop-row.invariant c.requires.1 c.loop-row-test.true)

pub returns-in_default : goal.returns-in_default
returns-in_default c = let a = c.args in walking_stop function_in function_line function_words function-sound (λ at x. refl) a.text.now a.table.now _ _ _ _ c.loop-row.invariant c.requires.1 c.loop-row-test.true _ _ c.function_line.ensures c.in_default.is

pub loop-row-preserved : goal.loop-row-preserved
loop-row-preserved c = let a = c.args in walking_step function_in function_line function_words function-sound (λ at x. refl) a.text.now a.table.now _ _ _ _ c.loop-row.invariant c.requires.1 c.loop-row-test.true _ _ c.function_line.ensures _ c.in-Some.is

pub returns : goal.returns
returns c = let a = c.args in walking_full function_in function_line function_words function-sound (λ at x. refl) a.text.now a.table.now _ _ _ _ c.loop-row.invariant c.requires.1 c.loop-row-test.false
