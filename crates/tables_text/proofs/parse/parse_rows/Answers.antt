use mathlib.Core.Path.{refl}
use Rattle.tables_text.proofs.Readings.{passing_unparsed}
use native.Mathlib.Omega.{arith}
use Rattle.tables_text.specs.Line.{variable_line, function_line, member_line}
use Rattle.tables_text.specs.Words.{variable_words, function_words, member_words}
use Rattle.tables_text.specs.Parse.{variable_in, function_in, member_in}
use Rattle.tables_text.proofs.Parses.{sorts-few, rows_few, within_1, within_2, within_3, parses_other, parses_rows}
use Rattle.tables_text.proofs.parse.parse_rows.Goals as goal

pub variable_rows-second-requires : goal.variable_rows-second-requires
variable_rows-second-requires c = (within_1 _ _ _ _ c.sort_rows-first.ensures, c.requires.variables)

pub function_rows-third-requires : goal.function_rows-third-requires
function_rows-third-requires c = (within_2 _ _ _ _ c.sort_rows-first.ensures _ _ c.variable_rows-second.ensures, c.requires.functions)

pub member_rows-last-requires : goal.member_rows-last-requires
member_rows-last-requires c = (within_3 _ _ _ _ c.sort_rows-first.ensures _ _ c.variable_rows-second.ensures _ _ c.function_rows-third.ensures, c.requires.members)

pub returns-then-last-text : goal.returns-then-last-text
returns-then-last-text c = passing_unparsed c.args.text.now _ _ _ _ _ _ (parses_other _ _ _ _ c.sort_rows-first.ensures _ _ c.variable_rows-second.ensures _ _ c.function_rows-third.ensures _ _ c.member_rows-last.ensures c.if-last-text.true) refl

pub overflow_mul-parsed : goal.overflow_mul-parsed
overflow_mul-parsed c = omega (arith, sorts-few _ _ _ _ c.sort_rows-first.ensures)

pub overflow_mul-parsed-2 : goal.overflow_mul-parsed-2
overflow_mul-parsed-2 c = omega (arith, rows_few variable_in variable_line variable_words _ _ _ _ c.variable_rows-second.ensures)

pub overflow_mul-parsed-3 : goal.overflow_mul-parsed-3
overflow_mul-parsed-3 c = omega (arith, rows_few function_in function_line function_words _ _ _ _ c.function_rows-third.ensures)

pub overflow_mul-parsed-4 : goal.overflow_mul-parsed-4
overflow_mul-parsed-4 c = omega (arith, rows_few member_in member_line member_words _ _ _ _ c.member_rows-last.ensures)

pub judge-requires : goal.judge-requires
judge-requires c = parses_rows _ _ _ _ c.sort_rows-first.ensures _ _ c.variable_rows-second.ensures _ _ c.function_rows-third.ensures _ _ c.member_rows-last.ensures c.if-last-text.false

pub returns : goal.returns
returns c = c.judge.ensures
