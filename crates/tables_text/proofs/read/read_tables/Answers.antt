use native.Mathlib.Omega.{arith}
use Rattle.tables_text.proofs.Readings.{reads-long, text_storable, text-reads}
use Rattle.tables_text.proofs.read.read_tables.Goals as goal

pub returns-then-text-gt-TEXT_LIMIT : goal.returns-then-text-gt-TEXT_LIMIT
returns-then-text-gt-TEXT_LIMIT c = let a = c.args in reads-long a.text.now (record { sorts = a.sorts.now; fields = a.fields.now; variables = a.variables.now; functions = a.functions.now; members = a.members.now }) c.if-text-gt-TEXT_LIMIT.true

pub parse_rows-parsed-requires : goal.parse_rows-parsed-requires
parse_rows-parsed-requires c = record { sorts = omega (arith, c.row_words-a.ensures); fields = omega (arith, c.field_words-b.ensures, c.if-text-gt-TEXT_LIMIT.false); variables = omega (arith, c.row_words-c.ensures); functions = omega (arith, c.row_words-d.ensures); members = omega (arith, c.row_words-e.ensures) }

pub store-requires : goal.store-requires
store-requires c = let a = c.args in text_storable a.text.now _ _ _ _ _ _ c.parse_rows-parsed.ensures (record { sorts = a.sorts.now; fields = a.fields.now; variables = a.variables.now; functions = a.functions.now; members = a.members.now }) _ c.answer_for-answer.ensures

pub returns : goal.returns
returns c = let a = c.args in text-reads a.text.now _ _ _ _ _ _ c.parse_rows-parsed.ensures (record { sorts = a.sorts.now; fields = a.fields.now; variables = a.variables.now; functions = a.functions.now; members = a.members.now }) _ c.answer_for-answer.ensures c.if-text-gt-TEXT_LIMIT.false _ _ c.store.ensures
