use Rattle.std.proofs.lemmas.Result.{err_from_is_err_and}
use Rattle.tables_text.proofs.Stores.{none-stored, all-stored}
use Rattle.tables_text.proofs.store.store.Goals as goal

pub copy_words-requires : goal.copy_words-requires
copy_words-requires c = ((c.requires.held _ _ _ _ _ c.in_ok-counts.was).sorts, (c.requires.room _ _ _ _ _ c.in_ok-counts.was).sorts)

pub copy_words-requires-2 : goal.copy_words-requires-2
copy_words-requires-2 c = ((c.requires.held _ _ _ _ _ c.in_ok-counts.was).fields, (c.requires.room _ _ _ _ _ c.in_ok-counts.was).fields)

pub copy_words-requires-3 : goal.copy_words-requires-3
copy_words-requires-3 c = ((c.requires.held _ _ _ _ _ c.in_ok-counts.was).variables, (c.requires.room _ _ _ _ _ c.in_ok-counts.was).variables)

pub copy_words-requires-4 : goal.copy_words-requires-4
copy_words-requires-4 c = ((c.requires.held _ _ _ _ _ c.in_ok-counts.was).functions, (c.requires.room _ _ _ _ _ c.in_ok-counts.was).functions)

pub copy_words-requires-5 : goal.copy_words-requires-5
copy_words-requires-5 c = ((c.requires.held _ _ _ _ _ c.in_ok-counts.was).members, (c.requires.room _ _ _ _ _ c.in_ok-counts.was).members)

pub returns-in_err-counts : goal.returns-in_err-counts
returns-in_err-counts c = let a = c.args in let p = err_from_is_err_and c.from_residual.result c.from_residual.ensures.1 in rw (p.1, p.2) (none-stored _ (record { sorts = a.a.now; fields = a.b.now; variables = a.c.now; functions = a.d.now; members = a.e.now }) (record { sorts = a.sorts.now; fields = a.fields.now; variables = a.variables.now; functions = a.functions.now; members = a.members.now }) _ c.in_err-counts.was)

pub returns : goal.returns
returns c = let a = c.args in all-stored _ (record { sorts = a.a.now; fields = a.b.now; variables = a.c.now; functions = a.d.now; members = a.e.now }) (record { sorts = a.sorts.now; fields = a.fields.now; variables = a.variables.now; functions = a.functions.now; members = a.members.now }) _ _ _ _ _ c.in_ok-counts.was _ _ _ _ _ c.copy_words.ensures c.copy_words-2.ensures c.copy_words-3.ensures c.copy_words-4.ensures c.copy_words-5.ensures
