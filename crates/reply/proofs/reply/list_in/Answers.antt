use Rattle.std.proofs.Common.{sym}
use Rattle.std.proofs.Common.{length-take-le}
use Rattle.std.proofs.lemmas.Result.{err_from_is_err_and}
use Rattle.reply.proofs.Spellings.{tables-long, reply_long, refused-long, nothing-spelled, under_1, under_2, under_3, under_4, under_5, spelled-walked}
use Rattle.reply.proofs.reply.list_in.Goals as goal

pub returns-then-tables-gt-LIMIT : goal.returns-then-tables-gt-LIMIT
returns-then-tables-gt-LIMIT c = let a = c.args in refused-long a.tables.now a.reply.now a.form (record { nodes = a.nodes.now; text = a.text.now; stack = a.stack.now }) a.out.now (tables-long a.tables.now a.reply.now c.if-tables-gt-LIMIT.true)

pub returns-then-long-gt-LIMIT : goal.returns-then-long-gt-LIMIT
returns-then-long-gt-LIMIT c = let a = c.args in refused-long a.tables.now a.reply.now a.form (record { nodes = a.nodes.now; text = a.text.now; stack = a.stack.now }) a.out.now (reply_long a.tables.now a.reply.now c.if-long-gt-LIMIT.true)

pub slice_bounds-list_text-end : goal.slice_bounds-list_text-end
slice_bounds-list_text-end c = sym (length-take-le _ _ (under_1 c.args.tables.now _ _ _ c.read_tables.ensures c.if-tables-gt-LIMIT.false (record { sorts = c.row_words-sorts.ensures; fields = c.field_words-fields.ensures; variables = c.row_words-variables.ensures; functions = c.row_words-functions.ensures; members = c.row_words-members.ensures }) _ _ _ _ _ c.in_ok-rows.was))

pub slice_bounds-list_text-end-2 : goal.slice_bounds-list_text-end-2
slice_bounds-list_text-end-2 c = sym (length-take-le _ _ (under_2 c.args.tables.now _ _ _ c.read_tables.ensures c.if-tables-gt-LIMIT.false (record { sorts = c.row_words-sorts.ensures; fields = c.field_words-fields.ensures; variables = c.row_words-variables.ensures; functions = c.row_words-functions.ensures; members = c.row_words-members.ensures }) _ _ _ _ _ c.in_ok-rows.was))

pub slice_bounds-list_text-end-3 : goal.slice_bounds-list_text-end-3
slice_bounds-list_text-end-3 c = sym (length-take-le _ _ (under_3 c.args.tables.now _ _ _ c.read_tables.ensures c.if-tables-gt-LIMIT.false (record { sorts = c.row_words-sorts.ensures; fields = c.field_words-fields.ensures; variables = c.row_words-variables.ensures; functions = c.row_words-functions.ensures; members = c.row_words-members.ensures }) _ _ _ _ _ c.in_ok-rows.was))

pub slice_bounds-list_text-end-4 : goal.slice_bounds-list_text-end-4
slice_bounds-list_text-end-4 c = sym (length-take-le _ _ (under_4 c.args.tables.now _ _ _ c.read_tables.ensures c.if-tables-gt-LIMIT.false (record { sorts = c.row_words-sorts.ensures; fields = c.field_words-fields.ensures; variables = c.row_words-variables.ensures; functions = c.row_words-functions.ensures; members = c.row_words-members.ensures }) _ _ _ _ _ c.in_ok-rows.was))

pub slice_bounds-list_text-end-5 : goal.slice_bounds-list_text-end-5
slice_bounds-list_text-end-5 c = sym (length-take-le _ _ (under_5 c.args.tables.now _ _ _ c.read_tables.ensures c.if-tables-gt-LIMIT.false (record { sorts = c.row_words-sorts.ensures; fields = c.field_words-fields.ensures; variables = c.row_words-variables.ensures; functions = c.row_words-functions.ensures; members = c.row_words-members.ensures }) _ _ _ _ _ c.in_ok-rows.was))

pub slice_bounds-sorts-end : goal.slice_bounds-sorts-end
slice_bounds-sorts-end c = under_1 c.args.tables.now _ _ _ c.read_tables.ensures c.if-tables-gt-LIMIT.false (record { sorts = c.row_words-sorts.ensures; fields = c.field_words-fields.ensures; variables = c.row_words-variables.ensures; functions = c.row_words-functions.ensures; members = c.row_words-members.ensures }) _ _ _ _ _ c.in_ok-rows.was

pub slice_bounds-fields-end : goal.slice_bounds-fields-end
slice_bounds-fields-end c = under_2 c.args.tables.now _ _ _ c.read_tables.ensures c.if-tables-gt-LIMIT.false (record { sorts = c.row_words-sorts.ensures; fields = c.field_words-fields.ensures; variables = c.row_words-variables.ensures; functions = c.row_words-functions.ensures; members = c.row_words-members.ensures }) _ _ _ _ _ c.in_ok-rows.was

pub slice_bounds-variables-end : goal.slice_bounds-variables-end
slice_bounds-variables-end c = under_3 c.args.tables.now _ _ _ c.read_tables.ensures c.if-tables-gt-LIMIT.false (record { sorts = c.row_words-sorts.ensures; fields = c.field_words-fields.ensures; variables = c.row_words-variables.ensures; functions = c.row_words-functions.ensures; members = c.row_words-members.ensures }) _ _ _ _ _ c.in_ok-rows.was

pub slice_bounds-functions-end : goal.slice_bounds-functions-end
slice_bounds-functions-end c = under_4 c.args.tables.now _ _ _ c.read_tables.ensures c.if-tables-gt-LIMIT.false (record { sorts = c.row_words-sorts.ensures; fields = c.field_words-fields.ensures; variables = c.row_words-variables.ensures; functions = c.row_words-functions.ensures; members = c.row_words-members.ensures }) _ _ _ _ _ c.in_ok-rows.was

pub slice_bounds-members-end : goal.slice_bounds-members-end
slice_bounds-members-end c = under_5 c.args.tables.now _ _ _ c.read_tables.ensures c.if-tables-gt-LIMIT.false (record { sorts = c.row_words-sorts.ensures; fields = c.field_words-fields.ensures; variables = c.row_words-variables.ensures; functions = c.row_words-functions.ensures; members = c.row_words-members.ensures }) _ _ _ _ _ c.in_ok-rows.was

pub returns : goal.returns
returns c = let a = c.args in spelled-walked a.tables.now _ _ _ c.read_tables.ensures c.if-tables-gt-LIMIT.false (record { sorts = c.row_words-sorts.ensures; fields = c.field_words-fields.ensures; variables = c.row_words-variables.ensures; functions = c.row_words-functions.ensures; members = c.row_words-members.ensures }) _ _ _ _ _ c.in_ok-rows.was a.form a.reply.now a.out.now (record { nodes = a.nodes.now; text = a.text.now; stack = a.stack.now }) _ _ _ c.if-long-gt-LIMIT.false c.list_text.ensures

pub returns-in_err-rows : goal.returns-in_err-rows
returns-in_err-rows c =
    let a = c.args in
    let p = err_from_is_err_and c.from_residual.result c.from_residual.ensures.1 in
    rw (p.1, p.2) (nothing-spelled a.tables.now _ _ _ c.read_tables.ensures c.if-tables-gt-LIMIT.false (record { sorts = c.row_words-sorts.ensures; fields = c.field_words-fields.ensures; variables = c.row_words-variables.ensures; functions = c.row_words-functions.ensures; members = c.row_words-members.ensures }) a.form a.reply.now a.out.now (record { nodes = a.nodes.now; text = a.text.now; stack = a.stack.now }) _ c.if-long-gt-LIMIT.false c.in_err-rows.was)
