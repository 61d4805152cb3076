use Rattle.std.proofs.lemmas.Result.{err_from_is_err_and}
use Rattle.tokens.proofs.Lexes.{bytes_of}
use Rattle.reply.proofs.Trees.{text-unread, text-walked}
use Rattle.reply.proofs.reply.list_text.Goals as goal

pub returns : goal.returns
returns c = let a = c.args in text-walked a.form (record { sorts = a.sorts.now; fields = a.fields.now; variables = a.variables.now; functions = a.functions.now; members = a.members.now; names = a.names.now }) a.reply.now a.nodes.now a.text.now a.stack.now a.out.now _ _ _ _ c.parse_sexpr.ensures _ _ _ c.in_ok-parse_sexpr.was (bytes_of a.reply.now (λ i. (c.shared_slice_known-7-1.given i).fits)) _ _ c.list_form.ensures

pub returns-in_err-parse_sexpr : goal.returns-in_err-parse_sexpr
returns-in_err-parse_sexpr c =
    let a = c.args in
    let p = err_from_is_err_and c.from_residual.result c.from_residual.ensures.1 in
    rw (p.1, p.2) (text-unread a.form (record { sorts = a.sorts.now; fields = a.fields.now; variables = a.variables.now; functions = a.functions.now; members = a.members.now; names = a.names.now }) a.reply.now a.nodes.now a.text.now a.stack.now a.out.now _ _ _ _ c.parse_sexpr.ensures _ c.in_err-parse_sexpr.was)
