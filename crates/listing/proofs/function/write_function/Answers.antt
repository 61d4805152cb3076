use Rattle.std.proofs.Common.{Ok, ap, ◌∙◌}
use Rattle.listing.proofs.Readings.{by-body, by-variable, by-refused}
use Rattle.listing.proofs.function.write_function.Goals as goal

pub returns-in_default-found : goal.returns-in_default-found
returns-in_default-found c = let a = c.args in λ fields variables. by-variable (record { sorts = a.sorts.now; fields = fields; variables = variables; functions = a.functions.now; members = a.members.now; names = a.names.now }) a.nodes.now a.text.now a.row a.node c.command_at-command.result c.command_at-command.ensures.command_at a.out.now _ a.place _ _ _ _ _ (c.in-Ok.is ∙ ap Ok c.in_default-found.is)

pub returns : goal.returns
returns c = let a = c.args in λ fields variables. by-body (record { sorts = a.sorts.now; fields = fields; variables = variables; functions = a.functions.now; members = a.members.now; names = a.names.now }) a.nodes.now a.text.now a.row a.node c.command_at-command.result c.command_at-command.ensures.command_at a.out.now _ a.place _ _ _ _ _ _ _ _ (c.in-Ok.is ∙ ap Ok c.in-Function.is) (c.write_table_lines.ensures fields variables)

pub returns-in_default : goal.returns-in_default
returns-in_default c = let a = c.args in λ fields variables. by-refused (record { sorts = a.sorts.now; fields = fields; variables = variables; functions = a.functions.now; members = a.members.now; names = a.names.now }) a.nodes.now a.text.now a.row a.node c.command_at-command.result c.command_at-command.ensures.command_at a.out.now _ a.place _ _ c.in_default.is
