use Rattle.listing.proofs.Pieces.{body-laid}
use Rattle.listing.proofs.function.write_table_lines.Goals as goal

pub returns : goal.returns
returns c = let a = c.args in λ fields variables. body-laid (record { sorts = a.sorts.now; fields = fields; variables = variables; functions = a.functions.now; members = a.members.now; names = a.names.now }) a.nodes.now a.text.now a.row a.offset a.size a.body _ _ _ _ _ _ _ a.place _ _ _ _ c.word.ensures c.word-2.ensures c.write_name-one.ensures c.write_number_line-two.ensures c.write_number_line-three.ensures c.write_table.ensures
