use Rattle.listing.proofs.Pieces.{variable-laid}
use Rattle.listing.proofs.variable.write_variable.Goals as goal

pub returns : goal.returns
returns c = let a = c.args in λ fields functions. variable-laid (record { sorts = a.sorts.now; fields = fields; variables = a.variables.now; functions = functions; members = a.members.now; names = a.names.now }) a.nodes.now a.text.now a.row a.value _ _ _ _ _ _ _ a.place _ _ _ _ _ c.word.ensures c.write_name-one.ensures c.write_number_line-two.ensures c.put-three.ensures c.write_inside-four.ensures c.put.ensures
