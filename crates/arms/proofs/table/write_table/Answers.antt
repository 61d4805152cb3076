use Rattle.arms.proofs.Tables.{table-tests, table-chain}
use Rattle.arms.proofs.table.write_table.Goals as goal

pub returns-in-Some : goal.returns-in-Some
returns-in-Some c = let a = c.args in table-tests a.sorts.now a.members.now a.names.now a.nodes.now a.text.now a.offset a.size a.body _ c.tests_at.ensures _ _ c.in-Some.is _ _ _ _ _ _ _ _ c.write_tests-end.ensures c.settle-next.ensures c.put.ensures

pub returns-in-None : goal.returns-in-None
returns-in-None c = let a = c.args in table-chain a.sorts.now a.members.now a.names.now a.nodes.now a.text.now a.offset a.size a.body _ c.tests_at.ensures c.in-None.is _ _ _ _ _ _ _ c.write_chain-chained.result c.write_chain-chained.ensures c.settle-next-in-None.ensures c.write_else.ensures
