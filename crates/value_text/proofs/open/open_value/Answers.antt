use Rattle.value_text.specs.declared.open.Opened.{Opened}
use Rattle.value_text.proofs.Values.{node-bits, node-string, node-word, node-app, node-other}
use Rattle.value_text.proofs.open.open_value.Goals as goal

pub returns-in-BitVec : goal.returns-in-BitVec
returns-in-BitVec c = let a = c.args in node-bits a.sorts.now a.members.now a.names.now a.nodes.now a.text.now a.at c.node_at-node.result c.node_at-node.ensures _ _ _ _ _ _ c.in-BitVec.is c.write_bits.ensures

pub returns-in-String : goal.returns-in-String
returns-in-String c = let a = c.args in node-string a.sorts.now a.members.now a.names.now a.nodes.now a.text.now a.at c.node_at-node.result c.node_at-node.ensures _ _ _ _ _ c.in-String.is c.write_string.ensures

pub returns-in-Symbol : goal.returns-in-Symbol
returns-in-Symbol c = let a = c.args in node-word a.sorts.now a.members.now a.names.now a.nodes.now a.text.now a.at c.node_at-node.result c.node_at-node.ensures _ _ _ _ _ c.in-Symbol.is c.write_word.ensures

pub returns-in-App : goal.returns-in-App
returns-in-App c = let a = c.args in node-app a.sorts.now a.members.now a.names.now a.nodes.now a.text.now a.at c.node_at-node.result c.node_at-node.ensures _ _ c.open_app.result _ _ c.in-App.is c.open_app.ensures

pub returns-in_default : goal.returns-in_default
returns-in_default c = let a = c.args in node-other a.sorts.now a.members.now a.names.now a.nodes.now a.text.now a.at c.node_at-node.result c.node_at-node.ensures _ _ (Opened.Whole 0) c.in_default.in_default-own.keys5
