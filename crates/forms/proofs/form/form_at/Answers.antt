use Rattle.forms.proofs.Nodes.{node-bits, node-string, node-word, node-app, node-other}
use Rattle.forms.proofs.form.form_at.Goals as goal

pub returns-in-BitVec : goal.returns-in-BitVec
returns-in-BitVec c = let a = c.args in node-bits a.sorts.now a.members.now a.names.now a.nodes.now a.text.now a.marks.now a.at c.node_at-node.result c.node_at-node.ensures _ _ _ c.in-BitVec.is

pub returns-in-String : goal.returns-in-String
returns-in-String c = let a = c.args in node-string a.sorts.now a.members.now a.names.now a.nodes.now a.text.now a.marks.now a.at c.node_at-node.result c.node_at-node.ensures _ _ c.in-String.is

pub returns-in-Symbol : goal.returns-in-Symbol
returns-in-Symbol c = let a = c.args in node-word a.sorts.now a.members.now a.names.now a.nodes.now a.text.now a.marks.now a.at c.node_at-node.result c.node_at-node.ensures _ _ c.in-Symbol.is c.word_form.result c.word_form.ensures

pub returns-in-App : goal.returns-in-App
returns-in-App c = let a = c.args in node-app a.sorts.now a.members.now a.names.now a.nodes.now a.text.now a.marks.now a.at c.node_at-node.result c.node_at-node.ensures _ _ c.in-App.is c.app_form.result c.app_form.ensures

pub returns-in_default : goal.returns-in_default
returns-in_default c = let a = c.args in node-other a.sorts.now a.members.now a.names.now a.nodes.now a.text.now a.marks.now a.at c.node_at-node.result c.node_at-node.ensures c.in_default.in_default-own.keys5
