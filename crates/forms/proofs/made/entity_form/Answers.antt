use borrow.Enum.Refused.{opened}
use Rattle.forms.proofs.Leaves.{entity-string, entity-other}
use Rattle.forms.proofs.made.entity_form.Goals as goal

pub returns-in_default : goal.returns-in_default
returns-in_default c = let a = c.args in entity-other a.nodes.now a.row a.at c.node_at-node.result c.node_at-node.ensures (opened c.in_default.in_default-own.keys2)

pub returns : goal.returns
returns c = let a = c.args in entity-string a.nodes.now a.row a.at c.node_at-node.result c.node_at-node.ensures _ _ c.in-String.is
