use borrow.Enum.Refused.{opened}
use Rattle.value_text.proofs.Leaves.{range_holds, named-string, named_other}
use mathlib.Core.Path.{sym, ◌∙◌}
use Rattle.value_text.proofs.leaf.write_named.Goals as goal

pub returns-in_default : goal.returns-in_default
returns-in_default c = let a = c.args in named_other a.nodes.now a.text.now _ _ a.row a.at _ c.node_at-node.result c.node_at-node.ensures (opened c.in_default.in_default-own.keys2)

pub returns : goal.returns
returns c = let a = c.args in named-string a.nodes.now a.text.now _ _ a.row a.at _ _ _ _ (sym c.node_at-node.ensures ∙ c.in-String.is) (range_holds a.text.now _ _ _ c.clamp-range.ensures) c.write_entity.ensures
