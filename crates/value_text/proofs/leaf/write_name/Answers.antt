use mathlib.Core.Path.{sym, ◌∙◌}
use Rattle.value_text.proofs.Leaves.{name-truth, name-member, name-unknown}
use Rattle.value_text.proofs.leaf.write_name.Goals as goal

pub returns-then-is_truth : goal.returns-then-is_truth
returns-then-is_truth c = name-truth _ _ _ _ _ _ (sym c.is_truth.ensures ∙ c.if-is_truth.true) c.put.ensures

pub returns-in-Some : goal.returns-in-Some
returns-in-Some c = name-member _ _ _ _ _ _ (sym c.is_truth.ensures ∙ c.if-is_truth.false) _ c.find_member-found.ensures _ c.in-Some.is c.write_member.ensures

pub returns-in-None : goal.returns-in-None
returns-in-None c = name-unknown _ _ _ _ _ _ (sym c.is_truth.ensures ∙ c.if-is_truth.false) _ c.find_member-found.ensures c.in-None.is
