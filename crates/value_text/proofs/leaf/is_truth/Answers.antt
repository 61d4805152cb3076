use mathlib.Core.Path.{sym, ◌∙◌}
use Rattle.value_text.proofs.Leaves.{truth-first, truth-second}
use Rattle.value_text.proofs.leaf.is_truth.Goals as goal

pub returns-then-same : goal.returns-then-same
returns-then-same c = c.if-same.true ∙ truth-first c.args.name.now (sym c.same.ensures ∙ c.if-same.true)

pub returns-else-same : goal.returns-else-same
returns-else-same c = truth-second c.args.name.now _ (sym c.same.ensures ∙ c.if-same.false) c.same-else-same.ensures
