use mathlib.Core.Path.{sym, ◌∙◌}
use Rattle.arena.proofs.Views.{node_in, node-past}
use Rattle.arena.proofs.node.node_at.Goals as goal

pub returns-then-words-at : goal.returns-then-words-at
returns-then-words-at c = node-past _ _ c.if-words-at.true

pub returns : goal.returns
returns c = let a = c.args in c.node_of.ensures ∙ sym (node_in a.words.now a.at c.if-words-at.false)
