use mathlib.Core.Path.{refl, ap₂, ◌∙◌}
use Rattle.arena.specs.Text.{same_text}
use Rattle.equality.proofs.leaf.same_at.Goals as goal

pub returns : goal.returns
returns c = let a = c.args in c.same.ensures ∙ ap₂ same_text (c.clamp-one.ensures.holds a.a.now refl) (c.clamp-two.ensures.holds a.b.now refl)
