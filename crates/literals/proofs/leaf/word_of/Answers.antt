use mathlib.Core.Path.{refl, subst}
use mathlib.Core.List.{List}
use Prim.Native.Nat.{ℕ}
use Rattle.literals.specs.Parts.{WordOf}
use Rattle.literals.proofs.leaf.word_of.Goals as goal

pub returns : goal.returns
returns c = let a = c.args in subst (λ (s : List ℕ). WordOf a.sorts.now a.members.now a.names.now s c.word_lit.result) (c.clamp-range.ensures.holds a.text.now refl) c.word_lit.ensures
