use mathlib.Core.List.{map}
use Rattle.lent.proofs.Copies.{Copying}
use Rattle.parts.specs.Texts.{spaced}
use Rattle.parts.proofs.spaced.copy_spaced.Given as goal

abbrev pub invariant-loop-at : goal.invariant-loop-at
invariant-loop-at l = Copying (map spaced l.text) l.initial.out l.out l.at
