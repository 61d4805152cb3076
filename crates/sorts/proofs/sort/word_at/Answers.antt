use mathlib.Core.Path.{refl, subst}
use mathlib.Core.List.{List}
use Prim.Native.Nat.{ℕ}
use Rattle.sorts.specs.Reads.{WordSort}
use Rattle.sorts.proofs.sort.word_at.Goals as goal

pub returns : goal.returns
returns c = subst (λ (s : List ℕ). WordSort c.args.sorts.now c.args.names.now s c.sort_word.result) (c.clamp-range.ensures.holds _ refl) c.sort_word.ensures
