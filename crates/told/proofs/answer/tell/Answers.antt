use mathlib.Core.Path.{refl, ap}
use mathlib.Core.List.{List, ◌++◌}
use Prim.Native.Nat.{ℕ}
use lib.ListN.{length, drop}
use Rattle.lent.specs.Left.{onto}
use Rattle.told.proofs.answer.tell.Goals as goal

pub returns : goal.returns
unfolding onto
returns c = record {
  word = refl;
  tells = ap (λ (l : List ℕ). l ++ drop (length c.args.numbers.now) c.args.told.now) c.copy_from_slice.ensures.after;
}
