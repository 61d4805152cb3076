use mathlib.Core.Path.{◌≡◌}
use Rattle.std.proofs.Common.{None, Some, Option, arith}
use Rattle.std.proofs.lemmas.Result.{err_from_is_err_and}
use Rattle.refusals.specs.declared.Refusal.{Refusal}
use Rattle.refusals.specs.declared.Refusal.TheVariants.{UnexpectedModel}
use Rattle.commands.specs.declared.pair.NamedPair.{NamedPair}
use Rattle.walk.proofs.Notes.{pair_found, pair-none}
use Rattle.walk.proofs.pair.check_pair.Goals as goal

pub returns-in_err-pair : goal.returns-in_err-pair
returns-in_err-pair c =
    let p = err_from_is_err_and c.from_residual.result c.from_residual.ensures.1 in
    let n : ◌≡◌ {A = Option NamedPair} c.pair_at.result None = grind arith in
    let r : ◌≡◌ {A = Refusal} c.in_err-pair.field-0.0 UnexpectedModel = grind arith in
    rw (p.1, p.2, r) (pair-none _ _ _ _ _ c.pair_at.ensures.pair_at n)

pub returns : goal.returns
returns c =
    let n : ◌≡◌ {A = Option NamedPair} c.pair_at.result (Some c.in_ok-pair.pair) = grind arith in
    pair_found _ _ _ _ _ c.pair_at.ensures.pair_at c.pair_at.ensures.second_at _ _ _ n _ c.note_pair.ensures
