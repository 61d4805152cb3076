use Rattle.commands.proofs.Pairs.{two_none, two-word}
use Rattle.commands.proofs.pair.two.Goals as goal

pub returns-in_err-word-clause-two_at : goal.returns-in_err-word-clause-two_at
returns-in_err-word-clause-two_at c = rw c.from_residual.ensures (two_none _ _ _ c.symbol_at.ensures c.in_err-word.was)

pub returns-clause-two_at : goal.returns-clause-two_at
returns-clause-two_at c = two-word _ _ _ c.symbol_at.ensures _ _ c.in_ok-word.was _ c.after-second.ensures
