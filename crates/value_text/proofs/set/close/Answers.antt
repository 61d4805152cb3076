use Rattle.value_text.proofs.Closes.{closes-none, closes-long, closes-run}
use Rattle.value_text.proofs.set.close.Goals as goal

pub returns-then-count-eq0 : goal.returns-then-count-eq0
returns-then-count-eq0 c = closes-none _ _ _ c.arrange-count.ensures _ _ c.if-count-eq0.true

pub returns-then-run-count : goal.returns-then-run-count
returns-then-run-count c = closes-long _ _ _ c.arrange-count.ensures _ _ c.arrange-count.auto.s c.if-run-count.true

pub returns : goal.returns
returns c = closes-run _ _ _ c.arrange-count.ensures c.if-count-eq0.false _ c.replace.ensures
