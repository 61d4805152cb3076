use Rattle.std.proofs.Common.{sym, arith}
use Rattle.decimals.proofs.Counts.{count-one, count-power}
use Rattle.decimals.proofs.digit_count.Goals as goal

pub returns-in-Some : goal.returns-in-Some
returns-in-Some c = let e = c.in-Some.ensures in count-power c.in-Some.power c.args.number e.bound e.power_le e.next_power_gt

pub returns-in-None : goal.returns-in-None
returns-in-None c = sym (count-one c.args.number (omega (arith, c.in-None.ensures.none)))
