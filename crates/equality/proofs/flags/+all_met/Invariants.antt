use Rattle.equality.proofs.flags.+all_met.Given as goal

abbrev pub decreases-all_met : goal.decreases-all_met
decreases-all_met l = l.allow
