use Rattle.equality.proofs.flags.+clear_members.Given as goal

abbrev pub decreases-clear_members : goal.decreases-clear_members
decreases-clear_members l = l.allow
