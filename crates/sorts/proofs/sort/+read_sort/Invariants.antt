use Rattle.sorts.proofs.sort.+read_sort.Given as goal

abbrev pub decreases-read_sort : goal.decreases-read_sort
decreases-read_sort l = l.allow
