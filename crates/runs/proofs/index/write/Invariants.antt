use Rattle.runs.proofs.Listings.{Writing}
use Rattle.runs.proofs.index.write.Given as goal

abbrev pub invariant-loop-i : goal.invariant-loop-i
invariant-loop-i l = Writing l.s l.n l.initial.out l.out l.w l.i
