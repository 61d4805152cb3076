use mathlib.Core.Path.{◌≡◌}
use lib.ListN.{drop, replicate}
use mathlib.Core.List.{◌∷◌}
use Prim.Native.Nat.{◌+◌, ◌-◌}
use Rattle.utf8.specs.Rows.{◌to◌, tail}
use Rattle.utf8.specs.Octets.{starts_with}
use Rattle.utf8.proofs.rest_at.Given as goal

abbrev pub invariant-loop-j : goal.invariant-loop-j
invariant-loop-j l = starts_with (l.first to l.last ∷ replicate l.tails tail) (drop (l.i + 1) l.s) ≡ starts_with (replicate (l.i + 2 + l.tails - l.j) tail) (drop l.j l.s)
