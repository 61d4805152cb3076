use mathlib.Core.Path.{◌≡◌}
use mathlib.Core.Bool.{Bool}
use Prim.Native.Nat.{ℕ, ◌+◌, ◌<◌}
use lib.ListN.{drop}
use Rattle.lexicon.specs.Span.{span_by}
use Rattle.lexicon.proofs.span.run_end.Given as goal

abbrev pub invariant-loop-at : goal.invariant-loop-at
invariant-loop-at g l =
    (test : ℕ → Bool) → ((byte : ℕ) (yes : Bool) → byte < 256 → goal.F-post g l.passes byte yes → yes ≡ test byte)
    → l.start + span_by test (drop l.start l.s) ≡ l.at + span_by test (drop l.at l.s)
