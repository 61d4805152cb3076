use mathlib.Core.Path.{◌≡◌}
use lib.ListN.{drop}
use Rattle.tables_text.specs.Parse.{digits_from}
use Rattle.tables_text.proofs.number.digits.Given as goal

abbrev pub invariant-loop-byte : goal.invariant-loop-byte
invariant-loop-byte l = digits_from l.number (drop l.byte-index l.s) ≡ digits_from 0 l.s
