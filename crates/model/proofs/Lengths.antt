-- How long a line of the listing is: its name, its text and two bytes more.
-- Assumes nothing.
use mathlib.Core.Path.{◌≡◌}
use mathlib.Core.List.{List, ◌++◌}
use Prim.Native.Nat.{ℕ, ◌+◌}
use Prim.Native.String.{String}
use native.Mathlib.Omega.{arith}
use lib.ListN.{length, length-append}
use Rattle.ground.specs.Bytes.{bytes}
use Rattle.model.specs.Listing.{line}

pub length-line : (name : String) (s : List ℕ) → length (line name s) ≡ length (bytes name) + length s + 2
length-line name s = omega (arith, length-append (bytes name) (bytes "=" ++ (s ++ bytes "\n")), length-append s (bytes "\n"))
