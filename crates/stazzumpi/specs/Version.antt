-- For callers in other languages, of no row of document 01: the version of the calls, 0.3.0, as include/stazzumpi.h has it.
use Rattle.std.specs.Prelude.{ℕ, ◌+◌, ◌*◌}

abbrev pub version : ℕ
version = 0 * 65536 + 3 * 256 + 0
