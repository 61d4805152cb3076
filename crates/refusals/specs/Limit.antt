-- Document 01, "Numbers given back", 9: the most bytes, or ends, of one lent input.
use Rattle.std.specs.Prelude.{ℕ}

abbrev pub input_limit : ℕ
input_limit = 16777216
