-- Document 02, R-2, `=`: whether two literals are one value, their sets in order and without repeats.
use Rattle.std.specs.Prelude.{Bool}
use Rattle.values.specs.Equal.{decided, equal}
use Rattle.values.specs.Normal.{normal}
use Rattle.values.specs.Value.{Value}

abbrev pub same : Value → Value → Bool
same v w = decided (equal (normal v) (normal w))
