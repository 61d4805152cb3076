-- Document 01, "The listing": a line, and the first two lines.
use Rattle.std.specs.Prelude.{List, ◌++◌, ℕ}
use Rattle.ground.specs.Bytes.{bytes}
use Rattle.decimals.specs.Decimal.{decimal}
use Rattle.model.specs.Listing.{line}

-- a label, a text and the end of the line
abbrev pub line_of : List ℕ → List ℕ → List ℕ
line_of label s = label ++ (s ++ bytes "\n")

-- how many variables and how many functions are defined
abbrev pub header : ℕ → ℕ → List ℕ
header variables functions = line "vars" (decimal variables) ++ line "funs" (decimal functions)
