-- Document 01, "The listing", program `modellist`: how many nodes the programs lend to a reading.
use Rattle.std.specs.Prelude.{ℕ, ◌*◌}
use Rattle.arena.specs.Layout.{stride}

abbrev pub program_nodes : ℕ
program_nodes = 2048

-- in words
abbrev pub program_words : ℕ
program_words = program_nodes * stride
