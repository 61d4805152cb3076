-- Document 01, "The arena", the table of kinds: what the words of a node say.
use Rattle.std.specs.Prelude.{cond, List, ℕ, ◌+◌, ◌*◌, ◌/◌, eqb, ltb, length, get_or}
use Rattle.arena.specs.declared.node.Node.{Node}
use Rattle.arena.specs.declared.node.Node.TheVariants.{BitVec, Numeral, String, Symbol, App, NoNode}
use Rattle.arena.specs.Layout.{stride, first_word, second_word, third_word, bit_vec_kind, numeral_kind, string_kind, symbol_kind, app_kind}

-- a word that the table gives as 0
abbrev pub unused : ℕ → Node → Node
unused word node = cond (eqb word 0) node NoNode

-- a kind, and words 1 to 3
abbrev pub node_of : ℕ → ℕ → ℕ → ℕ → Node
node_of kind one two three =
    cond (eqb kind bit_vec_kind) (BitVec one two three)
    (cond (eqb kind numeral_kind) (unused one (Numeral two three))
    (cond (eqb kind string_kind) (unused three (String one two))
    (cond (eqb kind symbol_kind) (unused three (Symbol one two))
    (cond (eqb kind app_kind) (unused three (App one two))
    NoNode))))

-- node i, where the words have one
unfoldable pub node_at : List ℕ → ℕ → Node
node_at ws i =
    cond (ltb i (length ws / stride))
    (node_of (get_or ws (i * stride) 0) (get_or ws (i * stride + first_word) 0) (get_or ws (i * stride + second_word) 0) (get_or ws (i * stride + third_word) 0))
    NoNode

abbrev pub after_of : Node → ℕ → ℕ
after_of (BitVec width low high) i = i + 1
after_of (Numeral low high) i = i + 1
after_of (String size offset) i = i + 1
after_of (Symbol size offset) i = i + 1
after_of (App children end) i = end
after_of NoNode i = i

-- the node after node i and its descendants
abbrev pub after_at : List ℕ → ℕ → ℕ
after_at ws i = after_of (node_at ws i) i
