-- Document 01, "The arena": four words a node, in the order in which the tokens begin. Nothing else says a node's words.
use Rattle.std.specs.Prelude.{List, [], ◌∷◌, ◌++◌, ℕ, suc, ◌+◌, ◌/◌, ◌%◌, ◌^◌, length}
use Rattle.arena.specs.Tree.{Tree, Trees, bit_vec, numeral, string, symbol, app, nil, cons, count, nodes, nodes_of, text}

-- how many words a node has
abbrev pub stride : ℕ
stride = 4

-- the places of the words behind the kind, and which of them an application counts its children in and has its end in
abbrev pub first_word : ℕ
first_word = 1

abbrev pub second_word : ℕ
second_word = 2

abbrev pub third_word : ℕ
third_word = 3

abbrev pub children_word : ℕ
children_word = first_word

abbrev pub end_word : ℕ
end_word = second_word

-- the kinds
abbrev pub bit_vec_kind : ℕ
bit_vec_kind = 1

abbrev pub numeral_kind : ℕ
numeral_kind = 2

abbrev pub string_kind : ℕ
string_kind = 3

abbrev pub symbol_kind : ℕ
symbol_kind = 4

abbrev pub app_kind : ℕ
app_kind = 5

-- the words of one node: its kind, and words 1 to 3
abbrev pub node_words : ℕ → ℕ → ℕ → ℕ → List ℕ
node_words kind one two three = kind ∷ one ∷ two ∷ three ∷ []

abbrev pub bit_vec_words : ℕ → ℕ → List ℕ
bit_vec_words width number = node_words bit_vec_kind width (number % 2 ^ 64) (number / 2 ^ 64)

abbrev pub numeral_words : ℕ → List ℕ
numeral_words number = node_words numeral_kind 0 (number % 2 ^ 64) (number / 2 ^ 64)

abbrev pub string_words : ℕ → ℕ → List ℕ
string_words size offset = node_words string_kind size offset 0

abbrev pub symbol_words : ℕ → ℕ → List ℕ
symbol_words size offset = node_words symbol_kind size offset 0

-- the end is the node after the last descendant
abbrev pub app_words : ℕ → ℕ → List ℕ
app_words children end = node_words app_kind children end 0

-- the words of a tree whose first node is number i and whose text begins at x
abbrev mutual
  pub words : Tree → ℕ → ℕ → List ℕ
  words (bit_vec w n) i x = bit_vec_words w n
  words (numeral n) i x = numeral_words n
  words (string s) i x = string_words (length s) x
  words (symbol s) i x = symbol_words (length s) x
  words (app ts) i x = app_words (count ts) (i + suc (nodes_of ts)) ++ words_of ts (i + 1) x

  pub words_of : Trees → ℕ → ℕ → List ℕ
  words_of nil i x = []
  words_of (cons t ts) i x = words t i x ++ words_of ts (i + nodes t) (x + length (text t))
