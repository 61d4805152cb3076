-- Document 01, "The model walk", a later definition replaces an earlier one: the words that hold the last definition of each name, three a slot.
use Rattle.std.specs.Prelude.{◌≡◌, cond, List, [], ◌∷◌, ℕ, ◌+◌, ◌*◌, ◌<◌, eqb, length, get_or, set, None, Option, Some}
use Rattle.tables.specs.Layout.{Lent}
use Rattle.tables.specs.Rules.{row_limit}
use Rattle.literals.specs.Answer.{capped}
use Rattle.model.specs.Model.{or_else}
use Rattle.walk.specs.Noted.{slot, size}
use Rattle.walk.specs.Placed.{Placed}

-- a slot for each variable and each function of full tables
abbrev pub slots : ℕ
slots = row_limit * 2

-- how many words a slot has, and which is which: the command's node, the value's, and how long its text is
abbrev pub stride : ℕ
stride = 3

abbrev pub node_word : ℕ
node_word = 0

abbrev pub value_word : ℕ
value_word = 1

abbrev pub need_word : ℕ
need_word = 2

-- word j of slot k
abbrev pub word_at : List ℕ → ℕ → ℕ → ℕ
word_at last k j = get_or last (k * stride + j) 0

-- the last one of a slot's name
unfoldable pub last_in : Lent → ℕ → List Placed → Option Placed
last_in l k [] = None
last_in l k (p ∷ ps) = or_else (last_in l k ps) (cond (eqb k (slot l p.it)) (Some p) None)

-- the three words of a slot that a command gets
abbrev pub kept : List ℕ → ℕ → ℕ → ℕ → ℕ → List ℕ
kept last k node value long = set (set (set last (k * stride + node_word) node) (k * stride + value_word) value) (k * stride + need_word) long

abbrev pub Keeps : List ℕ → ℕ → ℕ → ℕ → ℕ → List ℕ → Type 0
Keeps entry k node value long exit = k * stride + need_word < length entry → exit ≡ kept entry k node value long

-- the words of the last command itself; zeros where none defines the name, node 0 being the root and no command
pub record Words (p : Placed) (node value long : ℕ) : Type 0 where
  pub node-is : node ≡ p.node
  pub value-is : value ≡ p.value
  pub long-is : long ≡ capped (size p.it)

abbrev pub Holds : Option Placed → ℕ → ℕ → ℕ → Type 0
Holds None node value long = (node ≡ 0) × (value ≡ 0) × (long ≡ 0)
Holds (Some p) node value long = Words p node value long

-- each slot holds the last definition of its name
pub record Kept (l : Lent) (ps : List Placed) (last : List ℕ) : Type 0 where
  pub full : length last ≡ slots * stride
  pub holds : (k : ℕ) → k < slots → Holds (last_in l k ps) (word_at last k node_word) (word_at last k value_word) (word_at last k need_word)
