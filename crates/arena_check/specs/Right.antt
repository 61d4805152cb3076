-- Document 01, "The arena", 27, node by node: what is asked of one node, given the text offset that the nodes before it leave.
use Rattle.std.specs.Prelude.{◌≡◌, Bool, true, false, List, ℕ, zero, suc, ◌+◌, ◌*◌, ◌^◌, ◌≤◌, ◌<◌, length, None, Option, Some}
use Rattle.utf8.specs.Octets.{utf8}
use Rattle.arena.specs.declared.node.Node.{Node}
use Rattle.arena.specs.declared.node.Node.TheVariants.{BitVec, Numeral, String, Symbol, App, NoNode}
use Rattle.arena.specs.Tree.{BitVector}
use Rattle.arena.specs.Node.{node_at, after_at}
use Rattle.arena.specs.Text.{text_at}

-- an answer that is yes where something holds, and no where it does not
pub record Tells (P : Type 0) (r : Bool) : Type 0 where
  pub yes : r ≡ true → P
  pub no : r ≡ false → P → ⊥

-- the same, where yes goes on to a number
pub record Steps (P : Type 0) (next : ℕ) (r : Option ℕ) : Type 0 where
  pub right : (n : ℕ) → r ≡ Some n → P
  pub goes : (n : ℕ) → r ≡ Some n → n ≡ next
  pub wrong : r ≡ None → P → ⊥

-- a node ends behind itself and no later than e, and the others follow
pub record Link (ws : List ℕ) (p e : ℕ) (Others : Type 0) : Type 0 where
  pub onward : p < after_at ws p
  pub within : after_at ws p ≤ e
  pub others : Others

-- so many nodes follow each other from p on, and the last one ends at e
abbrev pub Chain : ℕ → List ℕ → ℕ → ℕ → Type 0
Chain zero ws p e = p ≡ e
Chain (suc c) ws p e = Link ws p e (Chain c ws (after_at ws p) e)

-- a number of two words
pub record Words (low high : ℕ) : Type 0 where
  pub low_fits : low < 2 ^ 64
  pub high_fits : high < 2 ^ 64

pub record Vector (width low high : ℕ) : Type 0 where
  pub number : Words low high
  pub sound : BitVector width (low + high * 2 ^ 64)

-- a text that begins at x, lies within the bytes and is UTF-8
pub record Written (ts : List ℕ) (size offset x : ℕ) : Type 0 where
  pub gapless : offset ≡ x
  pub within : x + size ≤ length ts
  pub encoded : utf8 (text_at ts x size) ≡ true

-- node i is right where the text before it ends at x
abbrev pub Right : Node → List ℕ → List ℕ → ℕ → ℕ → Type 0
Right (BitVec width low high) ws ts i x = Vector width low high
Right (Numeral low high) ws ts i x = Words low high
Right (String size offset) ws ts i x = Written ts size offset x
Right (Symbol size offset) ws ts i x = Written ts size offset x
Right (App children end) ws ts i x = Chain children ws (i + 1) end
Right NoNode ws ts i x = ⊥

-- how many bytes of the text a node has
abbrev pub takes : Node → ℕ
takes (BitVec width low high) = 0
takes (Numeral low high) = 0
takes (String size offset) = size
takes (Symbol size offset) = size
takes (App children end) = 0
takes NoNode = 0

abbrev pub StepsAt : List ℕ → List ℕ → ℕ → ℕ → Option ℕ → Type 0
StepsAt ws ts i x r = Steps (Right (node_at ws i) ws ts i x) (x + takes (node_at ws i)) r
