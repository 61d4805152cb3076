-- Document 01, "The listing": what the calls leave that write a value without another one in it, at the front of what is lent.
use Rattle.std.specs.Prelude.{◌≡◌, List, ℕ, ◌%◌, ◌^◌, Ok}
use Rattle.lent.specs.Put.{Offers}
use Rattle.words.specs.declared.digits.Radix.{Radix}
use Rattle.words.specs.Run.{parsed}
use Rattle.arena.specs.Tree.{string as quoted}
use Rattle.tables.specs.Layout.{Lent, member_at, tables_of}
use Rattle.shapes.specs.Shows.{Standing}
use Rattle.values.specs.Value.{v_bits, v_entity}
use Rattle.values.specs.Text.{text}
use Rattle.means.specs.Literal.{Lit, unsigned, numbered, word_lit}

-- the number that the digits are, at a width
abbrev pub IndexedText : List ℕ → ℕ → List ℕ → List ℕ → ℕ → Type 0
IndexedText digits width entry exit r =
    (n : ℕ) → numbered (parsed Radix.Decimal (unsigned digits)) ≡ Ok n → Offers entry exit 0 (text (v_bits width (n % 2 ^ width))) r

-- an entity of a row, its text at a node
abbrev pub EntityText : List ℕ → List ℕ → ℕ → ℕ → List ℕ → List ℕ → ℕ → Type 0
EntityText ws ts row i entry exit r = (s : List ℕ) → Standing (quoted s) ws ts i → Offers entry exit 0 (text (v_entity row s)) r

-- an enum member's row
abbrev pub MemberText : List ℕ → List ℕ → ℕ → List ℕ → List ℕ → ℕ → Type 0
MemberText members names row entry exit r =
    (l : Lent) → l.members ≡ members → l.names ≡ names → Offers entry exit 0 (text (v_entity (member_at l row).entity (member_at l row).text)) r

-- an atom that is a symbol
abbrev pub WordText : List ℕ → List ℕ → List ℕ → List ℕ → List ℕ → ℕ → Type 0
WordText members names name entry exit r =
    (l : Lent) → l.members ≡ members → l.names ≡ names → (k : Lit) → word_lit (tables_of l) name ≡ Ok k → Offers entry exit 0 (text k.value) r
