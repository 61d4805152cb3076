-- Document 01, "Sorts and literals": what a value without another one in it is.
use Rattle.std.specs.Prelude.{◌≡◌, List, ℕ, ◌%◌, ◌^◌, Ok}
use Rattle.words.specs.declared.digits.Radix.{Radix}
use Rattle.words.specs.Run.{parsed}
use Rattle.arena.specs.Tree.{string as quoted}
use Rattle.tables.specs.Layout.{Lent, word, part, tables_of}
use Rattle.tables.specs.Sort.{Tables}
use Rattle.shapes.specs.Shows.{Standing}
use Rattle.values.specs.Value.{Value, v_bits, v_entity}
use Rattle.means.specs.Literal.{Lit, unsigned, numbered, word_lit}
use Rattle.forms.specs.declared.form.Form.{Form}
use Rattle.forms.specs.Form.{Says}

-- whatever stands around it
abbrev pub Alone : List ℕ → List ℕ → Value → Form → Type 0
Alone ts names v r = (T : Tables) (ms ws : List ℕ) (below i last : ℕ) → Says T ms ws ts names below i last v r

-- the number that the digits are, at a width
abbrev pub IndexedForm : List ℕ → ℕ → Form → Type 0
IndexedForm digits width r =
    (n : ℕ) → numbered (parsed Radix.Decimal (unsigned digits)) ≡ Ok n → (ts names : List ℕ) → Alone ts names (v_bits width (n % 2 ^ width)) r

-- an entity of a row, its text at a node
abbrev pub EntityForm : List ℕ → ℕ → ℕ → Form → Type 0
EntityForm ws row i r = (ts s : List ℕ) → Standing (quoted s) ws ts i → (names : List ℕ) → Alone ts names (v_entity row s) r

-- an enum member's row
abbrev pub MemberForm : List ℕ → List ℕ → ℕ → Form → Type 0
MemberForm members names row r = (ts : List ℕ) → Alone ts names (v_entity (word members row 2) (part names (word members row 3) (word members row 4))) r

-- a symbol
abbrev pub WordForm : List ℕ → List ℕ → List ℕ → Form → Type 0
WordForm members names name r =
    (l : Lent) → l.members ≡ members → l.names ≡ names → (k : Lit) → word_lit (tables_of l) name ≡ Ok k → (ts : List ℕ) → Alone ts names k.value r
