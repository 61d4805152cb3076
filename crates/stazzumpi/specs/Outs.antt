-- Document 01, "Numbers given back": each kind of call, exported.
use Rattle.std.specs.Prelude.{List, [], ◌∷◌, ℕ, Option}
use Rattle.lent.specs.Left as lent
use Rattle.reader.specs.Read as reader
use Rattle.arena_check.specs.Checks.{Checks}
use Rattle.tables.specs.Layout.{Lent}
use Rattle.tables_text.specs.Read.{Buffers, Reads}
use Rattle.commands.specs.declared.form.Form.{Form}
use Rattle.listing.specs.Lists.{Lists}
use Rattle.told.specs.Yields.{written, read, checked, tables_read, found_row}
use Rattle.stazzumpi.specs.Exports.{Left, exported, Exports, Promises}

abbrev pub writes : lent.Left → Left
writes left = record { yield = written left.answer; lent = left.holds ∷ [] }

-- a call that writes a text into one buffer, exported: at entry the slice for numbers and the buffer, at exit the word and these two
abbrev pub WritesOut : lent.Left → List ℕ → List ℕ → ℕ → List ℕ → List ℕ → Type 0
WritesOut left told out r told_after out_after = Exports told (exported 1 told (out ∷ []) (writes left)) r told_after (out_after ∷ [])

abbrev pub reads : reader.Left → Left
reads left = record { yield = read left.answer; lent = left.nodes ∷ left.text ∷ left.stack ∷ [] }

-- the check of 27, exported; of what is lent to it only the slice for numbers may be written
abbrev pub ChecksOut : List ℕ → List ℕ → List ℕ → ℕ → List ℕ → Type 0
ChecksOut ws ts told r exit = Promises {B = Unit {0}} 2 checked (λ answer _. Checks ws ts answer) told tt r exit tt

-- the reading of the tables' text, exported
abbrev pub ReadsOut : List ℕ → Buffers → List ℕ → ℕ → List ℕ → Buffers → Type 0
ReadsOut text entry told r told_after exit = Promises 5 tables_read (Reads text entry) told entry r told_after exit

-- a lookup, exported, by what the call that it exports finds
abbrev pub LooksUp : ((Option ℕ) → Type 0) → List ℕ → ℕ → List ℕ → Type 0
LooksUp finds told r exit = Promises {B = Unit {0}} 2 found_row (λ answer _. finds answer) told tt r exit tt

-- the listing, exported: at entry the buffer and the slice for numbers, at exit the word, the slice and the buffer
abbrev pub ListsOut : Form → Lent → List ℕ → List ℕ → List ℕ → List ℕ → ℕ → List ℕ → List ℕ → Type 0
ListsOut form l ws ts out told r told_after out_after = Promises 1 written (λ answer exit. Lists form l ws ts out answer exit) told out r told_after out_after
