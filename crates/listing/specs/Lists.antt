-- Document 01, "The model walk" and "The listing", and document 02, R-1: what the call answers and what it leaves in the lent buffer: 25, then
-- 27, then the commands, or the pairs, in order, then 26; from the listing's end to the need bytes are zero, later ones unchanged.
use Rattle.std.specs.Prelude.{◌≡◌, true, false, cond, List, ◌++◌, ℕ, ◌-◌, leb, length, drop, replicate, Ok, Result, Err}
use Rattle.refusals.specs.declared.Refusal.TheVariants.{OutRoom, BadTable, BadArena}
use Rattle.lent.specs.Left.{Left, refusing, Leaves}
use Rattle.arena.specs.Arena.{Arena}
use Rattle.arena.specs.Tree.{Tree}
use Rattle.tables.specs.Check.{passes}
use Rattle.tables.specs.Layout.{Lent, tables_of}
use Rattle.tables.specs.Sort.{Tables}
use Rattle.commands.specs.declared.form.Form.{Form}
use Rattle.model.specs.Model.{Definition, read_reply}
use Rattle.model.specs.Listing.{listing, need}
use Rattle.refusals.specs.declared.Refusal.{Refusal}

-- the listing, zeros up to the need, and what was there
abbrev pub listed : List ℕ → ℕ → List ℕ → List ℕ
listed lines room out = lines ++ (replicate (room - length lines) 0 ++ drop room out)

abbrev pub fitted : List ℕ → ℕ → List ℕ → Left
fitted lines room out =
    cond (leb room (length out))
    (record { answer = Ok (length lines); holds = listed lines room out })
    (refusing (OutRoom room) out)

abbrev pub left : Tables → Result (List Definition) Refusal → List ℕ → Left
left T (Ok ds) out = fitted (listing T ds) (need T ds) out
left T (Err r) out = refusing r out

-- tables that break a rule, no tree's arena, or a tree that is walked
pub data Lists (form : Form) (l : Lent) (ws ts entry : List ℕ) (r : Result ℕ Refusal) (exit : List ℕ) : Type 0 where
  bad-table : passes l ≡ false → Leaves (refusing BadTable entry) r exit → Lists form l ws ts entry r exit
  bad-arena : passes l ≡ true → ((t : Tree) → Arena ws ts t → ⊥) → Leaves (refusing BadArena entry) r exit → Lists form l ws ts entry r exit
  walked : passes l ≡ true → (t : Tree) → Arena ws ts t → Leaves (left (tables_of l) (read_reply (tables_of l) form t) entry) r exit → Lists form l ws ts entry r exit
