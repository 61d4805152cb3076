-- Document 01, "The model walk" and "The listing", in this order, and document 02, R-1: what each step of the call promises: the words that are
-- noted, the parts of the reply, the reply, the arena; and the zeros up to the need.
use Rattle.std.specs.Prelude.{◌≡◌, true, List, ◌++◌, ℕ, ◌*◌, ◌-◌, ◌≤◌, length, take, drop, replicate, Result}
use Rattle.lent.specs.Left.{Leaves}
use Rattle.arena.specs.Arena.{Arena}
use Rattle.arena.specs.Tree.{Tree, Trees, nodes_of, texts, most_nodes, most_text}
use Rattle.tables.specs.Check.{passes}
use Rattle.tables.specs.Layout.{Lent, tables_of}
use Rattle.tables.specs.Rules.{lawful}
use Rattle.shapes.specs.Shows.{StandingAll}
use Rattle.well_sorted.specs.Octets.{OctetsAll}
use Rattle.commands.specs.declared.form.Form.{Form}
use Rattle.model.specs.Model.{read_parts, read_reply}
use Rattle.model.specs.Listing.{listing, need}
use Rattle.walk.specs.Last.{slots, stride}
use Rattle.walk.specs.Placed.{Placed, its}
use Rattle.listing.specs.Grounds.{Known}
use Rattle.listing.specs.Entries.{OfBoth}
use Rattle.listing.specs.Lists.{fitted, left, Lists}
use Rattle.refusals.specs.declared.Refusal.{Refusal}

-- tables and parts that passed the checks of 25 and 27
pub record Sure (l : Lent) (us : Trees) : Type 0 where
  pub rules : lawful (tables_of l) ≡ true
  pub octets : OctetsAll us
  pub few : nodes_of us ≤ most_nodes
  pub short : length (texts us) ≤ most_text

-- zeros from a place up to another one
abbrev pub Zeroed : List ℕ → ℕ → ℕ → List ℕ → Type 0
Zeroed entry start end exit = start ≤ end → end ≤ length entry → exit ≡ take start entry ++ (replicate (end - start) 0 ++ drop end entry)

-- the definitions that are noted, the parts that stand from node 1 on, and the whole reply
abbrev pub FinishesOf : Lent → List ℕ → List ℕ → List ℕ → List ℕ → Result ℕ Refusal → List ℕ → Type 0
FinishesOf l ws ts last entry r exit =
    (ps : List Placed) → Known l ws ts last ps → Leaves (fitted (listing (tables_of l) (its ps)) (need (tables_of l) (its ps)) entry) r exit

abbrev pub Finishes : List ℕ → List ℕ → List ℕ → List ℕ → List ℕ → List ℕ → List ℕ → List ℕ → List ℕ → Result ℕ Refusal → List ℕ → Type 0
Finishes sorts variables functions members names ws ts last entry r exit = OfBoth (λ l. FinishesOf l ws ts last entry r exit) sorts variables functions members names

abbrev pub Parted : Form → Lent → List ℕ → List ℕ → ℕ → List ℕ → List ℕ → Result ℕ Refusal → List ℕ → Type 0
Parted form l ws ts many last entry r exit =
    (us : Trees) → StandingAll us ws ts 1 many → Sure l us → last ≡ replicate (slots * stride) 0 → Leaves (left (tables_of l) (read_parts (tables_of l) form us) entry) r exit

abbrev pub Replied : Form → Lent → List ℕ → List ℕ → List ℕ → List ℕ → Result ℕ Refusal → List ℕ → Type 0
Replied form l ws ts last entry r exit =
    (t : Tree) → passes l ≡ true → Arena ws ts t → last ≡ replicate (slots * stride) 0 → Leaves (left (tables_of l) (read_reply (tables_of l) form t) entry) r exit

abbrev pub Stored : Form → Lent → List ℕ → List ℕ → List ℕ → List ℕ → Result ℕ Refusal → List ℕ → Type 0
Stored form l ws ts last entry r exit = passes l ≡ true → last ≡ replicate (slots * stride) 0 → Lists form l ws ts entry r exit
