-- Document 01, "The model walk", and document 02, R-1: the commands, or the pairs, in order: the first one that is refused ends the walk, and a later definition replaces an earlier one.
use Rattle.std.specs.Prelude.{◌≡◌, true, List, ℕ, ◌*◌, replicate, Err, Ok, Result, ⊤}
use Rattle.arena.specs.Tree.{Trees}
use Rattle.tables.specs.Layout.{Lent, tables_of}
use Rattle.tables.specs.Rules.{lawful}
use Rattle.shapes.specs.Shows.{StandingAll}
use Rattle.commands.specs.declared.form.Form.{Form}
use Rattle.walk.specs.Placed.{Placed, placed}
use Rattle.walk.specs.Last.{slots, stride, Kept}
use Rattle.refusals.specs.declared.Refusal.{Refusal}

abbrev pub WalkedAs : Lent → Result (List Placed) Refusal → List ℕ → Result ⊤ Refusal → Type 0
WalkedAs l (Ok ps) last r = (r ≡ (Ok tt)) × Kept l ps last
WalkedAs l (Err e) last r = r ≡ Err e

-- so many parts from a node on, where no word is noted yet and the tables passed the check of 25
abbrev pub Walks : Form → Lent → List ℕ → List ℕ → ℕ → ℕ → List ℕ → List ℕ → Result ⊤ Refusal → Type 0
Walks form l ws ts first many entry exit r =
    (us : Trees) → StandingAll us ws ts first many → lawful (tables_of l) ≡ true → entry ≡ replicate (slots * stride) 0 →
    WalkedAs l (placed (tables_of l) form first us) exit r
