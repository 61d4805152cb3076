-- Tables that pass the check, and whose members' texts hold no line feed, have a text that reads back to the same tables.
-- Assumes nothing.
use Rattle.std.proofs.Common.{Result}
use mathlib.Core.Path.{◌≡◌, refl, ◌∙◌}
use mathlib.Core.Bool.{true}
use Prim.Native.Nat.{◌≤◌}
use lib.ListN.{length}
use Rattle.ground.proofs.Tests.{both_right}
use Rattle.tables.specs.Layout.{Lent, tables_of, formed}
use Rattle.tables.specs.Rules.{lawful}
use Rattle.tables.specs.Check.{passes}
use Rattle.tables_text.specs.Line.{written, writable}
use Rattle.tables_text.specs.Words.{laid}
use Rattle.tables_text.specs.Read.{text_limit, Buffers, fitted, Leaves, Reads}
use Rattle.tables_text.proofs.Meanings.{laid-means}
use Rattle.tables_text.proofs.Readings.{passes-lawful, reads-back}
use Rattle.refusals.specs.declared.Refusal.{Refusal}
use Rattle.tables_text.specs.declared.parse.Counts.{Counts}

-- what is read back: the rows over the text, which mean the same tables and pass the check again
pub record ReadsBack (l : Lent) (entry : Buffers) (r : Result Counts Refusal) (exit : Buffers) : Type 0 where
  pub left : Leaves (fitted entry (laid (tables_of l) (written (tables_of l)))) r exit
  pub means : tables_of (laid (tables_of l) (written (tables_of l))) ≡ tables_of l
  pub again : passes (laid (tables_of l) (written (tables_of l))) ≡ true

pub checked-reads-back : (l : Lent) (entry : Buffers) {r : Result Counts Refusal} {exit : Buffers} → passes l ≡ true → writable (tables_of l) ≡ true → length (written (tables_of l)) ≤ text_limit
    → Reads (written (tables_of l)) entry r exit → ReadsBack l entry r exit
unfolding passes
checked-reads-back l entry p w k d =
    let h : lawful (tables_of l) ≡ true = both_right (formed l) (lawful (tables_of l)) p in
    record {
      left = reads-back (tables_of l) entry h w k d;
      means = laid-means (tables_of l);
      again = passes-lawful (tables_of l) (written (tables_of l)) refl ∙ h;
    }
