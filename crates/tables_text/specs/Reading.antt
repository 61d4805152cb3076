-- How the reader decides; law `reads_so` ties it to what document 01 asks of it, `Reads`.
use Rattle.std.specs.Prelude.{cond, List, ℕ, ◌≤◌, leb, length, None, Option, Some}
use Rattle.refusals.specs.declared.Refusal.TheVariants.{InputTooLong, BadTable}
use Rattle.tables.specs.Sort.{Tables}
use Rattle.tables.specs.Layout.{Lent}
use Rattle.tables.specs.Check.{passes}
use Rattle.tables_text.specs.Words.{laid}
use Rattle.tables_text.specs.Parse.{parse}
use Rattle.tables_text.specs.Read.{text_limit, Buffers, Left, refusing, fitted}

-- each buffer has room for its table
pub record Fits (l : Lent) (entry : Buffers) : Type 0 where
  pub sorts : length l.sorts ≤ length entry.sorts
  pub fields : length l.fields ≤ length entry.fields
  pub variables : length l.variables ≤ length entry.variables
  pub functions : length l.functions ≤ length entry.functions
  pub members : length l.members ≤ length entry.members

module _ (entry : Buffers) where
  -- rows that pass the check are stored
  unfoldable pub judged : Lent → Left
  judged l = cond (passes l) (fitted entry l) (refusing entry BadTable)

  abbrev pub of_parsed : List ℕ → Option Tables → Left
  of_parsed text None = refusing entry BadTable
  of_parsed text (Some t) = judged (laid t text)

  unfoldable pub of_text : List ℕ → Left
  of_text text = of_parsed text (parse text)

  unfoldable pub reading : List ℕ → Left
  reading text = cond (leb (length text) text_limit) (of_text text) (refusing entry InputTooLong)
