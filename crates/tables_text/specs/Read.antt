-- Document 01, "The listing" and "Numbers given back": what reading a tables' text answers, and what it leaves in all that was
-- lent: 9 over 65,536 bytes; 25 for a text that is no lawful tables' form; then 26 with the need of the first short buffer, in
-- the order sorts, fields, variables, functions, members, in words.
use Rattle.std.specs.Prelude.{◌≡◌, true, cond, List, ℕ, ◌≤◌, ◌<◌, leb, length, Err, Ok, Result}
use Rattle.refusals.specs.declared.Refusal.{Refusal}
use Rattle.refusals.specs.declared.Refusal.TheVariants.{InputTooLong, BadTable, OutRoom}
use Rattle.lent.specs.Left.{onto}
use Rattle.tables.specs.Sort.{Tables}
use Rattle.tables.specs.Layout.{Lent}
use Rattle.tables.specs.Rules.{lawful}
use Rattle.tables_text.specs.Line.{written, writable}
use Rattle.tables_text.specs.Words.{laid}
use Rattle.tables_text.specs.declared.parse.Counts.{Counts}

abbrev pub text_limit : ℕ
text_limit = 65536

-- the text is the text form of these tables, and they break no rule
pub record Spells (text : List ℕ) (t : Tables) : Type 0 where
  pub same : text ≡ written t
  pub writable : writable t ≡ true
  pub lawful : lawful t ≡ true

-- what the five buffers hold
pub record Buffers : Type 0 where
  pub sorts : List ℕ
  pub fields : List ℕ
  pub variables : List ℕ
  pub functions : List ℕ
  pub members : List ℕ

pub record Left : Type 0 where
  pub answer : Result Counts Refusal
  pub holds : Buffers

module _ (entry : Buffers) where
  abbrev pub refusing : Refusal → Left
  refusing why = record { answer = Err why; holds = entry }

  -- the first buffer that is short
  abbrev pub fitting : List ℕ → List ℕ → Left → Left
  fitting words buffer rest = cond (leb (length words) (length buffer)) rest (refusing (OutRoom (length words)))

  -- each table at the front of its buffer; the answer tells how many words each has
  abbrev pub stored : Lent → Left
  stored l = record {
    answer = (Ok (record { sorts = length l.sorts; fields = length l.fields; variables = length l.variables; functions = length l.functions; members = length l.members }));
    holds = record {
      sorts = onto l.sorts entry.sorts;
      fields = onto l.fields entry.fields;
      variables = onto l.variables entry.variables;
      functions = onto l.functions entry.functions;
      members = onto l.members entry.members;
    };
  }

  unfoldable pub fitted : Lent → Left
  fitted l =
      fitting l.sorts entry.sorts
      (fitting l.fields entry.fields
      (fitting l.variables entry.variables
      (fitting l.functions entry.functions
      (fitting l.members entry.members
      (stored l)))))

pub record Leaves (left : Left) (r : Result Counts Refusal) (exit : Buffers) : Type 0 where
  pub answers : r ≡ left.answer
  pub holds : exit ≡ left.holds

-- what a call may answer and leave
pub record Reads (text : List ℕ) (entry : Buffers) (r : Result Counts Refusal) (exit : Buffers) : Type 0 where
  pub long : text_limit < length text → Leaves (refusing entry InputTooLong) r exit
  pub spelled : length text ≤ text_limit → (t : Tables) → Spells text t → Leaves (fitted entry (laid t text)) r exit
  pub other : length text ≤ text_limit → ((t : Tables) → Spells text t → ⊥) → Leaves (refusing entry BadTable) r exit
