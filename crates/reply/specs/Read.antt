-- Document 01, "The listing", program `modellist`, and document 02, R-1, `valuelist`: a reply over tables that stand in their words.
use Rattle.std.specs.Prelude.{◌≡◌, true, List, ℕ, ◌≤◌, length, Result}
use Rattle.commands.specs.declared.form.Form.{Form}
use Rattle.tables.specs.Check.{passes}
use Rattle.tables.specs.Layout.{Lent, tables_of}
use Rattle.reply.specs.Reply.{byte_limit, Rooms, read_in, rooms_of, Walks}
use Rattle.refusals.specs.declared.Refusal.{Refusal}

pub record ReadsOn (form : Form) (l : Lent) (reply : List ℕ) (rooms : Rooms) (entry : List ℕ) (r : Result ℕ Refusal) (after : Rooms) (exit : List ℕ) : Type 0 where
  pub walks : passes l ≡ true → length reply ≤ byte_limit → Walks form (tables_of l) rooms reply entry r exit
  pub leaves : after ≡ rooms_of (read_in rooms reply)
