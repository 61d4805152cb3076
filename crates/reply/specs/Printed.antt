-- Document 01, "The listing", program `modellist`, and document 02, R-1, `valuelist`: a refusal prints `refused=N`, `detail=D`, a line each.
use Rattle.std.specs.Prelude.{◌≡◌, cond, List, ◌++◌, ℕ, leb, length, Err, Ok, Result}
use Rattle.refusals.specs.declared.Refusal.{Refusal}
use Rattle.refusals.specs.Number.{number_of, detail_of}
use Rattle.lent.specs.Left.{onto}
use Rattle.decimals.specs.Decimal.{decimal}
use Rattle.commands.specs.declared.form.Form.{Form}
use Rattle.model.specs.Listing.{line}
use Rattle.reply.specs.Reply.{Rooms, Replies, program_rooms}

abbrev pub refusal_lines : Refusal → List ℕ
refusal_lines why = line "refused" (decimal (number_of why)) ++ line "detail" (decimal (detail_of why))

-- how many bytes are to be printed, and the buffer that begins with them
pub record Shown : Type 0 where
  pub count : ℕ
  pub holds : List ℕ

-- the listing that is there already, or the refusal's lines where they fit
abbrev pub shown : Result ℕ Refusal → List ℕ → Shown
shown (Ok n) out = record { count = n; holds = out }
shown (Err why) out =
    cond (leb (length (refusal_lines why)) (length out))
    (record { count = length (refusal_lines why); holds = onto (refusal_lines why) out })
    (record { count = 0; holds = out })

-- a count and a buffer at exit are those that are shown
pub record Shows (what : Shown) (r : ℕ) (exit : List ℕ) : Type 0 where
  pub counts : r ≡ what.count
  pub holds : exit ≡ what.holds

-- what a tables' text and a reply come to in the program's rooms
pub record Lists (form : Form) (tables reply entry : List ℕ) (r : Result ℕ Refusal) (exit : List ℕ) : Type 0 where
  pub after : Rooms
  pub replies : Replies form tables reply program_rooms entry r after exit

-- what they print
pub record Prints (form : Form) (tables reply entry : List ℕ) (r : ℕ) (exit : List ℕ) : Type 0 where
  pub answer : Result ℕ Refusal
  pub left : List ℕ
  pub lists : Lists form tables reply entry answer left
  pub shows : Shows (shown answer left) r exit
