-- Document 01, "The listing", program `modellist`, and document 02, R-1, `valuelist`: what a tables' text and a reply come to, in the rooms that
-- are lent for the tree and the listing: 9 first, then 25, the reader's, the walk's.
use Rattle.std.specs.Prelude.{◌≡◌, Bool, true, false, ◌&&◌, List, ℕ, leb, length, replicate, Err, Result}
use Rattle.refusals.specs.declared.Refusal.{Refusal}
use Rattle.refusals.specs.declared.Refusal.TheVariants.{InputTooLong, BadTable}
use Rattle.lent.specs.Left.{refusing, Leaves}
use Rattle.reader.specs.Program.{program_words}
use Rattle.arena.specs.Tree.{Tree}
use Rattle.brackets.specs.Walk.{tree}
use Rattle.reader.specs.Read.{Left, parse, reading, written}
use Rattle.tables.specs.Sort.{Tables}
use Rattle.tables_text.specs.Read.{Spells}
use Rattle.commands.specs.declared.form.Form.{Form}
use Rattle.model.specs.Model.{read_reply}
use Rattle.listing.specs.Lists.{left}

-- of each of the two inputs
abbrev pub byte_limit : ℕ
byte_limit = 65536

abbrev pub within : List ℕ → List ℕ → Bool
within tables reply = leb (length tables) byte_limit && leb (length reply) byte_limit

-- what is lent for the tree: nodes, text, bracket stack
pub record Rooms : Type 0 where
  pub nodes : List ℕ
  pub text : List ℕ
  pub stack : List ℕ

-- what reading the reply there leaves
abbrev pub read_in : Rooms → List ℕ → Left
read_in rooms reply = reading rooms.nodes rooms.text rooms.stack reply

abbrev pub rooms_of : Left → Rooms
rooms_of l = record { nodes = l.nodes; text = l.text; stack = l.stack }

-- a reply that the reader refuses, or a tree that is walked
pub data Walks (form : Form) (T : Tables) (rooms : Rooms) (reply entry : List ℕ) (r : Result ℕ Refusal) (exit : List ℕ) : Type 0 where
  unread : (why : Refusal) → (read_in rooms reply).answer ≡ Err why → Leaves (refusing why entry) r exit → Walks form T rooms reply entry r exit
  walked : (t : Tree) → parse reply ≡ tree t → (read_in rooms reply).answer ≡ (written rooms.nodes rooms.text rooms.stack t).answer →
      Leaves (left T (read_reply T form t) entry) r exit → Walks form T rooms reply entry r exit

pub data Replies (form : Form) (tables reply : List ℕ) (rooms : Rooms) (entry : List ℕ) (r : Result ℕ Refusal) (after : Rooms) (exit : List ℕ) : Type 0 where
  too_long : within tables reply ≡ false → Leaves (refusing InputTooLong entry) r exit → after ≡ rooms → Replies form tables reply rooms entry r after exit
  bad-table : within tables reply ≡ true → ((T : Tables) → Spells tables T → ⊥) → Leaves (refusing BadTable entry) r exit → after ≡ rooms → Replies form tables reply rooms entry r after exit
  spelled : within tables reply ≡ true → (T : Tables) → Spells tables T → Walks form T rooms reply entry r exit → after ≡ rooms_of (read_in rooms reply) → Replies form tables reply rooms entry r after exit

-- the program's rooms: its nodes, 65,536 text bytes, depth 4,096
abbrev pub program_rooms : Rooms
program_rooms = record { nodes = replicate program_words 0; text = replicate 65536 0; stack = replicate 4096 0 }
