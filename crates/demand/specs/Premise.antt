-- Demand 3's premises on a body: its argument's name, compared without bars, and its keys.
use Rattle.std.specs.Prelude.{Bool, true, false, not, ◌&&◌, List, ℕ, None, Option, Some, Err, Ok, Result}
use Rattle.ground.specs.Lists.{any, distinct}
use Rattle.arena.specs.Tree.{Trees}
use Rattle.tables.specs.Kept.{kept_words}
use Rattle.tables.specs.Sort.{Sort, bool, string, ext, bit_vec, option_of, set_of, entity_of, record_of, Function, Tables}
use Rattle.values.specs.Normal.{normal}
use Rattle.commands.specs.Command.{tests}
use Rattle.model.specs.Model.{Arm, Table, read_body}
use Rattle.values.specs.Equal.{decided, equal}
use Rattle.demand.specs.Mention.{same_name}
use Rattle.demand.specs.Last.{Body}
use Rattle.refusals.specs.declared.Refusal.{Refusal}

-- the name is the row's, if it has one
abbrev pub names_sort : List ℕ → Sort → Bool
names_sort x bool = false
names_sort x string = false
names_sort x (ext e) = false
names_sort x (bit_vec w) = false
names_sort x (option_of q) = false
names_sort x (set_of q) = false
names_sort x (entity_of name) = same_name name x
names_sort x (record_of name fs) = same_name name x

-- the argument's name is no kept word, no sort row's and no enum member's
unfoldable pub apart : Tables → List ℕ → Bool
apart T x = not (any (λ w. same_name w x) kept_words) && not (any (names_sort x) T.sorts) && not (any (λ m. same_name m.name x) T.members)

-- two arms test one value
abbrev pub same_key : Arm → Arm → Bool
same_key a b = decided (equal (normal a.«when») (normal b.«when»))

abbrev pub keys_apart : Option Trees → Result Table Refusal → Bool
keys_apart (Some us) m = true
keys_apart None (Ok t) = distinct same_key t.arms
keys_apart None (Err r) = true

-- no two arms of an ite body test equal values, the keys being those that document 01 reads; a list of tests may repeat them
unfoldable pub no_two : Tables → Function → Body → Bool
no_two T f b = keys_apart (tests b.term) (read_body T b.argument f.argument f.result b.term)
