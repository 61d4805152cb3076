-- Demand 3's premises: each is needed, as a body or a value shows where it fails, and all can be met at once.
-- Assumes nothing.
use Rattle.std.proofs.Common.{None, Option, Some, Err, Ok, Result}
use mathlib.Core.Path.{◌≡◌, refl, sym}
use mathlib.Core.Bool.{Bool, true, false, true≢false}
use mathlib.Core.List.{[], ◌∷◌}
use Prim.Native.Nat.{ℕ}
use Prim.Native.String.{String}
use native.Mathlib.Omega.{arith}
use Rattle.ground.specs.Bytes.{bytes}
use Rattle.ground.specs.Lists.{any, all, distinct, find, at}
use Rattle.utf8.specs.Octets.{octets, utf8}
use Rattle.lexicon.specs.Class.{class_of}
use Rattle.lexicon.specs.Span.{in_symbol}
use Rattle.lexicon.specs.Symbol.{one_symbol}
use Rattle.arena.specs.Text.{same_text}
use Rattle.arena.specs.Tree.{Tree, string as quoted}
use Rattle.order.specs.Order.{before, insert, arranged}
use Rattle.tables.specs.Kept.{kept, kept_words}
use Rattle.tables.specs.Find.{sort_row, named_sort, variable_row, function_row, member_row}
use Rattle.tables.specs.Rules.{sorts_right, lawful}
use Rattle.tables.specs.Sort.{bool, string, entity_of, Function, Tables}
use Rattle.shapes.specs.Shape.{shape}
use Rattle.shapes.specs.SortShape.{sort_shape}
use Rattle.sorts.specs.Result.{◌>>=◌, unless}
use Rattle.sorts.specs.Sort.{read_sort}
use Rattle.values.specs.Normal.{normal}
use Rattle.values.specs.Text.{text}
use Rattle.values.specs.Value.{Value, v_bool, v_string, v_entity}
use Rattle.means.specs.Literal.{read_with}
use Rattle.well_sorted.specs.Octets.{Octets}
use Rattle.commands.specs.Command.{command, chain, tests, key}
use Rattle.model.specs.Model.{arm_of, Table, table_of, is_variable, is_function, read_body, read_chain, read_tests, read_parts, read_reply, read_model}
use Rattle.model.specs.Listing.{settled_table}
use Rattle.demand.specs.Examples.{of, word}
use Rattle.values.specs.Equal.{equal}
use Rattle.demand.specs.Mention.{unbarred, mentions}
use Rattle.demand.specs.Meaning.{meaning_with, meaning}
use Rattle.demand.specs.Lookup.{first_of, lookup}
use Rattle.demand.specs.Premise.{apart, no_two}
use Rattle.demand.specs.Demand.{Sorted}
use Rattle.refusals.specs.declared.Refusal.{Refusal}

abbrev equals : Tree → Tree → Tree
equals a b = of (word "=" ∷ a ∷ b ∷ [])

abbrev ite : Tree → Tree → Tree → Tree
ite c a b = of (word "ite" ∷ c ∷ a ∷ b ∷ [])

-- bool and an entity of the name; v is a bool, and m a member of the row
abbrev tables : String → ℕ → Tables
tables entity row =
    record {
      sorts = bool ∷ entity_of (bytes entity) ∷ [];
      variables = record { name = bytes "v"; sort = 0 } ∷ [];
      functions = [];
      members = record { name = bytes "m"; entity = row; text = bytes "x" } ∷ [];
    }

-- what is seen of a body at a value: the premises that hold, what the table gives and what the body means
record Seen : Type 0 where
  tables_right : Bool
  name_apart : Bool
  keys_once : Bool
  given : Option Value
  meant : Option Value

abbrev gives : Result Table Refusal → Value → Option Value
gives (Ok t) v = Some (lookup (settled_table t) v)
gives (Err r) v = None

abbrev from : ℕ → ℕ → Function
from a r = record { name = bytes "f"; argument = a; result = r }

abbrev seen : Tables → String → Function → Tree → Value → Seen
seen T x f body v =
    record {
      tables_right = lawful T;
      name_apart = apart T (bytes x);
      keys_once = no_two T f (record { argument = bytes x; term = body });
      given = gives (read_body T (bytes x) f.argument f.result body) v;
      meant = meaning body T (bytes x) v (Some f.result);
    }

bodies :
    -- all premises: (ite (= a true) m (E "y")), f from bool to E
    seen (tables "E" 1) "a" (from 0 1) (ite (equals (word "a") (word "true")) (word "m") (of (word "E" ∷ quoted (bytes "y") ∷ []))) (v_bool true)
    -- two arms test true: the later replaces, the first decides
    ∷ seen (tables "E" 1) "a" (from 0 0) (ite (equals (word "a") (word "true")) (word "true") (ite (equals (word "a") (word "true")) (word "false") (word "true"))) (v_bool true)
    -- a list of tests may repeat a value
    ∷ seen (tables "E" 1) "a" (from 0 0) (of (word "or" ∷ equals (word "a") (word "true") ∷ equals (word "true") (word "a") ∷ [])) (v_bool true)
    -- the argument is named as a kept word: (or (= true true)) at false
    ∷ seen (tables "E" 1) "true" (from 0 0) (of (word "or" ∷ equals (word "true") (word "true") ∷ [])) (v_bool false)
    -- as a member, but for the bars: the body m is the argument, and document 01 reads the member
    ∷ seen (tables "E" 1) "|m|" (from 1 1) (word "m") (v_entity 1 (bytes "z"))
    -- as a sort row: (E "y") has no meaning
    ∷ seen (tables "E" 1) "E" (from 0 1) (of (word "E" ∷ quoted (bytes "y") ∷ [])) (v_bool true)
    -- an entity named `or`, which lawful tables have not: (or "y") has no meaning
    ∷ seen (tables "or" 1) "a" (from 0 1) (ite (equals (word "a") (word "true")) (word "m") (of (word "or" ∷ quoted (bytes "y") ∷ []))) (v_bool false)
    ∷ []
    ≡
    record { tables_right = true; name_apart = true; keys_once = true; given = Some (v_entity 1 (bytes "x")); meant = Some (v_entity 1 (bytes "x")) }
    ∷ record { tables_right = true; name_apart = true; keys_once = false; given = Some (v_bool false); meant = Some (v_bool true) }
    ∷ record { tables_right = true; name_apart = true; keys_once = true; given = Some (v_bool true); meant = Some (v_bool true) }
    ∷ record { tables_right = true; name_apart = false; keys_once = true; given = Some (v_bool false); meant = Some (v_bool true) }
    ∷ record { tables_right = true; name_apart = false; keys_once = true; given = Some (v_entity 1 (bytes "x")); meant = Some (v_entity 1 (bytes "z")) }
    ∷ record { tables_right = true; name_apart = false; keys_once = true; given = Some (v_entity 1 (bytes "y")); meant = None }
    ∷ record { tables_right = false; name_apart = true; keys_once = true; given = Some (v_entity 1 (bytes "y")); meant = None }
    ∷ []
unfolding lawful sorts_right all distinct any find at one_symbol in_symbol class_of utf8 octets kept kept_words same_text before insert arranged sort_row named_sort member_row shape sort_shape ◌>>=◌ unless read_sort normal text read_with chain tests key read_chain read_tests equal unbarred mentions meaning_with first_of apart no_two
bodies = refl

-- a model of one command, and what it defines
abbrev variable : String → Tree → Tree
variable sort value = of (of (word "define-fun" ∷ word "v" ∷ of [] ∷ word sort ∷ value ∷ []) ∷ [])

-- a member of a bool row, which lawful tables have not: a variable's value is not of its sort
member-read : (lawful (tables "E" 0) ≡ false) × (read_model (tables "E" 0) (variable "Bool" (word "m")) ≡ Ok (is_variable 0 (v_entity 0 (bytes "x")) ∷ []))
unfolding lawful sorts_right all distinct any one_symbol in_symbol class_of utf8 octets kept kept_words find at same_text sort_row member_row variable_row shape sort_shape ◌>>=◌ unless read_sort read_with command read_parts read_reply
member-read = (refl, refl)

member_unsorted : Sorted (tables "E" 0) 0 (v_entity 0 (bytes "x")) → ⊥
unfolding at
member_unsorted h = let e = h.here in let z : ◌≡◌ {A = ℕ} 0 1 = cc in absurd (omega arith)

-- a string that is not UTF-8, which no arena holds
abbrev strings : Tables
strings = record { sorts = string ∷ []; variables = record { name = bytes "v"; sort = 0 } ∷ []; functions = []; members = [] }

string-read : (lawful strings ≡ true) × (read_model strings (variable "String" (quoted (0xFF ∷ []))) ≡ Ok (is_variable 0 (v_string (0xFF ∷ [])) ∷ []))
unfolding lawful sorts_right all distinct any one_symbol in_symbol class_of utf8 octets kept kept_words find at same_text sort_row variable_row shape sort_shape ◌>>=◌ unless read_sort read_with command read_parts read_reply
string-read = (refl, refl)

string_unsorted : Sorted strings 0 (v_string (0xFF ∷ [])) → ⊥
unfolding octets utf8
string_unsorted h = true≢false (sym h.1)

-- tables, a model, its reading and the premises on its one body, all at once
abbrev complete : Tables
complete =
    record {
      sorts = bool ∷ entity_of (bytes "E") ∷ [];
      variables = [];
      functions = from 0 1 ∷ [];
      members = record { name = bytes "m"; entity = 1; text = bytes "x" } ∷ [];
    }

abbrev body : Tree
body = ite (equals (word "a") (word "true")) (word "m") (of (word "E" ∷ quoted (bytes "y") ∷ []))

abbrev model : Tree
model = of (of (word "define-fun" ∷ word "f" ∷ of (of (word "a" ∷ word "Bool" ∷ []) ∷ []) ∷ word "E" ∷ body ∷ []) ∷ [])

met : (lawful complete ≡ true) × (apart complete (bytes "a") ≡ true) × (no_two complete (from 0 1) (record { argument = bytes "a"; term = body }) ≡ true)
    × (read_model complete model ≡ Ok (is_function 0 (table_of (arm_of (v_bool true) (v_entity 1 (bytes "x")) ∷ []) (v_entity 1 (bytes "y"))) ∷ []))
unfolding lawful sorts_right all distinct any find at one_symbol in_symbol class_of utf8 octets kept kept_words same_text sort_row named_sort function_row member_row shape sort_shape ◌>>=◌ unless read_sort normal read_with command chain tests key read_chain read_parts read_reply equal unbarred apart no_two
met = (refl, refl, refl, refl)

met-octets : Octets model
unfolding octets utf8
met-octets = ((tt, (tt, (((tt, (tt, tt)), tt), (tt, ((tt, ((tt, (tt, (tt, tt))), (tt, ((tt, (refl, tt)), tt)))), tt))))), tt)
