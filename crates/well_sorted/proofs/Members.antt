-- A member of lawful tables: its entity is there, and its text is short and of bytes.
-- Assumes nothing.
use Rattle.std.proofs.Common.{None, Option, Some}
use mathlib.Core.Path.{◌≡◌, refl, sym}
use mathlib.Core.Bool.{Bool, true, ◌&&◌, true≢false}
use mathlib.Core.List.{List}
use Prim.Native.Nat.{ℕ, ◌≤◌}
use lib.Dec.{leb}
use lib.ListN.{length}
use borrow.Author.Tests.{leb-true}
use Rattle.ground.specs.Lists.{at}
use Rattle.ground.proofs.Tests.{both_left, both_right}
use Rattle.utf8.specs.Octets.{utf8}
use Rattle.tables.specs.Sort.{Sort, bool, string, ext, bit_vec, option_of, set_of, entity_of, record_of, Member, Tables}
use Rattle.tables.specs.Rules.{name_limit, own_name, is_entity}
use Rattle.tables.proofs.Lawful.{Lawful, member_right_lem}

entity-here : (o : Option Sort) → is_entity o ≡ true → (name : List ℕ) × (o ≡ Some (entity_of name))
entity-here None e = absurd (true≢false (sym e))
entity-here (Some bool) e = absurd (true≢false (sym e))
entity-here (Some string) e = absurd (true≢false (sym e))
entity-here (Some (ext x)) e = absurd (true≢false (sym e))
entity-here (Some (bit_vec w)) e = absurd (true≢false (sym e))
entity-here (Some (option_of q)) e = absurd (true≢false (sym e))
entity-here (Some (set_of q)) e = absurd (true≢false (sym e))
entity-here (Some (entity_of name)) e = (name, refl)
entity-here (Some (record_of name fs)) e = absurd (true≢false (sym e))

pub record Kept (T : Tables) (m : Member) : Type 0 where
  pub name : List ℕ
  pub here : at T.sorts m.entity ≡ Some (entity_of name)
  pub short : length m.text ≤ name_limit
  pub has : utf8 m.text ≡ true

module _ (T : Tables) (m : Member) where
  abbrev named : Bool
  named = own_name m.name && is_entity (at T.sorts m.entity)

  abbrev limited : Bool
  limited = leb (length m.text) name_limit

  pub member-kept : Lawful T → (i : ℕ) → at T.members i ≡ Some m → Kept T m
  member-kept rules i e =
      let right = member_right_lem T rules i m e in
      let front = both_left (named && limited) (utf8 m.text) right in
      let entity = entity-here (at T.sorts m.entity) (both_right (own_name m.name) _ (both_left named limited front)) in
      record {
        name = entity.0;
        here = entity.1;
        short = leb-true _ _ (both_right named limited front);
        has = both_right (named && limited) (utf8 m.text) right;
      }
