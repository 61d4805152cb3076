-- What a row has inside, and what a set holds.
-- Assumes nothing.
use Rattle.std.proofs.Common.{None, Option, Some}
use mathlib.Core.Path.{◌≡◌, sym, ap, subst}
use Prim.Native.Nat.{ℕ}
use Rattle.ground.specs.Lists.{at}
use Rattle.tables.specs.Sort.{Sort, bool, string, ext, bit_vec, option_of, set_of, entity_of, record_of, Tables}
use Rattle.tables.proofs.Places.{none-some, some_one}
use Rattle.values.specs.Value.{Value, Values, v_set}
use Rattle.values.specs.HasSort.{HasSort, HaveSort}
use Rattle.values.proofs.Forms.{form}
use Rattle.values.specs.Holds.{held}
use Rattle.means.specs.Literal.{option_in, set_in}

pub option_inside : (o : Option Sort) (q : ℕ) → option_in o ≡ Some q → o ≡ Some (option_of q)
option_inside None q e = absurd (none-some e)
option_inside (Some bool) q e = absurd (none-some e)
option_inside (Some string) q e = absurd (none-some e)
option_inside (Some (ext x)) q e = absurd (none-some e)
option_inside (Some (bit_vec w)) q e = absurd (none-some e)
option_inside (Some (option_of p)) q e = cc
option_inside (Some (set_of p)) q e = absurd (none-some e)
option_inside (Some (entity_of name)) q e = absurd (none-some e)
option_inside (Some (record_of name fs)) q e = absurd (none-some e)

pub set-inside : (o : Option Sort) (q : ℕ) → set_in o ≡ Some q → o ≡ Some (set_of q)
set-inside None q e = absurd (none-some e)
set-inside (Some bool) q e = absurd (none-some e)
set-inside (Some string) q e = absurd (none-some e)
set-inside (Some (ext x)) q e = absurd (none-some e)
set-inside (Some (bit_vec w)) q e = absurd (none-some e)
set-inside (Some (option_of p)) q e = absurd (none-some e)
set-inside (Some (set_of p)) q e = cc
set-inside (Some (entity_of name)) q e = absurd (none-some e)
set-inside (Some (record_of name fs)) q e = absurd (none-some e)

-- a value that has a set's sort holds members, and these have the sort inside
module _ (A : Values → Type 0) (T : Tables) (row q : ℕ) (k : at T.sorts row ≡ Some (set_of q)) where
  pub set_holds : (v : Value) → HasSort v A T row → (vs : Values) × (held v ≡ Some vs) × HaveSort vs A T q
  set_holds v f = let g = form A T row v f (set_of q) k in (g.0, ap held g.2, g.1)

  pub members-fit : (vs : Values) → HasSort (v_set vs) A T row → HaveSort vs A T q
  members-fit vs f = let g = set_holds (v_set vs) f in subst (λ (us : Values). HaveSort us A T q) (sym (some_one g.1)) g.2
