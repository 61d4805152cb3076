-- A value of each form has its sort, so that the laws are of something.
-- Assumes nothing.
use mathlib.Core.Path.{refl}
use mathlib.Core.Bool.{true}
use mathlib.Core.List.{List, [], ◌∷◌}
use Prim.Native.Nat.{ℕ}
use native.Mathlib.Omega.{arith}
use lib.IntN.{negsuc}
use lib.Signed.{le_z_yes, lt_z_yes}
use Rattle.ground.specs.Bytes.{bytes}
use Rattle.ground.specs.Lists.{all, at}
use Rattle.order.specs.Order.{before}
use Rattle.decimals.specs.Decimal.{decimal, last_digits, digit_count_within}
use Rattle.tables.specs.Sort.{bool, string, ext, datetime, bit_vec, option_of, set_of, entity_of, record_of, Tables}
use Rattle.values.specs.Value.{Value, v_bool, v_string, v_ext, v_bits, v_none, v_some, v_set, v_entity, v_record, v_nil, v_cons}
use Rattle.values.specs.Text.{text, hex, hex_digit}
use Rattle.utf8.specs.Octets.{octets, utf8}
use Rattle.values.specs.HasSort.{HasSort, Ascending, Field}

abbrev sample : Tables
sample = record {
  sorts = bool ∷ string ∷ ext datetime ∷ bit_vec 8 ∷ option_of 0 ∷ set_of 3 ∷ entity_of (bytes "E") ∷ record_of (bytes "R") (0 ∷ 1 ∷ 2 ∷ 4 ∷ 4 ∷ 5 ∷ 6 ∷ []) ∷ [];
  variables = [];
  functions = [];
  members = [];
}

abbrev each : Value
each =
    v_record 7
    (v_cons (v_bool true)
    (v_cons (v_string (bytes "a"))
    (v_cons (v_ext datetime (negsuc 9223372036854775807))
    (v_cons v_none
    (v_cons (v_some (v_bool true))
    (v_cons (v_set (v_cons (v_bits 8 1) (v_cons (v_bits 8 2) v_nil)))
    (v_cons (v_entity 6 (bytes "z"))
    v_nil)))))))

field : {P : ℕ → Type 0} {Q : List ℕ → Type 0} {f : ℕ} {fs : List ℕ} → P f → Q fs → Field P Q (f ∷ fs)
field p q = record { first = _; rest = _; both = refl; head = p; tail = q }

has-sort : HasSort each Ascending sample 7
unfolding at all octets utf8 before text hex hex_digit decimal last_digits digit_count_within
has-sort = record {
  name = bytes "R";
  fields = 0 ∷ 1 ∷ 2 ∷ 4 ∷ 4 ∷ 5 ∷ 6 ∷ [];
  here = refl;
  same = refl;
  has =
      field refl
      (field (refl, refl)
      (field (refl, (le_z_yes tt, lt_z_yes tt))
      (field (record { inner = 0; here = refl; has = tt })
      (field (record { inner = 0; here = refl; has = refl })
      (field (record { inner = 3; here = refl; has = ((refl, omega arith), ((refl, omega arith), tt)) }, (refl, tt))
      (field (record { name = bytes "E"; here = refl; same = refl; has = refl })
      refl))))));
}
