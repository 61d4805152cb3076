-- Document 01, "Sorts and literals": what every value that is read is, whatever the tables: bits within their width, texts of bytes, numbers of 64 bits.
use Rattle.std.specs.Prelude.{◌≡◌, Bool, true, ℕ, ◌<◌, ◌^◌, ltb, ℤ, pos, neg_ℤ, ◌≤ℤ◌, ◌<ℤ◌}
use Rattle.ground.specs.Lists.{all}
use Rattle.values.specs.Value.{Value, Values, v_bool, v_string, v_ext, v_bits, v_none, v_some, v_set, v_entity, v_record, v_nil, v_cons}

abbrev pub is_byte : ℕ → Bool
is_byte b = ltb b 256

-- a number of 64 bits with a sign
abbrev pub InWord : ℤ → Type 0
InWord z = (neg_ℤ (pos (2 ^ 63)) ≤ℤ z) × (z <ℤ pos (2 ^ 63))

-- all the way down; widths and rows are words too
abbrev mutual
  pub PlainValue : Value → Type 0
  PlainValue (v_bool b) = Unit {0}
  PlainValue (v_string s) = all is_byte s ≡ true
  PlainValue (v_ext e z) = InWord z
  PlainValue (v_bits w n) = (w < 2 ^ 64) × (n < 2 ^ w)
  PlainValue v_none = Unit {0}
  PlainValue (v_some v) = PlainValue v
  PlainValue (v_set vs) = PlainValues vs
  PlainValue (v_entity r s) = (r < 2 ^ 64) × (all is_byte s ≡ true)
  PlainValue (v_record r vs) = (r < 2 ^ 64) × PlainValues vs

  pub PlainValues : Values → Type 0
  PlainValues v_nil = Unit {0}
  PlainValues (v_cons v vs) = PlainValue v × PlainValues vs
