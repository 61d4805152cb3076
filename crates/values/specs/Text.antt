-- Document 01, "The listing": the text of a value, its members in the order in which it holds them.
use Rattle.std.specs.Prelude.{Bool, true, false, cond, List, [], ◌∷◌, ◌++◌, ℕ, zero, suc, ◌+◌, ◌/◌, ◌%◌, ltb}
use Rattle.ground.specs.Bytes.{bytes}
use Rattle.ground.specs.Lists.{joined}
use Rattle.decimals.specs.Decimal.{decimal, signed_decimal}
use Rattle.tables.specs.Sort.{Ext, decimal as is_decimal, datetime, duration}
use Rattle.values.specs.Value.{Value, Values, v_bool, v_string, v_ext, v_bits, v_none, v_some, v_set, v_entity, v_record, v_nil, v_cons}

-- `0` to `9` and `a` to `f`
unfoldable pub hex_digit : ℕ → ℕ
hex_digit d = cond (ltb d 10) (48 + d) (87 + d)

-- the last k hex digits of a number
unfoldable pub hex : ℕ → ℕ → List ℕ
hex zero n = []
hex (suc k) n = hex k (n / 16) ++ (hex_digit (n % 16) ∷ [])

-- two digits a byte
unfoldable pub hex_text : List ℕ → List ℕ
hex_text [] = []
hex_text (b ∷ bs) = hex_digit (b / 16) ∷ hex_digit (b % 16) ∷ hex_text bs

-- as many digits as the width takes
abbrev pub hex_width : ℕ → ℕ
hex_width width = (width + 3) / 4

abbrev pub mark : Ext → List ℕ
mark is_decimal = bytes "d:"
mark datetime = bytes "t:"
mark duration = bytes "u:"

abbrev pub truth : Bool → List ℕ
truth true = bytes "true"
truth false = bytes "false"

unfoldable mutual
  pub text : Value → List ℕ
  text (v_bool b) = truth b
  text (v_string s) = bytes "s:" ++ hex_text s
  text (v_ext e z) = mark e ++ signed_decimal z
  text (v_bits w n) = bytes "bv" ++ (decimal w ++ (bytes ":" ++ hex (hex_width w) n))
  text v_none = bytes "none"
  text (v_some v) = bytes "some(" ++ (text v ++ bytes ")")
  text (v_set vs) = bytes "{" ++ (joined (bytes ",") (texts vs) ++ bytes "}")
  text (v_entity r s) = bytes "e" ++ (decimal r ++ (bytes ":" ++ hex_text s))
  text (v_record r vs) = bytes "r" ++ (decimal r ++ (bytes "(" ++ (joined (bytes ",") (texts vs) ++ bytes ")")))

  pub texts : Values → List (List ℕ)
  texts v_nil = []
  texts (v_cons v vs) = text v ∷ texts vs
