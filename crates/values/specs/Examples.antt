-- Document 01, "The listing": a text of each form.
use Rattle.std.specs.Prelude.{◌≡◌, refl, true, List, [], ◌∷◌, ℕ, ◌-◌, ◌^◌, pos, negsuc}
use Rattle.ground.specs.Bytes.{bytes}
use Rattle.ground.specs.Lists.{joined}
use Rattle.order.specs.Order.{before, insert, arranged}
use Rattle.decimals.specs.Decimal.{decimal, last_digits, digit_count_within, signed_decimal}
use Rattle.tables.specs.Sort.{decimal as is_decimal, datetime, duration}
use Rattle.values.specs.Value.{v_bool, v_string, v_ext, v_bits, v_none, v_some, v_set, v_entity, v_record, v_nil, v_cons}
use Rattle.values.specs.Text.{text, hex, hex_text, hex_digit}
use Rattle.values.specs.Normal.{normal, arranged_values}

abbrev values : List (List ℕ)
values =
    text (v_bool true)
    ∷ text (v_bits 8 255)
    ∷ text (v_bits 127 1)
    ∷ text (v_bits 127 (2 ^ 127 - 1))
    ∷ text (v_string (0x61 ∷ 0xC3 ∷ []))
    ∷ text (v_entity 3 (0x7A ∷ []))
    ∷ text (v_record 4 (v_cons v_none (v_cons (v_some (v_bool true)) v_nil)))
    ∷ text (v_record 0 v_nil)
    ∷ text (v_ext is_decimal (negsuc 9223372036854775807))
    ∷ text (v_ext datetime (pos 10))
    ∷ text (v_ext duration (pos 0))
    ∷ text (normal (v_set (v_cons (v_bits 4 2) (v_cons (v_bits 4 1) (v_cons (v_bits 4 2) v_nil)))))
    ∷ text (normal (v_set v_nil))
    ∷ []

each : values ≡
    bytes "true"
    ∷ bytes "bv8:ff"
    ∷ bytes "bv127:00000000000000000000000000000001"
    ∷ bytes "bv127:7fffffffffffffffffffffffffffffff"
    ∷ bytes "s:61c3"
    ∷ bytes "e3:7a"
    ∷ bytes "r4(none,some(true))"
    ∷ bytes "r0()"
    ∷ bytes "d:-9223372036854775808"
    ∷ bytes "t:10"
    ∷ bytes "u:0"
    ∷ bytes "{bv4:1,bv4:2}"
    ∷ bytes "{}"
    ∷ []
unfolding text hex hex_text hex_digit decimal last_digits digit_count_within signed_decimal normal arranged_values arranged insert before joined
each = refl
