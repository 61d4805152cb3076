-- Document 01, "The listing", `{a,b}` ascending by bytes without repeats: a literal as it was written, as the value that it is.
use Rattle.std.specs.Prelude.{true}
use Rattle.order.specs.Order.{arranged}
use Rattle.values.specs.Value.{Value, Values, v_bool, v_string, v_ext, v_bits, v_none, v_some, v_set, v_entity, v_record, v_nil, v_cons, listed, unlisted}
use Rattle.values.specs.Text.{text}

-- by their texts; which of two with one text stays does not show
unfoldable pub arranged_values : Values → Values
arranged_values vs = unlisted (arranged text true (listed vs))

-- from the inside
unfoldable mutual
  pub normal : Value → Value
  normal (v_bool b) = v_bool b
  normal (v_string s) = v_string s
  normal (v_ext e z) = v_ext e z
  normal (v_bits w n) = v_bits w n
  normal v_none = v_none
  normal (v_some v) = v_some (normal v)
  normal (v_set vs) = v_set (arranged_values (normals vs))
  normal (v_entity r s) = v_entity r s
  normal (v_record r vs) = v_record r (normals vs)

  pub normals : Values → Values
  normals v_nil = v_nil
  normals (v_cons v vs) = v_cons (normal v) (normals vs)
