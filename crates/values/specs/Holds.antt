-- Document 01, "Sorts and literals", and document 02, R-2: what a value holds, if it is a bool or a set.
use Rattle.std.specs.Prelude.{Bool, None, Option, Some}
use Rattle.values.specs.Value.{Value, Values, v_bool, v_string, v_ext, v_bits, v_none, v_some, v_set, v_entity, v_record}

abbrev pub truth_of : Value → Option Bool
truth_of (v_bool b) = Some b
truth_of (v_string s) = None
truth_of (v_ext e z) = None
truth_of (v_bits w n) = None
truth_of v_none = None
truth_of (v_some v) = None
truth_of (v_set vs) = None
truth_of (v_entity row s) = None
truth_of (v_record row vs) = None

-- what a set holds
abbrev pub held : Value → Option Values
held (v_bool b) = None
held (v_string s) = None
held (v_ext e z) = None
held (v_bits w n) = None
held v_none = None
held (v_some v) = None
held (v_set vs) = Some vs
held (v_entity row s) = None
held (v_record row vs) = None
