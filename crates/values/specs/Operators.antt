-- Document 02, R-2: `not`, `or` of two, `=`, `ite`, `bvnego`, `bvsaddo`, `bvsmulo` on values, as SMT-LIB 2.7's theories Core and FixedSizeBitVectors have them; nothing where the sorts do not fit.
use Rattle.std.specs.Prelude.{not, cond, ◌||◌, ℕ, eqb, leb, ℤ, neg_ℤ, ◌+ℤ◌, ◌*ℤ◌, None, Option, Some}
use Rattle.ground.specs.Options.{over}
use Rattle.overflow.specs.Overflow.{overflows}
use Rattle.words.specs.Extension.{signed}
use Rattle.values.specs.Equal.{decided, equal}
use Rattle.values.specs.Holds.{truth_of}
use Rattle.values.specs.Value.{Value, v_bool, v_string, v_ext, v_bits, v_none, v_some, v_set, v_entity, v_record}

-- (not v)
abbrev pub negated : Value → Option Value
negated v = over (truth_of v) (λ b. Some (v_bool (not b)))

-- (or v w)
abbrev pub either : Value → Value → Option Value
either v w = over (truth_of v) (λ b. over (truth_of w) (λ c. Some (v_bool (b || c))))

-- (= v w), of values whose sets are in order and without repeats, so that equal values are one
abbrev pub equals : Value → Value → Value
equals v w = v_bool (decided (equal v w))

-- (ite c v w)
abbrev pub chosen : Value → Value → Value → Option Value
chosen c v w = over (truth_of c) (λ b. Some (cond b v w))

-- of a bit vector, whose width is at most 128
abbrev pub on_bits : Value → (ℕ → ℕ → Option Value) → Option Value
on_bits (v_bool b) rule = None
on_bits (v_string s) rule = None
on_bits (v_ext e z) rule = None
on_bits (v_bits w n) rule = cond (leb w 128) (rule w n) None
on_bits v_none rule = None
on_bits (v_some v) rule = None
on_bits (v_set vs) rule = None
on_bits (v_entity row s) rule = None
on_bits (v_record row vs) rule = None

-- (bvnego v): the exact negation leaves the signed range of the width
abbrev pub bvnego : Value → Option Value
bvnego v = on_bits v (λ w n. Some (v_bool (overflows w (neg_ℤ (signed w n)))))

-- of two bit vectors of one width: the exact result leaves its signed range
abbrev pub leaving : (ℤ → ℤ → ℤ) → Value → Value → Option Value
leaving exact u v = on_bits u (λ w n. on_bits v (λ x m. cond (eqb w x) (Some (v_bool (overflows w (exact (signed w n) (signed w m))))) None))

-- (bvsaddo u v), (bvsmulo u v)
abbrev pub bvsaddo : Value → Value → Option Value
bvsaddo u v = leaving ◌+ℤ◌ u v

abbrev pub bvsmulo : Value → Value → Option Value
bvsmulo u v = leaving ◌*ℤ◌ u v
