-- How long the text of each value is. Members are counted each with the byte that follows it.
-- Assumes nothing.
use mathlib.Core.Path.{◌≡◌, refl, ap, ◌∙◌}
use mathlib.Core.Bool.{true, false}
use mathlib.Core.List.{List, [], ◌∷◌, ◌++◌}
use Prim.Native.Nat.{ℕ, zero, suc, ◌+◌, ◌-◌, ◌*◌, ◌/◌, ◌%◌, ◌≤◌}
use native.Mathlib.Omega.{arith}
use lib.IntN.{ℤ, pos, negsuc}
use lib.ListN.{length, length-append}
use Rattle.ground.specs.Bytes.{bytes}
use Rattle.ground.specs.Lists.{joined}
use Rattle.decimals.specs.Decimal.{decimal, digit_count, signed_decimal}
use Rattle.decimals.proofs.Counts.{count_most}
use Rattle.decimals.proofs.Texts.{length-decimal}
use Rattle.tables.specs.Sort.{Ext, decimal as is_decimal, datetime, duration}
use Rattle.values.specs.Value.{Value, Values, v_bool, v_string, v_ext, v_bits, v_none, v_some, v_set, v_entity, v_record, v_nil, v_cons, union}
use Rattle.values.specs.Text.{text, texts, hex, hex_text, hex_digit, hex_width}

-- a number and what follows it
length-led : (n : ℕ) (s : List ℕ) → length (decimal n ++ s) ≡ digit_count n + length s
length-led n s = length-append (decimal n) s ∙ ap (λ (k : ℕ). k + length s) (length-decimal n)

pub length-hex : (k n : ℕ) → length (hex k n) ≡ k
unfolding hex
length-hex zero n = refl
length-hex (suc k) n = let h = length-hex k (n / 16) in omega (arith, length-append (hex k (n / 16)) (hex_digit (n % 16) ∷ []))

pub length-hex_text : (s : List ℕ) → length (hex_text s) ≡ 2 * length s
unfolding hex_text
length-hex_text [] = refl
length-hex_text (b ∷ bs) = let h = length-hex_text bs in omega arith

pub length-natural : (n : ℕ) → length (signed_decimal (pos n)) ≡ digit_count n
unfolding signed_decimal
length-natural n = length-decimal n

pub length-negative : (n : ℕ) → length (signed_decimal (negsuc n)) ≡ digit_count (suc n) + 1
unfolding signed_decimal
length-negative n = let h = length-decimal (suc n) in omega arith

pub signed-most : (z : ℤ) → length (signed_decimal z) ≤ 41
signed-most (pos n) = omega (arith, length-natural n, count_most n)
signed-most (negsuc n) = omega (arith, length-negative n, count_most (suc n))

-- the members, each with what follows it
abbrev pub size : Values → ℕ
size v_nil = 0
size (v_cons v vs) = length (text v) + 1 + size vs

pub size-union : (vs ws : Values) → size (union vs ws) ≡ size vs + size ws
size-union v_nil ws = omega arith
size-union (v_cons v vs) ws = let h = size-union vs ws in omega arith

pub length-members : (vs : Values) → length (joined (bytes ",") (texts vs)) ≡ size vs - 1
unfolding text joined
length-members v_nil = refl
length-members (v_cons v v_nil) = omega arith
length-members (v_cons v (v_cons w vs)) =
    let h = length-members (v_cons w vs) in
    omega (arith, length-append (text v) (44 ∷ joined (bytes ",") (texts (v_cons w vs))))

pub length_true : length (text (v_bool true)) ≡ 4
unfolding text
length_true = refl

pub length_false : length (text (v_bool false)) ≡ 5
unfolding text
length_false = refl

pub length-string : (s : List ℕ) → length (text (v_string s)) ≡ 2 * length s + 2
unfolding text
length-string s = let h = length-hex_text s in omega arith

pub length-ext : (e : Ext) (z : ℤ) → length (text (v_ext e z)) ≡ length (signed_decimal z) + 2
unfolding text
length-ext is_decimal z = omega arith
length-ext datetime z = omega arith
length-ext duration z = omega arith

pub length-bits : (w n : ℕ) → length (text (v_bits w n)) ≡ digit_count w + hex_width w + 3
unfolding text
length-bits w n = omega (arith, length-led w (58 ∷ hex (hex_width w) n), length-hex (hex_width w) n)

pub length_none : length (text v_none) ≡ 4
unfolding text
length_none = refl

pub length_some : (v : Value) → length (text (v_some v)) ≡ length (text v) + 6
unfolding text
length_some v = omega (arith, length-append (text v) (bytes ")"))

-- an empty set takes 2, and another its size and 1
pub length-set : (vs : Values) → length (text (v_set vs)) ≡ size vs - 1 + 2
unfolding text
length-set vs = omega (arith, length-append (joined (bytes ",") (texts vs)) (bytes "}"), length-members vs)

pub length-entity : (r : ℕ) (s : List ℕ) → length (text (v_entity r s)) ≡ digit_count r + 2 * length s + 2
unfolding text
length-entity r s = omega (arith, length-led r (58 ∷ hex_text s), length-hex_text s)

pub length_record : (r : ℕ) (vs : Values) → length (text (v_record r vs)) ≡ digit_count r + (size vs - 1) + 3
unfolding text
length_record r vs =
    let line = joined (bytes ",") (texts vs) in
    omega (arith, length-led r (40 ∷ (line ++ bytes ")")), length-append line (bytes ")"), length-members vs)
