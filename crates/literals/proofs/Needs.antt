-- How long texts are, as far as a word counts: sums, a set and the union of two.
-- Assumes nothing.
use mathlib.Core.Path.{◌≡◌}
use mathlib.Core.Bool.{true, false}
use Prim.Native.Nat.{ℕ, ◌+◌, ◌*◌, ◌-◌, ◌^◌, ◌≤◌, ◌<◌}
use native.Mathlib.Omega.{arith}
use lib.ListN.{length}
use Rattle.values.specs.Text.{text}
use Rattle.values.specs.Value.{Value, v_bool, v_string, v_ext, v_bits, v_none, v_some, v_set, v_entity, v_record, v_nil, v_cons, union}
use Rattle.values.proofs.Lengths.{size, size-union, length_true, length_false, length-string, length-ext, length-bits, length_none, length_some, length-set, length-entity, length_record}
use Rattle.literals.specs.Answer.{capped, need}
use Rattle.literals.specs.Parts.{UnionNeed}

-- no text is empty
text-some : (v : Value) → 0 < length (text v)
text-some (v_bool true) = omega (arith, length_true)
text-some (v_bool false) = omega (arith, length_false)
text-some (v_string s) = omega (arith, length-string s)
text-some (v_ext e z) = omega (arith, length-ext e z)
text-some (v_bits w n) = omega (arith, length-bits w n)
text-some v_none = omega (arith, length_none)
text-some (v_some v) = omega (arith, length_some v)
text-some (v_set vs) = omega (arith, length-set vs)
text-some (v_entity r s) = omega (arith, length-entity r s)
text-some (v_record r vs) = omega (arith, length_record r vs)

-- a length that a word holds, and one of which the parts are cut off
pub need-is : (v : Value) (n long : ℕ) → n < 2 ^ 64 → n ≡ long → length (text v) ≡ long → n ≡ need v
need-is v n long h e g = omega (arith, h, e, g)

pub need-more : (v w : Value) (n long more : ℕ) → n ≡ capped (long + more) → long ≡ need v → length (text w) ≡ length (text v) + more → n ≡ need w
need-more v w n long more e g h = omega (arith, e, g, h)

pub need-twice : (v : Value) (n twice size rest : ℕ) → twice ≡ capped (size + size) → n ≡ capped (twice + rest) → length (text v) ≡ 2 * size + rest → n ≡ need v
need-twice v n twice size rest e g h = omega (arith, e, g, h)

pub need-single : (v : Value) (n long : ℕ) → n ≡ capped (long + 2) → long ≡ need v → n ≡ need (v_set (v_cons v v_nil))
need-single v n long e g = need-more v (v_set (v_cons v v_nil)) n long 2 e g (omega (arith, length-set (v_cons v v_nil)))

-- the text of an empty set takes 2 bytes, and that of any other more
module _ (a b : ℕ) where
  pub union-first : a ≤ 2 → UnionNeed a b b
  union-first h v_nil ws p q = q
  union-first h (v_cons v vs) ws p q = absurd (omega (arith, h, p, length-set (v_cons v vs), text-some v))

  pub union-second : b ≤ 2 → UnionNeed a b a
  union-second h vs v_nil p q = omega (arith, p, length-set vs, length-set (union vs v_nil), size-union vs v_nil)
  union-second h vs (v_cons w ws) p q = absurd (omega (arith, h, q, length-set (v_cons w ws), text-some w))

  both-capped : (x y r : ℕ) → 2 < a → 2 < b → a ≡ capped x → b ≡ capped y → r ≡ capped (a + (b - 1)) → r ≡ capped (x + y - 1)
  both-capped x y r h k p q e = omega (arith, h, k, p, q, e)

  both_long : (x y z s t u : ℕ) → 2 < x → 2 < y → x ≡ s - 1 + 2 → y ≡ t - 1 + 2 → z ≡ u - 1 + 2 → u ≡ s + t → x + y - 1 ≡ z
  both_long x y z s t u h k p q r e = omega (arith, h, k, p, q, r, e)

  pub union-both : (r : ℕ) → 2 < a → 2 < b → r ≡ capped (a + (b - 1)) → UnionNeed a b r
  union-both r h k e vs ws p q =
      let x = length (text (v_set vs)) in
      let y = length (text (v_set ws)) in
      let m : 2 < x = omega (arith, h, p) in
      let n : 2 < y = omega (arith, k, q) in
      let z = both_long x y (length (text (v_set (union vs ws)))) (size vs) (size ws) (size (union vs ws)) m n (length-set vs) (length-set ws) (length-set (union vs ws)) (size-union vs ws) in
      rw z at (both-capped x y r h k p q e)
