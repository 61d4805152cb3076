-- How long parts and pairs are when they are joined: what the table of ends tells of it.
-- Assumes nothing.
use mathlib.Core.Path.{◌≡◌, refl, sym, ap, ◌∙◌}
use mathlib.Core.Bool.{true}
use mathlib.Core.List.{List, [], ◌∷◌, ◌++◌}
use Prim.Native.Nat.{ℕ, zero, suc, ◌+◌, ◌-◌, ◌*◌, ◌/◌, ◌%◌, ◌≤◌}
use native.Mathlib.Nat.{zero-mul, suc-mul, mul-zero, mul-suc}
use native.Mathlib.Omega.{arith}
use lib.ListN.{length, take, drop, length-append, length-drop}
use lib.Seq.{length-take-le}
use Rattle.refusals.specs.Limit.{input_limit}
use Rattle.ground.specs.Bytes.{bytes}
use Rattle.ground.specs.Lists.{joined}
use Rattle.parts.specs.Parts.{parts, parts_from, paired, trailed, rise, last_from, ends_right}
use Rattle.parts.specs.Texts.{pair}
use Rattle.parts.proofs.Rises.{rises}
use Rattle.parts.proofs.Trails.{joined-trailed, pair-pieces}

-- a part, and what comes behind it
pub long-then : (a b : List ℕ) (n : ℕ) → length b ≡ n → length (a ++ b) ≡ length a + n
long-then a b n h = length-append a b ∙ ap (λ (k : ℕ). length a + k) h

part-long : (start end : ℕ) (string : List ℕ) → start ≤ end → end ≤ length string → length (take (end - start) (drop start string)) ≡ end - start
part-long start end string up within = length-take-le (end - start) (drop start string) (rw (length-drop start string) (omega arith))

-- every part and the separator before it
trailed-long : (separator string : List ℕ) (start : ℕ) (ends : List ℕ) → rise start (length string) ends ≡ true
    → length (trailed separator (parts_from start string ends)) + start ≡ last_from start ends + length ends * length separator
unfolding trailed parts_from
trailed-long separator string start [] h = omega arith
trailed-long separator string start (end ∷ ends) h =
    let r = rises start (length string) end ends h in
    let one = take (end - start) (drop start string) in
    let rest = trailed separator (parts_from end string ends) in
    let l = part-long start end string r.up r.within in
    let m = long-then separator (one ++ rest) (end - start + length rest) (long-then one rest (length rest) refl ∙ ap (λ (k : ℕ). k + length rest) l) in
    let ih = trailed-long separator string end ends r.rest in
    omega (arith, m, ih, suc-mul (length ends) (length separator), r.up)

pub joined-long : (separator string ends : List ℕ) → ends_right string ends ≡ true → length (joined separator (parts string ends)) ≡ last_from 0 ends + (length ends - 1) * length separator
unfolding joined parts_from
joined-long separator string [] h = omega (arith, zero-mul (length separator))
joined-long separator string (end ∷ ends) h =
    let r = rises 0 (length string) end ends h in
    let one = take (end - 0) (drop 0 string) in
    let rest = trailed separator (parts_from end string ends) in
    let l = part-long 0 end string r.up r.within in
    let ih = trailed-long separator string end ends r.rest in
    let m = ap length (joined-trailed separator one (parts_from end string ends)) ∙ long-then one rest (length rest) refl in
    let c : suc (length ends) - 1 ≡ length ends = omega arith in
    rw c (omega (arith, m, l, ih))

-- a pair has its two parts, two brackets and a space
pair-long : (name sort : List ℕ) → length (pair name sort) ≡ length name + length sort + 3
pair-long name sort =
    sym (ap length (pair-pieces name sort))
    ∙ omega (arith, long-then name (bytes " " ++ (sort ++ bytes ")")) (1 + (length sort + 1)) (long-then (bytes " ") (sort ++ bytes ")") (length sort + 1) (long-then sort (bytes ")") 1 refl)))

trailed-pairs-long : (string : List ℕ) (start : ℕ) (ends : List ℕ) → rise start (length string) ends ≡ true → length ends % 2 ≡ 0
    → length (trailed (bytes " ") (paired pair (parts_from start string ends))) + start ≡ last_from start ends + length ends / 2 * 4
unfolding trailed parts_from paired
trailed-pairs-long string start [] h even = omega arith
trailed-pairs-long string start (end ∷ []) h even = absurd (omega (arith, even))
trailed-pairs-long string start (middle ∷ end ∷ ends) h even =
    let r = rises start (length string) middle (end ∷ ends) h in
    let q = rises middle (length string) end ends r.rest in
    let name = take (middle - start) (drop start string) in
    let sort = take (end - middle) (drop middle string) in
    let rest = trailed (bytes " ") (paired pair (parts_from end string ends)) in
    let l = part-long start middle string r.up r.within in
    let k = part-long middle end string q.up q.within in
    let p = pair-long name sort in
    let m = long-then (pair name sort) rest (length rest) refl in
    let ih = trailed-pairs-long string end ends q.rest (omega (arith, even)) in
    omega (arith, m, l, k, p, ih, r.up, q.up)

pub pairs-long : (string ends : List ℕ) → ends_right string ends ≡ true → length ends % 2 ≡ 0 → length (joined (bytes " ") (paired pair (parts string ends))) ≡ last_from 0 ends + length ends / 2 * 4 - 1
unfolding joined parts_from paired
pairs-long string [] h even = refl
pairs-long string (end ∷ []) h even = absurd (omega (arith, even))
pairs-long string (middle ∷ end ∷ ends) h even =
    let r = rises 0 (length string) middle (end ∷ ends) h in
    let q = rises middle (length string) end ends r.rest in
    let name = take (middle - 0) (drop 0 string) in
    let sort = take (end - middle) (drop middle string) in
    let rest = trailed (bytes " ") (paired pair (parts_from end string ends)) in
    let l = part-long 0 middle string r.up r.within in
    let k = part-long middle end string q.up q.within in
    let p = pair-long name sort in
    let m = ap length (joined-trailed (bytes " ") (pair name sort) (paired pair (parts_from end string ends))) ∙ long-then (pair name sort) rest (length rest) refl in
    let ih = trailed-pairs-long string end ends q.rest (omega (arith, even)) in
    omega (arith, m, l, k, p, ih, r.up, q.up)

-- the last end is within the string
pub last_within : (size start : ℕ) (ends : List ℕ) → start ≤ size → rise start size ends ≡ true → last_from start ends ≤ size
last_within size start [] s h = s
last_within size start (end ∷ ends) s h = let r = rises start size end ends h in last_within size end ends r.within r.rest

-- at most three bytes between two of at most so many parts
pub gap_small : (count gap : ℕ) → count ≤ input_limit → gap ≤ 3 → (count - 1) * gap ≤ 50331648
gap_small count gap h g =
    at_most (count - 1) gap (omega arith) g
  where
    at_most : (n gap : ℕ) → n ≤ input_limit → gap ≤ 3 → n * gap ≤ 50331648
    at_most n zero h g = omega (arith, mul-zero n)
    at_most n (suc zero) h g = omega (arith, mul-suc n 0, mul-zero n)
    at_most n (suc (suc zero)) h g = omega (arith, mul-suc n 1, mul-suc n 0, mul-zero n)
    at_most n (suc (suc (suc zero))) h g = omega (arith, mul-suc n 2, mul-suc n 1, mul-suc n 0, mul-zero n)
    at_most n (suc (suc (suc (suc k)))) h g = absurd (omega arith)
