-- Places kept as pairs of bytes: how many there are, one read, one written, and those that stay where the bytes at the front stay.
-- Assumes nothing.
use mathlib.Core.Path.{◌≡◌, refl, ap, sym, ◌∙◌}
use mathlib.Core.List.{List, [], ◌∷◌}
use Prim.Native.Nat.{ℕ, zero, suc, ◌+◌, ◌*◌, ◌/◌, ◌%◌, ◌<◌}
use native.Mathlib.Omega.{arith}
use lib.ListN.{length, get_or, take, set}
use lib.Seq.{get_or-take, take-take}
use Rattle.runs.specs.Pair.{pairs, Place}

pub pairs-long : (l : List ℕ) → length (pairs l) ≡ length l / 2
unfolding pairs
pairs-long [] = refl
pairs-long (a ∷ []) = refl
pairs-long (a ∷ b ∷ l) = let e = pairs-long l in omega arith

pub pairs-within : (l : List ℕ) (i : ℕ) → i < length (pairs l) → 2 * i + 1 < length l
pairs-within l i h = omega (arith, pairs-long l)

twice : (i : ℕ) → 2 * suc i ≡ suc (suc (2 * i))
twice i = omega arith

twice-more : (i : ℕ) → 2 * suc i + 1 ≡ suc (suc (2 * i + 1))
twice-more i = omega arith

-- a place is made of its two bytes
pairs-at : (l : List ℕ) (i : ℕ) → i < length (pairs l) → get_or (pairs l) i 0 ≡ get_or l (2 * i) 0 + get_or l (2 * i + 1) 0 * 256
unfolding pairs
pairs-at [] i h = absurd (omega arith)
pairs-at (a ∷ []) i h = absurd (omega arith)
pairs-at (a ∷ b ∷ l) zero h = refl
pairs-at (a ∷ b ∷ l) (suc i) h =
    pairs-at l i (omega arith)
    ∙ ap (λ (k : ℕ). get_or (a ∷ b ∷ l) k 0 + get_or l (2 * i + 1) 0 * 256) (sym (twice i))
    ∙ ap (λ (k : ℕ). get_or (a ∷ b ∷ l) (2 * suc i) 0 + get_or (a ∷ b ∷ l) k 0 * 256) (sym (twice-more i))

pub place_read : (l : List ℕ) (i : ℕ) → i < length (pairs l) → get_or l (2 * i) 0 < 256 → get_or l (2 * i + 1) 0 < 256 → Place l i (get_or l (2 * i) 0 + get_or l (2 * i + 1) 0 * 256)
place_read l i h low high = record { same = sym (pairs-at l i h); small = omega arith }

-- a place written as its two bytes
pub pairs_set : (l : List ℕ) (i p : ℕ) → i < length (pairs l) → pairs (set (set l (2 * i) (p % 256)) (2 * i + 1) (p / 256)) ≡ set (pairs l) i p
unfolding pairs
pairs_set [] i p h = absurd (omega arith)
pairs_set (a ∷ []) i p h = absurd (omega arith)
pairs_set (a ∷ b ∷ l) zero p h = let e : p % 256 + p / 256 * 256 ≡ p = omega arith in ap (λ (q : ℕ). q ∷ pairs l) e
pairs_set (a ∷ b ∷ l) (suc i) p h =
    ap (λ (k : ℕ). pairs (set (set (a ∷ b ∷ l) k (p % 256)) (2 * suc i + 1) (p / 256))) (twice i)
    ∙ ap (λ (k : ℕ). pairs (set (a ∷ b ∷ set l (2 * i) (p % 256)) k (p / 256))) (twice-more i)
    ∙ ap (λ (x : List ℕ). (a + b * 256) ∷ x) (pairs_set l i p (omega arith))

-- the first places are those of the first bytes
pairs-take : (n : ℕ) (l : List ℕ) → take n (pairs l) ≡ pairs (take (2 * n) l)
unfolding pairs
pairs-take zero l = refl
pairs-take (suc n) [] = ap (λ (k : ℕ). pairs (take k [])) (sym (twice n))
pairs-take (suc n) (a ∷ []) = ap (λ (k : ℕ). pairs (take k (a ∷ []))) (sym (twice n))
pairs-take (suc n) (a ∷ b ∷ l) = ap (λ (x : List ℕ). (a + b * 256) ∷ x) (pairs-take n l) ∙ ap (λ (k : ℕ). pairs (take k (a ∷ b ∷ l))) (sym (twice n))

front_at : (l : List ℕ) (k i : ℕ) → 2 * i + 1 < k → get_or (pairs l) i 0 ≡ get_or (pairs (take (2 * suc i) (take k l))) i 0
front_at l k i h = sym (get_or-take (suc i) (pairs l) i 0 (omega arith)) ∙ ap (λ (x : List ℕ). get_or x i 0) (pairs-take (suc i) l ∙ ap pairs (sym (take-take (2 * suc i) k l (omega arith))))

pub pairs-front : (l l' : List ℕ) (k i : ℕ) → 2 * i + 1 < k → take k l ≡ take k l' → get_or (pairs l) i 0 ≡ get_or (pairs l') i 0
pairs-front l l' k i h e = front_at l k i h ∙ ap (λ (x : List ℕ). get_or (pairs (take (2 * suc i) x)) i 0) e ∙ sym (front_at l' k i h)
