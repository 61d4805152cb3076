-- Lists read from a place on, and written there.
-- Assumes nothing.
use mathlib.Core.Path.{◌≡◌, refl, sym, ap, ◌∙◌}
use mathlib.Core.List.{List, [], ◌∷◌, ◌++◌}
use Prim.Native.Nat.{ℕ, suc, ◌+◌, ◌≤◌, ◌<◌}
use native.Mathlib.Nat.{zero-add, suc-add}
use native.Mathlib.Numerals.{add-one}
use native.Mathlib.Omega.{arith}
use lib.ListN.{length, get_or, take, drop, set, length-append}
use lib.Seq.{drop-cons, sets, sets-eq, take_at, drop-set-lt, length-take-le}

-- what is left at a place is the byte there and what is left after it
pub at_place : (s : List ℕ) (i : ℕ) → i < length s → drop i s ≡ get_or s i 0 ∷ drop (i + 1) s
at_place s i h = rw (add-one, drop-cons s i 0)

-- what several stores leave before their end, and behind it
pub drop-sets : (vs l : List ℕ) (i m : ℕ) → i + length vs ≤ m → drop m (sets l i vs) ≡ drop m l
drop-sets [] l i m h = refl
drop-sets (v ∷ vs) l i m h = drop-sets vs (set l i v) (suc i) m (omega arith) ∙ drop-set-lt m l i v (omega arith)

pub take-sets : (vs l : List ℕ) (i m : ℕ) → m ≡ i + length vs → m ≤ length l → take m (sets l i vs) ≡ take i l ++ vs
take-sets vs l i m e h =
    rw (sets-eq vs l i (omega arith))
    (take_at (take i l ++ vs) (drop (i + length vs) l) m
    (length-append (take i l) vs ∙ (rw (length-take-le i l (omega arith)) (sym e))))

-- a store behind the front of two lists
pub set-append-add : (xs ys : List ℕ) (i a : ℕ) → set (xs ++ ys) (length xs + i) a ≡ xs ++ set ys i a
set-append-add [] ys i a = ap (λ (k : ℕ). set ys k a) (zero-add i)
set-append-add (x ∷ xs) ys i a = rw (suc-add (length xs) i) (ap (λ (l : List ℕ). x ∷ l) (set-append-add xs ys i a))
