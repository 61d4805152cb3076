-- Pieces written one after the other are one piece.
-- Assumes nothing.
use mathlib.Core.Path.{◌≡◌, refl, ap, ◌∙◌, subst}
use mathlib.Core.List.{List, [], ◌∷◌, ◌++◌}
use Prim.Native.Nat.{ℕ, suc, ◌+◌, ◌-◌, ◌≤◌, ◌<◌}
use native.Mathlib.Nat.{add-zero, zero-add}
use native.Mathlib.Omega.{arith}
use lib.ListN.{length, take, drop, set, length-append}
use lib.Seq.{sets, sets-eq}
use borrow.Rule.Slice.PartMut.{put_mid}
use Rattle.lent.specs.Left.{onto}
use Rattle.lent.specs.Put.{Fronts, Offers}
use Rattle.lent.proofs.Pieces.{piece-long}
use Rattle.lent.proofs.Copies.{tail-front}

sets-append : (xs ys d : List ℕ) (at : ℕ) → sets (sets d at xs) (at + length xs) ys ≡ sets d at (xs ++ ys)
sets-append [] ys d at = ap (λ (k : ℕ). sets d k ys) (add-zero at)
sets-append (x ∷ xs) ys d at =
    let e : at + suc (length xs) ≡ suc at + length xs = omega arith in
    ap (λ (k : ℕ). sets (sets (set d at x) (suc at) xs) k ys) e ∙ sets-append xs ys (set d at x) (suc at)

-- what is written in two pieces is written in one
pub offers_then : {a b c x y : List ℕ} {at mid next : ℕ} → Offers a b at x mid → Offers b c mid y next → Offers a c at (x ++ y) next
offers_then {a} {b} {c} {x} {y} {at} {mid} {next} f g h =
    let l : length (x ++ y) ≡ length x + length y = length-append x y in
    let p = f (omega arith) in
    let k : length b ≡ length a = piece-long p in
    let m : mid ≡ at + length x = p.after in
    let q = g (omega arith) in
    let n : next ≡ mid + length y = q.after in
    record {
      after = omega arith;
      holds = q.holds ∙ ap (λ (d : List ℕ). sets d mid y) p.holds ∙ ap (λ (i : ℕ). sets (sets a at x) i y) m ∙ sets-append x y a at;
    }

-- nothing is a piece
pub offers_none : (a : List ℕ) (at : ℕ) → Offers a a at [] at
offers_none a at h = record { after = omega arith; holds = refl }

-- a call that offers a text offers one that is equal
pub offers_as : {a b x y : List ℕ} {at next : ℕ} → x ≡ y → Offers a b at x next → Offers a b at y next
offers_as {a} {b} {x} {y} {at} {next} e f = subst (λ (l : List ℕ). Offers a b at l next) e f

-- a whole text from the front on
pub offers_front : {a b x : List ℕ} {next : ℕ} → Offers a b 0 x next → length x ≤ length a → Fronts x a b next
unfolding onto
offers_front {a} {b} {x} {next} f h =
    let p = f (omega arith) in
    record {
      long = omega (arith, p.after);
      holds = p.holds ∙ sets-eq x a 0 (omega arith) ∙ ap (λ (k : ℕ). x ++ drop k a) (zero-add (length x));
    }

-- where there is no room nothing is owed
pub offers_past : (a x : List ℕ) (at next : ℕ) → length a < at + length x → Offers a a at x next
offers_past a x at next h k = absurd (omega arith)

-- by way of the tail from the place on
pub offers_tail : (d x part : List ℕ) (at count : ℕ) → Fronts x (take (length d - at) (drop at d)) part count → Offers d (put_mid at (length d - at) d part) at x (at + count)
offers_tail d x part at count f h = record { after = ap (λ (k : ℕ). at + k) f.long; holds = tail-front x d part at h f.holds }

-- what is still to be written, once it is, makes the whole: what a loop over pieces keeps
abbrev pub Onwards : List ℕ → ℕ → List ℕ → List ℕ → ℕ → List ℕ → Type 0
Onwards entry at whole d to rest = (e : List ℕ) (n : ℕ) → Offers d e to rest n → Offers entry e at whole n

pub onwards-start : (d whole : List ℕ) (at : ℕ) → Onwards d at whole d at whole
onwards-start d whole at e n h = h

pub onwards-step : (entry whole : List ℕ) (at : ℕ) (d d' piece rest : List ℕ) (to to' : ℕ) → Onwards entry at whole d to (piece ++ rest) → Offers d d' to piece to' → Onwards entry at whole d' to' rest
onwards-step entry whole at d d' piece rest to to' so p e n h = so e n (offers_then p h)

pub onwards-end : (entry whole : List ℕ) (at : ℕ) (d : List ℕ) (to : ℕ) → Onwards entry at whole d to [] → Offers entry d at whole to
onwards-end entry whole at d to so = so d to (offers_none d to)
