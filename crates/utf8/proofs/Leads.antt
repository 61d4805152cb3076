-- The leads of the rows lie apart, so the lead octet tells the one row that a sequence can have.
-- Assumes nothing.
use mathlib.Core.Path.{◌≡◌, refl, ◌∙◌}
use mathlib.Core.Bool.{Bool, true, false, cond, ◌&&◌, ◌||◌, false≢true, and-false, or_comm}
use mathlib.Core.List.{List, [], ◌∷◌}
use Prim.Native.Nat.{ℕ, zero, suc, ◌≤◌}
use native.Mathlib.Omega.{arith}
use lib.Dec.{leb, ltb}
use lib.ListN.{length, get_or}
use borrow.Author.Tests.{ltb-true, le-leb, lt-leb}
use Rattle.ground.proofs.Tests.{both_left, both_right}
use Rattle.utf8.specs.Rows.{Span, ◌to◌, rows}
use Rattle.utf8.specs.Octets.{within, starts_with, width}

-- no row's lead meets the octets from a to z
abbrev pub apart : ℕ → ℕ → List (List Span) → Bool
apart a z [] = true
apart a z ([] ∷ rs) = false
apart a z ((first to last ∷ ps) ∷ rs) = (ltb last a || ltb z first) && apart a z rs

abbrev pub disjoint : List (List Span) → Bool
disjoint [] = true
disjoint ([] ∷ rs) = false
disjoint ((first to last ∷ ps) ∷ rs) = apart first last rs && disjoint rs

outside : (first last a z b : ℕ) → (ltb last a || ltb z first) ≡ true → a ≤ b → b ≤ z → within (first to last) b ≡ false
outside first last a z b h l u = go (ltb last a) refl h
  where
    go : (t : Bool) → ltb last a ≡ t → (t || ltb z first) ≡ true → within (first to last) b ≡ false
    go true e g = rw (lt-leb b last (omega (arith, ltb-true last a e))) (and-false (leb first b))
    go false e g = rw (lt-leb first b (omega (arith, ltb-true z first g)))

-- an octet that no lead meets starts no sequence
pub no_lead : (rs : List (List Span)) (a z b : ℕ) (bs : List ℕ) → apart a z rs ≡ true → a ≤ b → b ≤ z → width rs (b ∷ bs) ≡ 0
no_lead [] a z b bs h l u = refl
no_lead ([] ∷ rs) a z b bs h l u = absurd (false≢true h)
no_lead ((first to last ∷ ps) ∷ rs) a z b bs h l u =
    rw (outside first last a z b (both_left (ltb last a || ltb z first) (apart a z rs) h) l u)
    (no_lead rs a z b bs (both_right (ltb last a || ltb z first) (apart a z rs) h) l u)

apart-at : (rs : List (List Span)) (k a z first last : ℕ) (ps : List Span) → apart a z rs ≡ true → get_or rs k [] ≡ first to last ∷ ps
    → (ltb last a || ltb z first) ≡ true
apart-at [] k a z first last ps h e = absurd (let w : ◌≡◌ {A = ℕ} 0 1 = cc in omega arith)
apart-at ([] ∷ rs) k a z first last ps h e = absurd (false≢true h)
apart-at ((f to l ∷ qs) ∷ rs) zero a z first last ps h e =
    let p : f ≡ first = cc in
    let q : l ≡ last = cc in
    rw (← p, ← q) (both_left (ltb l a || ltb z f) (apart a z rs) h)
apart-at ((f to l ∷ qs) ∷ rs) (suc k) a z first last ps h e =
    apart-at rs k a z first last ps (both_right (ltb l a || ltb z f) (apart a z rs) h) e

this_row : (t : Bool) (n w : ℕ) → w ≡ 0 → cond t n w ≡ cond t n 0
this_row true n w e = refl
this_row false n w e = e

-- a sequence whose lead is in the k-th row's is one of that row, or none
pub lead-tells : (rs : List (List Span)) (k first last b : ℕ) (ps : List Span) (bs : List ℕ) → disjoint rs ≡ true → get_or rs k [] ≡ first to last ∷ ps
    → first ≤ b → b ≤ last → width rs (b ∷ bs) ≡ cond (starts_with ps bs) (suc (length ps)) 0
lead-tells [] k first last b ps bs d e l u = absurd (let w : ◌≡◌ {A = ℕ} 0 1 = cc in omega arith)
lead-tells ([] ∷ rs) k first last b ps bs d e l u = absurd (false≢true d)
lead-tells ((f to g ∷ qs) ∷ rs) zero first last b ps bs d e l u =
    let p : f ≡ first = cc in
    let q : g ≡ last = cc in
    let r : qs ≡ ps = cc in
    rw (le-leb f b (omega arith)) (rw (le-leb b g (omega arith)) (rw (← r)
    (this_row (starts_with qs bs) (suc (length qs)) (width rs (b ∷ bs))
    (no_lead rs f g b bs (both_left (apart f g rs) (disjoint rs) d) (omega arith) (omega arith)))))
lead-tells ((f to g ∷ qs) ∷ rs) (suc k) first last b ps bs d e l u =
    let h : (ltb last f || ltb g first) ≡ true = apart-at rs k f g first last ps (both_left (apart f g rs) (disjoint rs) d) e in
    rw (outside f g first last b (or_comm (ltb g first) (ltb last f) ∙ h) l u)
    (lead-tells rs k first last b ps bs (both_right (apart f g rs) (disjoint rs) d) e l u)

rows-disjoint : disjoint rows ≡ true
rows-disjoint = refl

pub row-tells : (k first last b : ℕ) (ps : List Span) (bs : List ℕ) → get_or rows k [] ≡ first to last ∷ ps
    → first ≤ b → b ≤ last → width rows (b ∷ bs) ≡ cond (starts_with ps bs) (suc (length ps)) 0
row-tells k first last b ps bs e l u = lead-tells rows k first last b ps bs rows-disjoint e l u
