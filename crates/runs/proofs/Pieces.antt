-- The piece at the front of any bytes, and of a run; and the loops that look for a record's end and its beginning.
-- Assumes nothing.
use mathlib.Core.Path.{◌≡◌, refl, ap, sym, ◌∙◌, subst}
use mathlib.Core.Bool.{Bool, true, cond}
use mathlib.Core.List.{List, [], ◌∷◌, ◌++◌}
use Prim.Native.Nat.{ℕ, suc, ◌+◌, ◌-◌, ◌/◌, ◌≤◌, ◌<◌}
use native.Mathlib.Omega.{arith}
use lib.ListN.{length, get_or, drop, drop_of_length-le, length-drop, take}
use lib.Dec.{eqb}
use borrow.Author.Tests.{eq-eqb, ne_eqb, eqb-true, eqb-false}
use Rattle.ground.proofs.Tests.{by_test}
use Rattle.ground.proofs.Lists.{at_place}
use Rattle.runs.specs.Run.{plain}
use Rattle.runs.specs.Piece.{piece}
use Rattle.runs.specs.Place.{Ended, Begun, Halved}
use Rattle.runs.proofs.Words.{plain-head, plain-tail}

pub piece-nil : piece [] ≡ []
unfolding piece
piece-nil = refl

pub piece-end : (b : ℕ) (bs : List ℕ) → b ≡ 0 → piece (b ∷ bs) ≡ b ∷ []
unfolding piece
piece-end b bs e = ap (λ (t : Bool). b ∷ cond t [] (piece bs)) (eq-eqb b 0 e)

pub piece_byte : (b : ℕ) (bs : List ℕ) → (b ≡ 0 → ⊥) → piece (b ∷ bs) ≡ b ∷ piece bs
unfolding piece
piece_byte b bs e = ap (λ (t : Bool). b ∷ cond t [] (piece bs)) (ne_eqb b 0 e)

pub piece_le : (l : List ℕ) → length (piece l) ≤ length l
piece_le [] = omega (arith, ap length piece-nil)
piece_le (b ∷ bs) =
    by_test (eqb b 0)
    (λ e. omega (arith, ap length (piece-end b bs (eqb-true b 0 e))))
    (λ e. omega (arith, ap length (piece_byte b bs (eqb-false b 0 e)), piece_le bs))

pub piece-some : (l : List ℕ) → 0 < length l → 0 < length (piece l)
piece-some [] h = absurd (omega arith)
piece-some (b ∷ bs) h =
    by_test (eqb b 0)
    (λ e. omega (arith, ap length (piece-end b bs (eqb-true b 0 e))))
    (λ e. omega (arith, ap length (piece_byte b bs (eqb-false b 0 e))))

-- a piece that is not all has an end
pub piece-ended : (l : List ℕ) → length (piece l) < length l → get_or l (length (piece l) - 1) 0 ≡ 0
piece-ended [] h = absurd (omega arith)
piece-ended (b ∷ bs) h =
    by_test (eqb b 0)
    (λ e. let z = eqb-true b 0 e in ap (λ (x : List ℕ). get_or (b ∷ bs) (length x - 1) 0) (piece-end b bs z) ∙ z)
    (λ e. let z = eqb-false b 0 e in
    let p = piece_byte b bs z in
    let n : length (piece bs) < length bs = omega (arith, ap length p) in
    let k : length (piece (b ∷ bs)) - 1 ≡ suc (length (piece bs) - 1) = omega (arith, ap length p, piece-some bs (omega arith)) in
    ap (λ (x : ℕ). get_or (b ∷ bs) x 0) k ∙ piece-ended bs n)

-- the piece at a record is it and its end
pub piece_record : (r t : List ℕ) → plain r ≡ true → piece (r ++ (0 ∷ t)) ≡ r ++ (0 ∷ [])
piece_record [] t h = piece-end 0 t refl
piece_record (b ∷ r) t h = piece_byte b (r ++ (0 ∷ t)) (plain-head b r h) ∙ ap (λ (l : List ℕ). b ∷ l) (piece_record r t (plain-tail b r h))

pub piece-at-end : (s : List ℕ) (i : ℕ) → i < length s → get_or s i 0 ≡ 0 → piece (drop i s) ≡ get_or s i 0 ∷ []
piece-at-end s i h e = ap piece (at_place s i h) ∙ piece-end (get_or s i 0) (drop (i + 1) s) e

pub piece-at-byte : (s : List ℕ) (i : ℕ) → i < length s → (get_or s i 0 ≡ 0 → ⊥) → piece (drop i s) ≡ get_or s i 0 ∷ piece (drop (i + 1) s)
piece-at-byte s i h e = ap piece (at_place s i h) ∙ piece_byte (get_or s i 0) (drop (i + 1) s) e

pub piece-past : (s : List ℕ) (i : ℕ) → length s ≤ i → piece (drop i s) ≡ []
piece-past s i h = ap piece (drop_of_length-le s h) ∙ piece-nil

pub piece-within : (s : List ℕ) (i : ℕ) → length (piece (drop i s)) ≤ length s - i
piece-within s i = omega (arith, piece_le (drop i s), length-drop i s)

-- ---- the loop of after

pub record Sofar (s : List ℕ) (p i : ℕ) : Type 0 where
  pub within : i ≤ length s
  pub same : i + length (piece (drop i s)) ≡ p + length (piece (drop p s))

pub sofar-start : (s : List ℕ) (p : ℕ) → p ≤ length s → Sofar s p p
sofar-start s p h = record { within = h; same = refl }

pub sofar-next : (s : List ℕ) (p i : ℕ) → Sofar s p i → i < length s → (get_or s i 0 ≡ 0 → ⊥) → Sofar s p (i + 1)
sofar-next s p i h l e = record { within = omega arith; same = omega (arith, h.same, ap length (piece-at-byte s i l e)) }

pub sofar-last : (s : List ℕ) (p i : ℕ) → Sofar s p i → i < length s → get_or s i 0 ≡ 0 → Ended s p (i + 1)
sofar-last s p i h l e = record { same = omega (arith, h.same, ap length (piece-at-end s i l e)); within = omega arith }

pub sofar-end : (s : List ℕ) (p i : ℕ) → Sofar s p i → length s ≤ i → Ended s p (length s)
sofar-end s p i h l = let w = h.within in record { same = omega (arith, h.same, ap length (piece-past s i l)); within = omega arith }

-- the bytes up to the place after a record are its piece
pub piece_taken : (l : List ℕ) → take (length (piece l)) l ≡ piece l
unfolding piece
piece_taken [] = sym piece-nil
piece_taken (b ∷ bs) =
    by_test (eqb b 0)
    (λ e. let p = piece-end b bs (eqb-true b 0 e) in ap (λ (x : List ℕ). take (length x) (b ∷ bs)) p ∙ sym p)
    (λ e. let p = piece_byte b bs (eqb-false b 0 e) in ap (λ (x : List ℕ). take (length x) (b ∷ bs)) p ∙ ap (λ (x : List ℕ). b ∷ x) (piece_taken bs) ∙ sym p)

pub ended-taken : (s : List ℕ) (p r : ℕ) → Ended s p r → take (r - p) (drop p s) ≡ piece (drop p s)
ended-taken s p r h =
    let k : r - p ≡ length (piece (drop p s)) = omega (arith, h.same) in
    ap (λ (n : ℕ). take n (drop p s)) k ∙ piece_taken (drop p s)

pub ended-more : (s : List ℕ) (p r : ℕ) → Ended s p r → p < length s → p < r
ended-more s p r h l = omega (arith, h.same, piece-some (drop p s) (omega (arith, length-drop p s)))

-- ---- the loop of begin

pub record Seeking (s : List ℕ) (from at p : ℕ) : Type 0 where
  pub least : from ≤ p
  pub most : p ≤ at
  pub within : at ≤ length s
  pub reach : at < length s → at < p + length (piece (drop p s))

pub seeking_start : (s : List ℕ) (from at : ℕ) → (from ≤ at) × (at ≤ length s) → Seeking s from at at
seeking_start s from at h = record {
  least = h.0;
  most = omega arith;
  within = h.1;
  reach = λ l. let z = piece-some (drop at s) (omega (arith, length-drop at s)) in omega arith;
}

down : (p : ℕ) → 0 < p → p - 1 + 1 ≡ p
down p h = omega arith

pub seeking_next : (s : List ℕ) (from at p : ℕ) → Seeking s from at p → from < p → (get_or s (p - 1) 0 ≡ 0 → ⊥) → Seeking s from at (p - 1)
seeking_next s from at p h l e =
    let m = h.most in
    let w = h.within in
    let q : piece (drop (p - 1) s) ≡ get_or s (p - 1) 0 ∷ piece (drop (p - 1 + 1) s) = piece-at-byte s (p - 1) (omega arith) e in
    let r : piece (drop (p - 1 + 1) s) ≡ piece (drop p s) = ap (λ (k : ℕ). piece (drop k s)) (down p (omega arith)) in
    record {
      least = omega arith;
      most = omega arith;
      within = w;
      reach = λ k. let z = h.reach k in omega (arith, ap length q, ap length r);
    }

pub seeking_found : (s : List ℕ) (from at p : ℕ) → Seeking s from at p → from < p → get_or s (p - 1) 0 ≡ 0 → Begun s from at (p - 1 + 1)
seeking_found s from at p h l e =
    let b : Begun s from at p = record { least = h.least; most = h.most; edge = λ k. e; reach = h.reach } in
    subst (Begun s from at) (sym (down p (omega arith))) b

pub seeking_end : (s : List ℕ) (from at p : ℕ) → Seeking s from at p → p ≤ from → Begun s from at from
seeking_end s from at p h l =
    let m = h.least in
    let e : p ≡ from = omega arith in
    let b : Begun s from at p = record { least = m; most = h.most; edge = λ k. absurd (omega arith); reach = h.reach } in
    subst (Begun s from at) e b

-- ---- the parts of half

pub halved_middle : (s : List ℕ) (k p : ℕ) → 0 < k → Begun s 0 (k / 2) p → (p ≡ 0 → ⊥) → Halved s k p
halved_middle s k p h b n = record { less = omega (arith, b.most); edge = b.edge; one = λ z. absurd (n z) }

pub halved-first : (s : List ℕ) (k e : ℕ) → k ≤ length s → Ended s 0 e → e < k → Halved s k e
halved-first s k e h n l =
    let q : e ≡ length (piece s) = omega (arith, n.same) in
    record {
      less = l;
      edge = λ z. ap (λ (x : ℕ). get_or s (x - 1) 0) q ∙ piece-ended s (omega arith);
      one = λ z. absurd (omega (arith, piece-some s (omega arith)));
    }

pub halved_none : (s : List ℕ) (k e : ℕ) → 0 < k → Ended s 0 e → k ≤ e → Halved s k 0
halved_none s k e h n l = record { less = h; edge = λ z. absurd (omega arith); one = λ z. omega (arith, n.same) }
