-- A merge in two parts, and a sort of two parts: what the parts are, and what is made of what they leave.
-- Assumes nothing.
use mathlib.Core.Path.{◌≡◌, refl, ap, sym, ◌∙◌, subst}
use mathlib.Core.Logic.{◌⊎◌, inl, inr, ⊎_elim}
use mathlib.Core.Bool.{Bool, true, false}
use mathlib.Core.List.{List, [], ◌∷◌, ◌++◌, append_assoc, append-nil}
use Prim.Native.Nat.{ℕ, ◌+◌, ◌-◌, ◌≤◌, ◌<◌}
use native.Mathlib.Omega.{arith}
use lib.ListN.{length, take, drop, length-append, length-drop}
use lib.Seq.{take_all, take_at, drop_at, length-take-le, take-append-le}
use borrow.Rule.Slice.PartMut.{put_mid}
use Rattle.lent.specs.Put.{Puts}
use Rattle.lent.proofs.Pieces.{piece-long, piece-front}
use Rattle.order.specs.Order.{before}
use Rattle.order.specs.Merge.{inserts}
use Rattle.order.specs.Every.{Every, also, Ascends}
use Rattle.order.proofs.Befores.{before_transitive, before-most}
use Rattle.order.proofs.Everies.{every_map, every-left, every-right, every-head, ascends_left, ascends_right, ascends_head, ascends_across}
use Rattle.order.proofs.Merges.{inserts-parts}
use Rattle.runs.specs.Run.{key, run, plain}
use Rattle.runs.specs.Piece.{key_at}
use Rattle.runs.specs.Place.{Plain, Halved, Lower}
use Rattle.runs.specs.Merge.{Two, Merged}
use Rattle.runs.proofs.Runs.{run-append, run-both, cut_at, drop-run, key-at}

-- ---- lists in parts

module _ (s U M C : List ℕ) (p n : ℕ) (is : s ≡ U ++ (M ++ C)) (at_p : p ≡ length U) (at_n : n ≡ length M) where
  mid-drop : drop p s ≡ M ++ C
  mid-drop = ap (drop p) is ∙ drop_at U (M ++ C) p (sym at_p)

  mid-take : take n (drop p s) ≡ M
  mid-take = ap (take n) mid-drop ∙ take_at M C n (sym at_n)

  mid-put : (R : List ℕ) → put_mid p n s R ≡ U ++ (R ++ C)
  mid-put R =
      ap (λ (x : List ℕ). x ++ (R ++ drop n (drop p s))) (ap (take p) is ∙ take_at U (M ++ C) p (sym at_p))
      ∙ ap (λ (x : List ℕ). U ++ (R ++ x)) (ap (drop n) mid-drop ∙ drop_at M C n (sym at_n))

-- a part that comes back as long as it was leaves the whole as long
put-long : (s R : List ℕ) (p n : ℕ) → p + n ≤ length s → length R ≡ n → length (put_mid p n s R) ≡ length s
put-long s R p n h e =
    let l1 : length (take p s) ≡ p = length-take-le p s (omega arith) in
    length-append (take p s) (R ++ drop n (drop p s)) ∙ ap (λ (x : ℕ). length (take p s) + x) (length-append R (drop n (drop p s)))
    ∙ omega (arith, length-drop n (drop p s), length-drop p s)

-- ---- two parts of a list, each of which leaves a front, the second drawn to the first

-- L is what the first b bytes became, Z what the others became
module _ (s L Z exit : List ℕ) (b m n r : ℕ) (within : b ≤ length s) (len-l : length L ≡ length (take b s))
    (len-z : length Z ≡ length (take (length (L ++ drop b s) - b) (drop b (L ++ drop b s)))) (fit_m : m ≤ b) where
  long_l : length L ≡ b
  long_l = len-l ∙ length-take-le b s (omega arith)

  two : List ℕ
  two = L ++ drop b s

  long-two : length (L ++ drop b s) ≡ length s
  long-two = length-append L (drop b s) ∙ omega (arith, long_l, length-drop b s)

  pub part-two : take (length (L ++ drop b s) - b) (drop b (L ++ drop b s)) ≡ drop b s
  part-two =
      let e : drop b (L ++ drop b s) ≡ drop b s = drop_at L (drop b s) b long_l in
      take_all (length (L ++ drop b s) - b) (drop b (L ++ drop b s)) (omega (arith, ap length e, length-drop b s, long-two)) ∙ e

  three-is : put_mid b (length (L ++ drop b s) - b) (L ++ drop b s) Z ≡ L ++ Z
  three-is =
      let e : length (L ++ drop b s) - b ≡ length (drop b s) = omega (arith, length-append L (drop b s), long_l) in
      mid-put (L ++ drop b s) L (drop b s) [] b (length (L ++ drop b s) - b) (ap (λ (x : List ℕ). L ++ x) (sym (append-nil (drop b s)))) (sym long_l) e Z
      ∙ ap (λ (x : List ℕ). L ++ x) (append-nil Z)

  pub three-long : length (put_mid b (length (L ++ drop b s) - b) (L ++ drop b s) Z) ≡ length s
  three-long = ap length three-is ∙ length-append L Z ∙ omega (arith, long_l, len-z, ap length part-two, length-drop b s)

  module _ (fit_n : n ≤ length Z) where
    pub three-room : (m ≤ b) × (b + n ≤ length (put_mid b (length (L ++ drop b s) - b) (L ++ drop b s) Z))
    three-room = (fit_m, omega (arith, three-long, len-z, ap length part-two, length-drop b s))

    module _ (p : Puts (put_mid b (length (L ++ drop b s) - b) (L ++ drop b s) Z) exit m
        (take n (drop b (put_mid b (length (L ++ drop b s) - b) (L ++ drop b s) Z))) r) where
      second_is : take n (drop b (put_mid b (length (L ++ drop b s) - b) (L ++ drop b s) Z)) ≡ take n Z
      second_is = ap (λ (x : List ℕ). take n (drop b x)) three-is ∙ ap (take n) (drop_at L Z b long_l)

      pub drawn-long : r ≡ m + n
      drawn-long = p.after ∙ ap (λ (x : List ℕ). m + length x) second_is ∙ ap (λ (k : ℕ). m + k) (length-take-le n Z fit_n)

      pub drawn-within : r ≤ length s
      drawn-within = omega (arith, drawn-long, len-z, ap length part-two, length-drop b s)

      pub drawn-exit : length exit ≡ length s
      drawn-exit = piece-long p ∙ three-long

      pub drawn : take r exit ≡ take m L ++ take n Z
      drawn =
          piece-front p (omega (arith, drawn-within, three-long))
          ∙ ap (λ (x : List ℕ). take m x ++ take n (drop b (put_mid b (length (L ++ drop b s) - b) (L ++ drop b s) Z))) three-is
          ∙ ap (λ (x : List ℕ). x ++ take n (drop b (put_mid b (length (L ++ drop b s) - b) (L ++ drop b s) Z))) (take-append-le m L Z (omega (arith, long_l)))
          ∙ ap (λ (x : List ℕ). take m L ++ x) second_is

-- ---- the parts of a merge

module _ (s R : List ℕ) (k h q : ℕ) (less : k < length s) (hv : Halved s k h) (lw0 : k ≤ q) (lw1 : q ≤ length s) (len-r : length R ≡ length (take (q - h) (drop h s))) where
  pub turned-long : length (put_mid h (q - h) s R) ≡ length s
  turned-long = let a = hv.less in put-long s R h (q - h) (omega arith) (len-r ∙ length-take-le (q - h) (drop h s) (omega (arith, length-drop h s)))

  pub turned-fits : length (put_mid h (q - h) s R) ≤ length s
  turned-fits = omega (arith, turned-long)

  pub seam-less : h + (q - k) < length s
  seam-less = let a = hv.less in omega arith

  pub seam-within : h + (q - k) ≤ length (put_mid h (q - h) s R)
  seam-within = let a = hv.less in omega (arith, turned-long)

  pub first-falls : (t : ℕ) → length s ≡ t → length (take (h + (q - k)) (put_mid h (q - h) s R)) < t
  first-falls t e = let z = seam-less in let w = seam-within in omega (arith, length-take-le (h + (q - k)) (put_mid h (q - h) s R) (omega arith))

  pub second-falls : (t : ℕ) (L : List ℕ) → length s ≡ t → (h + (q - k) ≡ 0 → ⊥) → length L ≡ length (take (h + (q - k)) (put_mid h (q - h) s R))
      → length (take (length (L ++ drop (h + (q - k)) (put_mid h (q - h) s R)) - (h + (q - k))) (drop (h + (q - k)) (L ++ drop (h + (q - k)) (put_mid h (q - h) s R)))) < t
  second-falls t L e some len =
      let w = seam-within in
      let z = seam-less in
      let p = long-at (put_mid h (q - h) s R) L (h + (q - k)) w len in
      omega (arith, p, turned-long)
    where
      long-at : (v L : List ℕ) (b : ℕ) → b ≤ length v → length L ≡ length (take b v) → length (take (length (L ++ drop b v) - b) (drop b (L ++ drop b v))) ≡ length v - b
      long-at v L b w len =
          let ll : length L ≡ b = len ∙ length-take-le b v (omega arith) in
          let e : drop b (L ++ drop b v) ≡ drop b v = drop_at L (drop b v) b ll in
          let lt : length (L ++ drop b v) ≡ length v = length-append L (drop b v) ∙ omega (arith, length-drop b v) in
          ap length (take_all (length (L ++ drop b v) - b) (drop b (L ++ drop b v)) (omega (arith, ap length e, length-drop b v)) ∙ e) ∙ length-drop b v

-- the records of a merge in two parts
record Quarters (last : Bool) (s : List ℕ) (k h q : ℕ) (whole : List ℕ) : Type 0 where
  us : List (List ℕ)
  vs : List (List ℕ)
  bs : List (List ℕ)
  cs : List (List ℕ)
  parts : s ≡ run us ++ (run vs ++ (run bs ++ run cs))
  at_h : h ≡ length (run us)
  at-k : k ≡ length (run us) + length (run vs)
  at_q : q ≡ k + length (run bs)
  first : Two last (run us ++ run bs) h (run (inserts key last us bs))
  second : Two last (run vs ++ run cs) (k - h) (run (inserts key last vs cs))
  makes : run (inserts key last us bs) ++ run (inserts key last vs cs) ≡ whole

quarters : (last : Bool) (s : List ℕ) (k h q : ℕ) (whole : List ℕ) → Halved s k h → Lower s h k q → Two last s k whole → Quarters last s k h q whole
quarters last s k h q whole hv lw two =
    let a = hv.less in
    let c = cut_at s 0 h two.us (run two.bs) two.plain-us two.parts (omega arith) (omega (arith, two.seam)) hv.edge in
    go c.ones c.twos c.parts c.place
  where
    go : (us vs : List (List ℕ)) → two.us ≡ us ++ vs → h ≡ 0 + length (run us) → Quarters last s k h q whole
    go us [] parts place = let a = hv.less in absurd (omega (arith, two.seam, ap (λ (x : List (List ℕ)). length (run x)) (parts ∙ append-nil us)))
    go us (x ∷ vs) parts place =
        let at-k2 : drop k s ≡ run two.bs = ap (drop k) two.parts ∙ drop_at (run two.us) (run two.bs) k (sym two.seam) in
        let pt = lw.parted two.bs two.plain-bs two.rise-bs at-k2 in
        let pu : Plain (us ++ (x ∷ vs)) = subst Plain parts two.plain-us in
        let pb : Plain (pt.ones ++ pt.twos) = subst Plain pt.parts two.plain-bs in
        let ru : Ascends key (us ++ (x ∷ vs)) = subst (Ascends key) parts two.rise-us in
        let rb : Ascends key (pt.ones ++ pt.twos) = subst (Ascends key) pt.parts two.rise-bs in
        let px : plain x ≡ true = every-head (λ r. plain r ≡ true) x vs (every-right (λ r. plain r ≡ true) us (x ∷ vs) pu) in
        let kx : key_at s h ≡ key x = key-at s h x vs (run two.bs) px (drop-run s 0 h us (x ∷ vs) two.us (run two.bs) two.parts parts place) in
        let low : Every (λ b. before (key b) (key x) ≡ true) pt.ones = subst (λ (w : List ℕ). Every (λ b. before (key b) w ≡ true) pt.ones) kx pt.low in
        let high : Every (λ b. before (key b) (key x) ≡ false) pt.twos = subst (λ (w : List ℕ). Every (λ b. before (key b) w ≡ false) pt.twos) kx pt.high in
        let seam : k ≡ length (run us) + length (run (x ∷ vs)) = two.seam ∙ ap (λ (r : List (List ℕ)). length (run r)) parts ∙ run-both us (x ∷ vs) in
        let under : Every (λ u. Every (λ z. before (key u) (key z) ≡ true) pt.twos) us =
        every_map (λ u. Every (λ z. before (key u) (key z) ≡ true) (x ∷ vs)) (λ u. Every (λ z. before (key u) (key z) ≡ true) pt.twos)
        (λ u f. every_map (λ z. before (key z) (key x) ≡ false) (λ z. before (key u) (key z) ≡ true)
        (λ z w. before-most (key u) (key x) (key z) (every-head (λ z. before (key u) (key z) ≡ true) x vs f) w) pt.twos high) us
        (ascends_across key us (x ∷ vs) ru) in
        let over-x : Every (λ v. (v ≡ x) ⊎ (before (key x) (key v) ≡ true)) (x ∷ vs) =
        also (inl refl) (every_map (λ v. before (key x) (key v) ≡ true) (λ v. (v ≡ x) ⊎ (before (key x) (key v) ≡ true)) (λ v f. inr f) vs (ascends_head key x vs (ascends_right key us (x ∷ vs) ru))) in
        let over : Every (λ v. Every (λ z. before (key z) (key v) ≡ true) pt.ones) (x ∷ vs) =
        every_map (λ v. (v ≡ x) ⊎ (before (key x) (key v) ≡ true)) (λ v. Every (λ z. before (key z) (key v) ≡ true) pt.ones)
        (λ v. ⊎_elim
        (λ e. subst (λ (w : List ℕ). Every (λ z. before (key z) (key w) ≡ true) pt.ones) (sym e) low)
        (λ f. every_map (λ z. before (key z) (key x) ≡ true) (λ z. before (key z) (key v) ≡ true) (λ z w. before_transitive (key z) (key x) (key v) w f) pt.ones low)) (x ∷ vs) over-x in
        record {
          us = us;
          vs = x ∷ vs;
          bs = pt.ones;
          cs = pt.twos;
          parts =
              two.parts ∙ ap (λ (r : List (List ℕ)). run r ++ run two.bs) parts ∙ ap (λ (r : List ℕ). r ++ run two.bs) (run-append us (x ∷ vs))
              ∙ ap (λ (r : List (List ℕ)). (run us ++ run (x ∷ vs)) ++ run r) pt.parts ∙ ap (λ (r : List ℕ). (run us ++ run (x ∷ vs)) ++ r) (run-append pt.ones pt.twos)
              ∙ append_assoc (run us) (run (x ∷ vs)) (run pt.ones ++ run pt.twos);
          at_h = omega (arith, place);
          at-k = seam;
          at_q = pt.place;
          first = record {
            us = us;
            bs = pt.ones;
            plain-us = every-left (λ r. plain r ≡ true) us (x ∷ vs) pu;
            plain-bs = every-left (λ r. plain r ≡ true) pt.ones pt.twos pb;
            rise-us = ascends_left key us (x ∷ vs) ru;
            rise-bs = ascends_left key pt.ones pt.twos rb;
            parts = refl;
            seam = omega (arith, place);
            makes = refl;
          };
          second = record {
            us = x ∷ vs;
            bs = pt.twos;
            plain-us = every-right (λ r. plain r ≡ true) us (x ∷ vs) pu;
            plain-bs = every-right (λ r. plain r ≡ true) pt.ones pt.twos pb;
            rise-us = ascends_right key us (x ∷ vs) ru;
            rise-bs = ascends_right key pt.ones pt.twos rb;
            parts = refl;
            seam = omega (arith, place, seam);
            makes = refl;
          };
          makes =
              sym (run-append (inserts key last us pt.ones) (inserts key last (x ∷ vs) pt.twos))
              ∙ ap run (sym (inserts-parts key last us (x ∷ vs) pt.ones pt.twos ru under over))
              ∙ ap (λ (r : List (List ℕ)). run (inserts key last r (pt.ones ++ pt.twos))) (sym parts) ∙ ap (λ (r : List (List ℕ)). run (inserts key last two.us r)) (sym pt.parts) ∙ two.makes;
        }

-- the bytes of a merge in two parts, after the middle ones are turned
module _ (s U W B C R : List ℕ) (k h q : ℕ) (is : s ≡ U ++ (W ++ (B ++ C))) (at_h : h ≡ length U) (at-k : k ≡ length U + length W) (at_q : q ≡ k + length B)
    (turn : R ≡ drop (k - h) (take (q - h) (drop h s)) ++ take (k - h) (take (q - h) (drop h s))) where
  is-mid : s ≡ U ++ ((W ++ B) ++ C)
  is-mid = is ∙ ap (λ (x : List ℕ). U ++ x) (sym (append_assoc W B C))

  len_mid : q - h ≡ length (W ++ B)
  len_mid = omega (arith, length-append W B)

  len_w : length W ≡ k - h
  len_w = omega arith

  turned-is : R ≡ B ++ W
  turned-is =
      turn
      ∙ ap (λ (x : List ℕ). drop (k - h) x ++ take (k - h) x) (mid-take s U (W ++ B) C h (q - h) is-mid at_h len_mid)
      ∙ ap (λ (x : List ℕ). x ++ take (k - h) (W ++ B)) (drop_at W B (k - h) len_w)
      ∙ ap (λ (x : List ℕ). B ++ x) (take_at W B (k - h) len_w)

  one-is : put_mid h (q - h) s R ≡ (U ++ B) ++ (W ++ C)
  one-is =
      mid-put s U (W ++ B) C h (q - h) is-mid at_h len_mid R ∙ ap (λ (x : List ℕ). U ++ (x ++ C)) turned-is
      ∙ ap (λ (x : List ℕ). U ++ x) (append_assoc B W C) ∙ sym (append_assoc U B (W ++ C))

  len_b : length (U ++ B) ≡ h + (q - k)
  len_b = length-append U B ∙ omega arith

  first_part : take (h + (q - k)) (put_mid h (q - h) s R) ≡ U ++ B
  first_part = ap (take (h + (q - k))) one-is ∙ take_at (U ++ B) (W ++ C) (h + (q - k)) len_b

  second-part : drop (h + (q - k)) (put_mid h (q - h) s R) ≡ W ++ C
  second-part = ap (drop (h + (q - k))) one-is ∙ drop_at (U ++ B) (W ++ C) (h + (q - k)) len_b

pub merged-room : (last : Bool) (s R L Z : List ℕ) (k h q m n : ℕ) → k < length s → Halved s k h → Lower s h k q
    → length R ≡ length (take (q - h) (drop h s))
    → length L ≡ length (take (h + (q - k)) (put_mid h (q - h) s R)) → Merged last h (take (h + (q - k)) (put_mid h (q - h) s R)) L m
    → (let two = L ++ drop (h + (q - k)) (put_mid h (q - h) s R) in
    length Z ≡ length (take (length two - (h + (q - k))) (drop (h + (q - k)) two)) → Merged last (k - h) (take (length two - (h + (q - k))) (drop (h + (q - k)) two)) Z n
    → (m ≤ h + (q - k)) × (h + (q - k) + n ≤ length (put_mid (h + (q - k)) (length two - (h + (q - k))) two Z)))
merged-room last s R L Z k h q m n less hv lw len-r len-l one len-z other =
    let v = put_mid h (q - h) s R in
    let b = h + (q - k) in
    let within = seam-within s R k h q less hv lw.least lw.within len-r in
    let long-1 : length (take b v) ≡ b = length-take-le b v (omega arith) in
    let fit_m : m ≤ b = omega (arith, one.within) in
    let fit_n : n ≤ length Z = omega (arith, other.within) in
    three-room v L Z [] b m n 0 within len-l len-z fit_m fit_n

pub merged : (last : Bool) (s R L Z exit : List ℕ) (k h q m n r : ℕ) → k < length s → Halved s k h → Lower s h k q
    → length R ≡ length (take (q - h) (drop h s)) → R ≡ drop (k - h) (take (q - h) (drop h s)) ++ take (k - h) (take (q - h) (drop h s))
    → length L ≡ length (take (h + (q - k)) (put_mid h (q - h) s R)) → Merged last h (take (h + (q - k)) (put_mid h (q - h) s R)) L m
    → (let two = L ++ drop (h + (q - k)) (put_mid h (q - h) s R) in
    length Z ≡ length (take (length two - (h + (q - k))) (drop (h + (q - k)) two)) → Merged last (k - h) (take (length two - (h + (q - k))) (drop (h + (q - k)) two)) Z n
    → Puts (put_mid (h + (q - k)) (length two - (h + (q - k))) two Z) exit m (take n (drop (h + (q - k)) (put_mid (h + (q - k)) (length two - (h + (q - k))) two Z))) r
    → Merged last k s exit r)
merged last s R L Z exit k h q m n r less hv lw len-r turn len-l one len-z other p =
    let v = put_mid h (q - h) s R in
    let b = h + (q - k) in
    let within = seam-within s R k h q less hv lw.least lw.within len-r in
    let long-v = turned-long s R k h q less hv lw.least lw.within len-r in
    let long-1 : length (take b v) ≡ b = length-take-le b v (omega arith) in
    let fit_m : m ≤ b = omega (arith, one.within) in
    let fit_n : n ≤ length Z = omega (arith, other.within) in
    let d = drawn v L Z exit b m n r within len-l len-z fit_m fit_n p in
    let w = drawn-within v L Z exit b m n r within len-l len-z fit_m fit_n p in
    let pt = part-two v L Z exit b m n r within len-l len-z fit_m in
    record {
      within = omega arith;
      made = λ whole two.
          let z = quarters last s k h q whole hv lw two in
          let f1 : take b v ≡ run z.us ++ run z.bs = first_part s (run z.us) (run z.vs) (run z.bs) (run z.cs) R k h q z.parts z.at_h z.at-k z.at_q turn in
          let f2 : drop b v ≡ run z.vs ++ run z.cs = second-part s (run z.us) (run z.vs) (run z.bs) (run z.cs) R k h q z.parts z.at_h z.at-k z.at_q turn in
          let g1 = one.made (run (inserts key last z.us z.bs)) (subst (λ (x : List ℕ). Two last x h (run (inserts key last z.us z.bs))) (sym f1) z.first) in
          let g2 = other.made (run (inserts key last z.vs z.cs)) (subst (λ (x : List ℕ). Two last x (k - h) (run (inserts key last z.vs z.cs))) (sym (pt ∙ f2)) z.second) in
          let e : take r exit ≡ whole = d ∙ ap (λ (x : List ℕ). x ++ take n Z) g1.bytes ∙ ap (λ (x : List ℕ). run (inserts key last z.us z.bs) ++ x) g2.bytes ∙ z.makes in
          let x = drawn-exit v L Z exit b m n r within len-l len-z fit_m fit_n p in
          record { long = sym (length-take-le r exit (omega arith)) ∙ ap length e; bytes = e };
    }
