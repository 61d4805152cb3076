-- What a merge leaves: where nothing is to be done, where the runs meet in one key, and in two parts.
-- Assumes nothing.
use mathlib.Core.Path.{◌≡◌, refl, ap, sym, ◌∙◌, subst}
use mathlib.Core.Bool.{Bool, true, false}
use mathlib.Core.List.{List, [], ◌∷◌, ◌++◌, append_assoc, append-nil}
use Prim.Native.Nat.{ℕ, suc, ◌+◌, ◌-◌, ◌≤◌, ◌<◌}
use native.Mathlib.Omega.{arith}
use lib.ListN.{length, take, drop, length-append, length-drop}
use lib.Seq.{take_all, take_at, drop_at, length-take-le, take-length}
use Rattle.lent.specs.Put.{Puts}
use Rattle.lent.proofs.Pieces.{piece-front}
use Rattle.order.specs.Order.{before}
use Rattle.order.specs.Merge.{inserts}
use Rattle.order.specs.Every.{Every, none, also, Ascends}
use Rattle.order.proofs.Befores.{never, before_transitive, before_total}
use Rattle.order.proofs.Everies.{every_map, every_append, every-left, every-right, every-head, ascends_head, ascends_across}
use Rattle.order.proofs.Arranges.{first-before}
use Rattle.order.proofs.Merges.{inserts-none, inserts-below, meet-later, meet-earlier}
use Rattle.runs.specs.Run.{key, run, plain}
use Rattle.runs.specs.Piece.{piece, key_at}
use Rattle.runs.specs.Place.{Plain, Ended, Begun, Halved, Lower}
use Rattle.runs.specs.Merge.{Front, Two, Merged, Met}
use Rattle.runs.proofs.Runs.{run-nil, run-append, run-both, run_long, run_none, cut_at, drop-run, key-at, piece-at}
use Rattle.runs.proofs.Knits.{inserts-nothing}

-- ---- meet

module _ (last : Bool) (s exit : List ℕ) (p k r : ℕ) (h : (p ≤ k) × (k ≤ length s)) where
  pub met-later : last ≡ true → Puts s exit p (take (length s - k) (drop k s)) r → Met last s p k exit r
  met-later l o =
      let a = h.0 in
      let b = h.1 in
      let tail : take (length s - k) (drop k s) ≡ drop k s = take_all (length s - k) (drop k s) (omega (arith, length-drop k s)) in
      let q : Puts s exit p (drop k s) r = subst (λ (x : List ℕ). Puts s exit p x r) tail o in
      let z = q.after in
      let fit : r ≤ length s = omega (arith, length-drop k s) in
      record {
        within = fit;
        later = λ _. record { long = z ∙ sym (length-append (take p s) (drop k s) ∙ ap (λ (x : ℕ). x + length (drop k s)) (length-take-le p s (omega arith))); bytes = piece-front q fit };
        earlier = λ e. never (sym l ∙ e);
      }

  pub met-earlier : (e : ℕ) → last ≡ false → Ended s k e → Puts s exit k (take (length s - e) (drop e s)) r → Met last s p k exit r
  met-earlier e l d o =
      let b = h.1 in
      let w = d.within in
      let y = d.same in
      let tail : take (length s - e) (drop e s) ≡ drop e s = take_all (length s - e) (drop e s) (omega (arith, length-drop e s)) in
      let q : Puts s exit k (drop e s) r = subst (λ (x : List ℕ). Puts s exit k x r) tail o in
      let z = q.after in
      let fit : r ≤ length s = omega (arith, length-drop e s) in
      let g : Front exit r (take k s ++ drop e s) = record { long = z ∙ sym (length-append (take k s) (drop e s) ∙ ap (λ (x : ℕ). x + length (drop e s)) (length-take-le k s b)); bytes = piece-front q fit } in
      record {
        within = fit;
        later = λ t. never (sym t ∙ l);
        earlier = λ _. subst (λ (x : ℕ). Front exit r (take k s ++ drop x s)) y g;
      }

-- ---- the first returns of merge

front-all : (s whole : List ℕ) → s ≡ whole → Front s (length s) whole
front-all s whole e = record { long = ap length e; bytes = take-length s ∙ e }

pub merged-none : (last : Bool) (k : ℕ) (s : List ℕ) → k ≡ 0 → Merged last k s s (length s)
merged-none last k s z = record {
  within = omega arith;
  made = λ whole two.
      let e : two.us ≡ [] = run_none two.us (sym two.seam ∙ z) in
      front-all s whole
      (two.parts ∙ ap (λ (x : List (List ℕ)). run x ++ run two.bs) e ∙ ap (λ (x : List ℕ). x ++ run two.bs) run-nil
      ∙ ap run (sym (ap (λ (x : List (List ℕ)). inserts key last x two.bs) e ∙ inserts-nothing last two.bs)) ∙ two.makes);
}

both_long : (last : Bool) (s whole : List ℕ) (k : ℕ) (two : Two last s k whole) → length s ≡ k + length (run two.bs)
both_long last s whole k two = ap length two.parts ∙ length-append (run two.us) (run two.bs) ∙ ap (λ (x : ℕ). x + length (run two.bs)) (sym two.seam)

pub merged-all : (last : Bool) (k : ℕ) (s : List ℕ) → length s ≤ k → Merged last k s s (length s)
merged-all last k s l = record {
  within = omega arith;
  made = λ whole two.
      let e : two.bs ≡ [] = run_none two.bs (omega (arith, both_long last s whole k two)) in
      front-all s whole
      (two.parts ∙ ap (λ (x : List (List ℕ)). run two.us ++ run x) e ∙ ap (λ (x : List ℕ). run two.us ++ x) run-nil ∙ append-nil (run two.us)
      ∙ ap run (sym (ap (inserts key last two.us) e ∙ inserts-none key last two.us two.rise-us)) ∙ two.makes);
}

-- where two runs meet: the last record of the one, and the first of the other
record Seam (last : Bool) (s : List ℕ) (k p : ℕ) (whole : List ℕ) : Type 0 where
  us : List (List ℕ)
  x : List ℕ
  y : List ℕ
  bs : List (List ℕ)
  rise-us : Ascends key (us ++ (x ∷ []))
  rise-bs : Ascends key (y ∷ bs)
  plain-us : Plain (us ++ (x ∷ []))
  plain-y : plain y ≡ true
  plain-bs : Plain (y ∷ bs)
  parts : s ≡ run (us ++ (x ∷ [])) ++ run (y ∷ bs)
  seam : k ≡ length (run (us ++ (x ∷ [])))
  place : p ≡ length (run us)
  makes : run (inserts key last (us ++ (x ∷ [])) (y ∷ bs)) ≡ whole

seam-of : (last : Bool) (s : List ℕ) (k p : ℕ) (whole : List ℕ) → (k ≡ 0 → ⊥) → k < length s → Begun s 0 (k - 1) p → Two last s k whole → Seam last s k p whole
seam-of last s k p whole nonzero less b two =
    let m = b.most in
    let c = cut_at s 0 p two.us (run two.bs) two.plain-us two.parts (omega arith) (omega (arith, two.seam)) b.edge in
    go c.ones c.twos c.parts c.place two.bs refl
  where
    go : (ones twos : List (List ℕ)) → two.us ≡ ones ++ twos → p ≡ 0 + length (run ones) → (bs : List (List ℕ)) → two.bs ≡ bs → Seam last s k p whole
    go ones [] parts place bs e = let m = b.most in absurd (omega (arith, two.seam, ap (λ (x : List (List ℕ)). length (run x)) (parts ∙ append-nil ones)))
    go ones (x ∷ zs) parts place [] e = absurd (omega (arith, both_long last s whole k two, ap (λ (x : List (List ℕ)). length (run x)) e, ap length run-nil))
    go ones (x ∷ zs) parts place (y ∷ bs) e =
        let pu : Plain (ones ++ (x ∷ zs)) = subst Plain parts two.plain-us in
        let px : plain x ≡ true = every-head (λ r. plain r ≡ true) x zs (every-right (λ r. plain r ≡ true) ones (x ∷ zs) pu) in
        let at : drop p s ≡ run (x ∷ zs) ++ run two.bs = drop-run s 0 p ones (x ∷ zs) two.us (run two.bs) two.parts parts place in
        let long : length (piece (drop p s)) ≡ suc (length x) = ap length (piece-at s p x zs (run two.bs) px at) ∙ length-append x (0 ∷ []) ∙ omega arith in
        let reach = b.reach (omega arith) in
        let all : k ≡ length (run ones) + suc (length x + length (run zs)) = two.seam ∙ ap (λ (r : List (List ℕ)). length (run r)) parts ∙ run-both ones (x ∷ zs) ∙ ap (λ (n : ℕ). length (run ones) + n) (run_long x zs) in
        let z : zs ≡ [] = run_none zs (omega arith) in
        let q : two.us ≡ ones ++ (x ∷ []) = parts ∙ ap (λ (r : List (List ℕ)). ones ++ (x ∷ r)) z in
        record {
          us = ones;
          x = x;
          y = y;
          bs = bs;
          rise-us = subst (Ascends key) q two.rise-us;
          rise-bs = subst (Ascends key) e two.rise-bs;
          plain-us = subst Plain q two.plain-us;
          plain-y = every-head (λ r. plain r ≡ true) y bs (subst Plain e two.plain-bs);
          plain-bs = subst Plain e two.plain-bs;
          parts = two.parts ∙ ap (λ (r : List (List ℕ)). run r ++ run two.bs) q ∙ ap (λ (r : List (List ℕ)). run (ones ++ (x ∷ [])) ++ run r) e;
          seam = two.seam ∙ ap (λ (r : List (List ℕ)). length (run r)) q;
          place = omega (arith, place);
          makes = ap (λ (r : List (List ℕ)). run (inserts key last r (y ∷ bs))) (sym q) ∙ ap (λ (r : List (List ℕ)). run (inserts key last two.us r)) (sym e) ∙ two.makes;
        }

module _ (last : Bool) (s : List ℕ) (k p : ℕ) (nonzero : k ≡ 0 → ⊥) (less : k < length s) (b : Begun s 0 (k - 1) p) where
  at_p : (whole : List ℕ) (m : Seam last s k p whole) → drop p s ≡ run (m.x ∷ []) ++ run (m.y ∷ m.bs)
  at_p whole m = drop-run s 0 p m.us (m.x ∷ []) (m.us ++ (m.x ∷ [])) (run (m.y ∷ m.bs)) m.parts refl (omega (arith, m.place))

  at-k : (whole : List ℕ) (m : Seam last s k p whole) → drop k s ≡ run (m.y ∷ m.bs)
  at-k whole m = ap (drop k) m.parts ∙ drop_at (run (m.us ++ (m.x ∷ []))) (run (m.y ∷ m.bs)) k (sym m.seam)

  key_p : (whole : List ℕ) (m : Seam last s k p whole) → key_at s p ≡ key m.x
  key_p whole m = key-at s p m.x [] (run (m.y ∷ m.bs)) (every-head (λ r. plain r ≡ true) m.x [] (every-right (λ r. plain r ≡ true) m.us (m.x ∷ []) m.plain-us)) (at_p whole m)

  key-k : (whole : List ℕ) (m : Seam last s k p whole) → key_at s k ≡ key m.y
  key-k whole m = key-at s k m.y m.bs [] m.plain-y (at-k whole m ∙ sym (append-nil (run (m.y ∷ m.bs))))

  pub merged-apart : (t : Bool) → t ≡ before (key_at s p) (key_at s k) → t ≡ true → Merged last k s s (length s)
  merged-apart t e g = record {
    within = omega arith;
    made = λ whole two.
        let m = seam-of last s k p whole nonzero less b two in
        let lt : before (key m.x) (key m.y) ≡ true = ap (λ (v : List ℕ). before v (key m.y)) (sym (key_p whole m)) ∙ ap (before (key_at s p)) (sym (key-k whole m)) ∙ sym e ∙ g in
        let under-x : Every (λ z. before (key m.x) (key z) ≡ true) (m.y ∷ m.bs) = first-before key last m.x m.y m.bs lt (ascends_head key m.y m.bs m.rise-bs) in
        let under : Every (λ u. Every (λ z. before (key u) (key z) ≡ true) (m.y ∷ m.bs)) (m.us ++ (m.x ∷ [])) =
        every_append (λ u. Every (λ z. before (key u) (key z) ≡ true) (m.y ∷ m.bs)) m.us (m.x ∷ [])
        (every_map (λ u. Every (λ z. before (key u) (key z) ≡ true) (m.x ∷ [])) (λ u. Every (λ z. before (key u) (key z) ≡ true) (m.y ∷ m.bs))
        (λ u f. every_map (λ z. before (key m.x) (key z) ≡ true) (λ z. before (key u) (key z) ≡ true)
        (λ z w. before_transitive (key u) (key m.x) (key z) (every-head (λ z. before (key u) (key z) ≡ true) m.x [] f) w) (m.y ∷ m.bs) under-x) m.us
        (ascends_across key m.us (m.x ∷ []) m.rise-us))
        (also under-x none) in
        front-all s whole
        (m.parts ∙ sym (run-append (m.us ++ (m.x ∷ [])) (m.y ∷ m.bs))
        ∙ ap run (sym (inserts-below key last (m.us ++ (m.x ∷ [])) (m.y ∷ m.bs) m.rise-us under)) ∙ m.makes);
  }

  pub merged-met : (u v : Bool) (exit : List ℕ) (r : ℕ) → u ≡ before (key_at s p) (key_at s k) → u ≡ false → v ≡ before (key_at s k) (key_at s p) → v ≡ false → Met last s p k exit r → Merged last k s exit r
  merged-met u v exit r e g e2 g2 d = record {
    within = d.within;
    made = λ whole two.
        let m = seam-of last s k p whole nonzero less b two in
        let same : key m.x ≡ key m.y = sym (key_p whole m) ∙ before_total (key_at s p) (key_at s k) (sym e ∙ g) (sym e2 ∙ g2) ∙ key-k whole m in
        which whole m same last refl;
  }
    where
      which : (whole : List ℕ) (m : Seam last s k p whole) → key m.x ≡ key m.y → (t : Bool) → last ≡ t → Front exit r whole
      which whole m same true l =
          let w : take p s ++ drop k s ≡ whole =
          ap (λ (z : List ℕ). z ++ drop k s) (ap (take p) (m.parts ∙ ap (λ (z : List ℕ). z ++ run (m.y ∷ m.bs)) (run-append m.us (m.x ∷ [])) ∙ append_assoc (run m.us) (run (m.x ∷ [])) (run (m.y ∷ m.bs))) ∙ take_at (run m.us) (run (m.x ∷ []) ++ run (m.y ∷ m.bs)) p (sym m.place))
          ∙ ap (λ (z : List ℕ). run m.us ++ z) (at-k whole m) ∙ sym (run-append m.us (m.y ∷ m.bs))
          ∙ ap run (sym (meet-later key last m.us m.bs m.x m.y m.rise-us m.rise-bs same l)) ∙ m.makes in
          subst (λ (z : List ℕ). Front exit r z) w (d.later l)
      which whole m same false l =
          let q : k + length (piece (drop k s)) ≡ k + suc (length m.y) =
          ap (λ (z : List ℕ). k + length z) (piece-at s k m.y m.bs [] m.plain-y (at-k whole m ∙ sym (append-nil (run (m.y ∷ m.bs))))) ∙ ap (λ (z : ℕ). k + z) (length-append m.y (0 ∷ []) ∙ omega arith) in
          let rest : drop (k + length (piece (drop k s))) s ≡ run m.bs =
          drop-run s k (k + length (piece (drop k s))) (m.y ∷ []) m.bs (m.y ∷ m.bs) [] (at-k whole m ∙ sym (append-nil (run (m.y ∷ m.bs)))) refl (q ∙ ap (λ (z : ℕ). k + z) (sym (run_long m.y [] ∙ omega (arith, ap length run-nil)))) ∙ append-nil (run m.bs) in
          let w : take k s ++ drop (k + length (piece (drop k s))) s ≡ whole =
          ap (λ (z : List ℕ). z ++ drop (k + length (piece (drop k s))) s) (ap (take k) m.parts ∙ take_at (run (m.us ++ (m.x ∷ []))) (run (m.y ∷ m.bs)) k (sym m.seam))
          ∙ ap (λ (z : List ℕ). run (m.us ++ (m.x ∷ [])) ++ z) rest
          ∙ sym (run-append (m.us ++ (m.x ∷ [])) m.bs) ∙ ap run (append_assoc m.us (m.x ∷ []) m.bs)
          ∙ ap run (sym (meet-earlier key last m.us m.bs m.x m.y m.rise-us m.rise-bs same l)) ∙ m.makes in
          subst (λ (z : List ℕ). Front exit r z) w (d.earlier l)

  -- a run of one record that is not the least has some before it
  pub merged-never : (v : Bool) (h q : ℕ) (exit : List ℕ) (r : ℕ) → r ≤ length s → v ≡ before (key_at s k) (key_at s p) → v ≡ true → Halved s k h → Lower s h k q → h + (q - k) ≡ 0 → Merged last k s exit r
  merged-never v h q exit r fit e g a w z = record {
    within = fit;
    made = λ whole two.
        let m = seam-of last s k p whole nonzero less b two in
        absurd (go whole m m.us refl m.place);
  }
    where
      go : (whole : List ℕ) (m : Seam last s k p whole) (us : List (List ℕ)) → m.us ≡ us → p ≡ length (run us) → ⊥
      go whole m (o ∷ os) f pl =
          let one = a.one (omega arith) in
          let is : s ≡ run (o ∷ (os ++ (m.x ∷ []))) ++ run (m.y ∷ m.bs) = m.parts ∙ ap (λ (r : List (List ℕ)). run (r ++ (m.x ∷ [])) ++ run (m.y ∷ m.bs)) f in
          let po : plain o ≡ true = every-head (λ r. plain r ≡ true) o os (every-left (λ r. plain r ≡ true) (o ∷ os) (m.x ∷ []) (subst (λ (r : List (List ℕ)). Plain (r ++ (m.x ∷ []))) f m.plain-us)) in
          let long : length (piece s) ≡ suc (length o) = ap length (piece-at s 0 o (os ++ (m.x ∷ [])) (run (m.y ∷ m.bs)) po is) ∙ length-append o (0 ∷ []) ∙ omega arith in
          let ml = b.most in
          omega (arith, run_long o os)
      go whole m [] f pl =
          let lw = w.least in
          let hz : h ≡ 0 = omega arith in
          let pz : p ≡ 0 = pl ∙ ap length run-nil in
          let pt = w.parted (m.y ∷ m.bs) m.plain-bs m.rise-bs (at-k whole m) in
          let qk = pt.place in
          let nil : pt.ones ≡ [] = run_none pt.ones (omega arith) in
          let all : m.y ∷ m.bs ≡ pt.twos = pt.parts ∙ ap (λ (r : List (List ℕ)). r ++ pt.twos) nil in
          let high : before (key m.y) (key_at s h) ≡ false = every-head (λ r. before (key r) (key_at s h) ≡ false) m.y m.bs (subst (Every (λ r. before (key r) (key_at s h) ≡ false)) (sym all) pt.high) in
          never (sym g ∙ e ∙ ap (λ (l : List ℕ). before l (key_at s p)) (key-k whole m) ∙ ap (λ (n : ℕ). before (key m.y) (key_at s n)) (pz ∙ sym hz) ∙ high)
