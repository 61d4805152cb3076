-- Two runs in two buffers made one, record by record.
-- Assumes nothing.
use mathlib.Core.Path.{◌≡◌, refl, ap, sym, ◌∙◌, subst}
use mathlib.Core.Bool.{Bool, true, false}
use mathlib.Core.List.{List, [], ◌∷◌, ◌++◌, append_assoc, append-nil}
use Prim.Native.Nat.{ℕ, suc, ◌+◌, ◌-◌, ◌≤◌, ◌<◌}
use native.Mathlib.Omega.{arith}
use lib.ListN.{length, take, drop, length-append, length-drop}
use lib.Seq.{take_all, take_at, drop_at, length-take-le}
use Rattle.lent.specs.Put.{Puts, Fronts, Offers}
use Rattle.lent.specs.Left.{onto}
use Rattle.lent.proofs.Pieces.{piece-long, piece-front, piece-behind}
use Rattle.order.specs.Order.{before}
use Rattle.order.specs.Merge.{inserts}
use Rattle.order.specs.Every.{Ascends}
use Rattle.order.proofs.Befores.{before_total}
use Rattle.order.proofs.Everies.{every-head, every-tail, ascends_tail}
use Rattle.order.proofs.Merges.{merge-first, merge-second, merge-later, merge-earlier, inserts-none}
use Rattle.runs.specs.Run.{key, run, plain}
use Rattle.runs.specs.Piece.{piece, key_at}
use Rattle.runs.specs.Place.{Plain, Ended}
use Rattle.runs.specs.Merge.{Merged, Left, Apart, Turned, Knitted}
use Rattle.runs.proofs.Pieces.{piece-within, piece-some, ended-more}
use Rattle.runs.proofs.Runs.{run-nil, run-cons, run_long, run_none, drop-run, key-at, piece-at, end-at}

pub inserts-nothing : (last : Bool) (bs : List (List ℕ)) → inserts key last [] bs ≡ bs
unfolding inserts
inserts-nothing last bs = refl

-- the records that stand next
record Next (last : Bool) (a s : List ℕ) (i j w : ℕ) (whole : List ℕ) : Type 0 where
  x : List ℕ
  us : List (List ℕ)
  y : List ℕ
  bs : List (List ℕ)
  plain-us : Plain (x ∷ us)
  plain-bs : Plain (y ∷ bs)
  rise-us : Ascends key (x ∷ us)
  rise-bs : Ascends key (y ∷ bs)
  first : drop i a ≡ run (x ∷ us)
  second : drop j s ≡ run (y ∷ bs)
  makes : take w s ++ run (inserts key last (x ∷ us) (y ∷ bs)) ≡ whole

next_of : (last : Bool) (a s : List ℕ) (i j w : ℕ) (whole : List ℕ) → i < length a → j < length s → Left last a s i j w whole → Next last a s i j w whole
next_of last a s i j w whole li lj f = go f.us f.bs f.plain-us f.plain-bs f.rise-us f.rise-bs f.first f.second f.makes
  where
    go : (us bs : List (List ℕ)) → Plain us → Plain bs → Ascends key us → Ascends key bs → drop i a ≡ run us → drop j s ≡ run bs → take w s ++ run (inserts key last us bs) ≡ whole → Next last a s i j w whole
    go [] bs pu pb ru rb e g m = absurd (omega (arith, length-drop i a, ap length (e ∙ run-nil)))
    go (x ∷ us) [] pu pb ru rb e g m = absurd (omega (arith, length-drop j s, ap length (g ∙ run-nil)))
    go (x ∷ us) (y ∷ bs) pu pb ru rb e g m = record { x = x; us = us; y = y; bs = bs; plain-us = pu; plain-bs = pb; rise-us = ru; rise-bs = rb; first = e; second = g; makes = m }

-- what is behind a record
past : (s : List ℕ) (p e : ℕ) (r : List ℕ) (rs : List (List ℕ)) → drop p s ≡ run (r ∷ rs) → e ≡ p + suc (length r) → drop e s ≡ run rs
past s p e r rs is q =
    drop-run s p e (r ∷ []) rs (r ∷ rs) [] (is ∙ sym (append-nil (run (r ∷ rs)))) refl (omega (arith, run_long r [], ap length run-nil)) ∙ append-nil (run rs)

module _ (last : Bool) (a s : List ℕ) (i j w : ℕ) (li : i < length a) (lj : j < length s) (ap0 : Apart a s i j w) (t : Bool) where
  -- keys of the records that stand next
  key-x : (whole : List ℕ) (n : Next last a s i j w whole) → key_at a i ≡ key n.x
  key-x whole n = key-at a i n.x n.us [] (every-head (λ r. plain r ≡ true) n.x n.us n.plain-us) (n.first ∙ sym (append-nil (run (n.x ∷ n.us))))

  key-y : (whole : List ℕ) (n : Next last a s i j w whole) → key_at s j ≡ key n.y
  key-y whole n = key-at s j n.y n.bs [] (every-head (λ r. plain r ≡ true) n.y n.bs n.plain-bs) (n.second ∙ sym (append-nil (run (n.y ∷ n.bs))))

  piece-x : (whole : List ℕ) (n : Next last a s i j w whole) → piece (drop i a) ≡ n.x ++ (0 ∷ [])
  piece-x whole n = piece-at a i n.x n.us [] (every-head (λ r. plain r ≡ true) n.x n.us n.plain-us) (n.first ∙ sym (append-nil (run (n.x ∷ n.us))))

  piece-y : (whole : List ℕ) (n : Next last a s i j w whole) → piece (drop j s) ≡ n.y ++ (0 ∷ [])
  piece-y whole n = piece-at s j n.y n.bs [] (every-head (λ r. plain r ≡ true) n.y n.bs n.plain-bs) (n.second ∙ sym (append-nil (run (n.y ∷ n.bs))))

  snoc-long : (r : List ℕ) → length (r ++ (0 ∷ [])) ≡ suc (length r)
  snoc-long r = length-append r (0 ∷ []) ∙ omega arith

  -- a record at the front of what is to be written
  written : (s' : List ℕ) (next : ℕ) (r : List ℕ) (ws : List (List ℕ)) (l whole : List ℕ) → next ≤ length s → take next s' ≡ take w s ++ (r ++ (0 ∷ [])) → l ≡ run (r ∷ ws) → take w s ++ l ≡ whole → take next s' ++ run ws ≡ whole
  written s' next r ws l whole fit e g m =
      ap (λ (x : List ℕ). x ++ run ws) e ∙ append_assoc (take w s) (r ++ (0 ∷ [])) (run ws)
      ∙ ap (λ (x : List ℕ). take w s ++ x) (append_assoc r (0 ∷ []) (run ws) ∙ sym (run-cons r ws) ∙ sym g) ∙ m

  module _ (s' : List ℕ) (next : ℕ) (kept : length s' ≡ length s) where
    module _ (p : Puts s s' w (piece (drop i a)) next) where
      laid-fits : next + length a ≤ i + (next - w) + j
      laid-fits = let b = ap0.behind in let q = p.after in omega arith

      laid-some : w < next
      laid-some = let q = p.after in omega (arith, piece-some (drop i a) (omega (arith, length-drop i a)))

      pub laid_in : i + (next - w) ≤ length a
      laid_in = let q = p.after in omega (arith, piece-within a i)

      laid-room : next ≤ j
      laid-room = let b = ap0.behind in let q = p.after in omega (arith, piece-within a i)

      pub turned-first : t ≡ before (key_at a i) (key_at s j) → t ≡ true → Turned last a s s' i j w (record { a = i + (next - w); b = j; to = next })
      turned-first e g = record {
        apart = record { first = laid_in; second = omega arith; behind = laid-fits };
        falls = let z = laid-some in omega arith;
        left = λ whole f.
            let n = next_of last a s i j w whole li lj f in
            let px = piece-x whole n in
            let q : next ≡ w + suc (length n.x) = p.after ∙ ap (λ (l : List ℕ). w + length l) px ∙ ap (λ (k : ℕ). w + k) (snoc-long n.x) in
            let lt : before (key n.x) (key n.y) ≡ true = ap (λ (k : List ℕ). before k (key n.y)) (sym (key-x whole n)) ∙ ap (before (key_at a i)) (sym (key-y whole n)) ∙ sym e ∙ g in
            let fit = laid-room in
            record {
              us = n.us;
              bs = n.y ∷ n.bs;
              plain-us = every-tail (λ r. plain r ≡ true) n.x n.us n.plain-us;
              plain-bs = n.plain-bs;
              rise-us = ascends_tail key n.x n.us n.rise-us;
              rise-bs = n.rise-bs;
              first = past a i (i + (next - w)) n.x n.us n.first (omega arith);
              second = piece-behind p j fit ∙ n.second;
              makes = written s' next n.x (inserts key last n.us (n.y ∷ n.bs)) (run (inserts key last (n.x ∷ n.us) (n.y ∷ n.bs))) whole (omega arith)
                  (piece-front p (omega arith) ∙ ap (λ (l : List ℕ). take w s ++ l) px)
                  (ap run (merge-first key last n.x n.y n.us n.bs n.rise-us n.rise-bs lt)) n.makes;
            };
      }

    module _ (p : Puts s s' w (piece (drop j s)) next) where
      slid_some : w < next
      slid_some = let q = p.after in omega (arith, piece-some (drop j s) (omega (arith, length-drop j s)))

      pub slid_in : j + (next - w) ≤ length s
      slid_in = let q = p.after in omega (arith, piece-within s j)

      slid_room : next ≤ j + (next - w)
      slid_room = let b = ap0.behind in let c = ap0.first in let z = slid_some in omega arith

      pub turned-second : t ≡ before (key_at s j) (key_at a i) → t ≡ true → Turned last a s s' i j w (record { a = i; b = j + (next - w); to = next })
      turned-second e g = record {
        apart = record { first = ap0.first; second = slid_in; behind = let b = ap0.behind in let z = slid_some in omega arith };
        falls = let z = slid_some in omega arith;
        left = λ whole f.
            let n = next_of last a s i j w whole li lj f in
            let py = piece-y whole n in
            let q : next ≡ w + suc (length n.y) = p.after ∙ ap (λ (l : List ℕ). w + length l) py ∙ ap (λ (k : ℕ). w + k) (snoc-long n.y) in
            let lt : before (key n.y) (key n.x) ≡ true = ap (λ (k : List ℕ). before k (key n.x)) (sym (key-y whole n)) ∙ ap (before (key_at s j)) (sym (key-x whole n)) ∙ sym e ∙ g in
            let fit = slid_room in
            let fit2 = slid_in in
            record {
              us = n.x ∷ n.us;
              bs = n.bs;
              plain-us = n.plain-us;
              plain-bs = every-tail (λ r. plain r ≡ true) n.y n.bs n.plain-bs;
              rise-us = n.rise-us;
              rise-bs = ascends_tail key n.y n.bs n.rise-bs;
              first = n.first;
              second = piece-behind p (j + (next - w)) fit ∙ past s j (j + (next - w)) n.y n.bs n.second (omega arith);
              makes = written s' next n.y (inserts key last (n.x ∷ n.us) n.bs) (run (inserts key last (n.x ∷ n.us) (n.y ∷ n.bs))) whole (omega arith)
                  (piece-front p (omega arith) ∙ ap (λ (l : List ℕ). take w s ++ l) py)
                  (ap run (merge-second key last n.x n.y n.us n.bs n.rise-us n.rise-bs lt)) n.makes;
            };
      }

  -- two with one key
  met : (u v : Bool) → u ≡ before (key_at a i) (key_at s j) → u ≡ false → v ≡ before (key_at s j) (key_at a i) → v ≡ false → (whole : List ℕ) (n : Next last a s i j w whole) → key n.x ≡ key n.y
  met u v e g e2 g2 whole n = sym (key-x whole n) ∙ before_total (key_at a i) (key_at s j) (sym e ∙ g) (sym e2 ∙ g2) ∙ key-y whole n

  pub turned-later : (u v : Bool) (e : ℕ) → u ≡ before (key_at a i) (key_at s j) → u ≡ false → v ≡ before (key_at s j) (key_at a i) → v ≡ false → last ≡ true → Ended a i e → Turned last a s s i j w (record { a = e; b = j; to = w })
  turned-later u v e p q p2 q2 l d = record {
    apart = record { first = d.within; second = omega arith; behind = let b = ap0.behind in let z = ended-more a i e d li in omega arith };
    falls = let z = ended-more a i e d li in omega arith;
    left = λ whole f.
        let n = next_of last a s i j w whole li lj f in
        let z : e ≡ i + suc (length n.x) = end-at a i e n.x n.us [] (every-head (λ r. plain r ≡ true) n.x n.us n.plain-us) (n.first ∙ sym (append-nil (run (n.x ∷ n.us)))) d in
        record {
          us = n.us;
          bs = n.y ∷ n.bs;
          plain-us = every-tail (λ r. plain r ≡ true) n.x n.us n.plain-us;
          plain-bs = n.plain-bs;
          rise-us = ascends_tail key n.x n.us n.rise-us;
          rise-bs = n.rise-bs;
          first = past a i e n.x n.us n.first z;
          second = n.second;
          makes = ap (λ (r : List (List ℕ)). take w s ++ run r) (sym (merge-later key last n.x n.y n.us n.bs n.rise-us n.rise-bs (met u v p q p2 q2 whole n) l)) ∙ n.makes;
        };
  }

  pub turned-earlier : (u v : Bool) (e : ℕ) → u ≡ before (key_at a i) (key_at s j) → u ≡ false → v ≡ before (key_at s j) (key_at a i) → v ≡ false → last ≡ false → Ended s j e → Turned last a s s i j w (record { a = i; b = e; to = w })
  turned-earlier u v e p q p2 q2 l d = record {
    apart = record { first = ap0.first; second = d.within; behind = let b = ap0.behind in let z = ended-more s j e d lj in omega arith };
    falls = let z = ended-more s j e d lj in omega arith;
    left = λ whole f.
        let n = next_of last a s i j w whole li lj f in
        let z : e ≡ j + suc (length n.y) = end-at s j e n.y n.bs [] (every-head (λ r. plain r ≡ true) n.y n.bs n.plain-bs) (n.second ∙ sym (append-nil (run (n.y ∷ n.bs)))) d in
        record {
          us = n.x ∷ n.us;
          bs = n.bs;
          plain-us = n.plain-us;
          plain-bs = every-tail (λ r. plain r ≡ true) n.y n.bs n.plain-bs;
          rise-us = n.rise-us;
          rise-bs = ascends_tail key n.y n.bs n.rise-bs;
          first = n.first;
          second = past s j e n.y n.bs n.second z;
          makes = ap (λ (r : List (List ℕ)). take w s ++ run r) (sym (merge-earlier key last n.x n.y n.us n.bs n.rise-us n.rise-bs (met u v p q p2 q2 whole n) l)) ∙ n.makes;
        };
  }

-- ---- the loop of knit

pub record Knitting (last : Bool) (a s₀ s : List ℕ) (i j w : ℕ) : Type 0 where
  pub long : length s ≡ length s₀
  pub apart : Apart a s i j w
  pub left : (whole : List ℕ) → Left last a s₀ 0 (length a) 0 whole → Left last a s i j w whole

pub knitting_start : (last : Bool) (a s : List ℕ) → length a ≤ length s → Knitting last a s s 0 (length a) 0
knitting_start last a s h = record { long = refl; apart = record { first = omega arith; second = h; behind = omega arith }; left = λ whole f. f }

apart-long : (a s s' : List ℕ) (i j w : ℕ) → length s' ≡ length s → Apart a s i j w → Apart a s' i j w
apart-long a s s' i j w e h = record { first = h.first; second = omega (arith, h.second); behind = h.behind }

module _ (last : Bool) (a s₀ s : List ℕ) (i j w : ℕ) (h : Knitting last a s₀ s i j w) where
  pub knitting_next : (s' : List ℕ) (r : _) → length s' ≡ length s → Turned last a s s' i j w r → Knitting last a s₀ s' r.a r.b r.to
  knitting_next s' r e t = record { long = e ∙ h.long; apart = apart-long a s s' r.a r.b r.to e t.apart; left = λ whole f. t.left whole (h.left whole f) }

  -- the rest of the one run, where the other is at its end
  pub knitted_first : (exit : List ℕ) (r : ℕ) → i < length a → length s ≤ j → Offers s exit w (take (length a - i) (drop i a)) r → Knitted last a s₀ exit r
  knitted_first exit r li lj o =
      let b = h.apart.behind in
      let c = h.apart.second in
      let x = h.long in
      let tail : take (length a - i) (drop i a) ≡ drop i a = take_all (length a - i) (drop i a) (omega (arith, length-drop i a)) in
      let p : Puts s exit w (drop i a) r = subst (λ (l : List ℕ). Puts s exit w l r) tail (o (omega (arith, ap length tail, length-drop i a))) in
      let q = p.after in
      let fit : r ≤ length s = omega (arith, length-drop i a) in
      record {
        within = omega arith;
        made = λ whole f.
            let l = h.left whole f in
            let none : l.bs ≡ [] = run_none l.bs (omega (arith, sym (length-drop j s) ∙ ap length l.second)) in
            let e : take r exit ≡ whole =
            piece-front p fit ∙ ap (λ (y : List ℕ). take w s ++ y) (l.first ∙ ap run (sym (ap (inserts key last l.us) none ∙ inserts-none key last l.us l.rise-us))) ∙ l.makes in
            record { long = sym (length-take-le r exit (omega (arith, piece-long p))) ∙ ap length e; bytes = e };
      }

  -- the rest of the other
  pub knitted_second : (exit : List ℕ) (r : ℕ) → length a ≤ i → Puts s exit w (take (length s - j) (drop j s)) r → Knitted last a s₀ exit r
  knitted_second exit r li o =
      let b = h.apart.behind in
      let c = h.apart.second in
      let d = h.apart.first in
      let x = h.long in
      let tail : take (length s - j) (drop j s) ≡ drop j s = take_all (length s - j) (drop j s) (omega (arith, length-drop j s)) in
      let p : Puts s exit w (drop j s) r = subst (λ (l : List ℕ). Puts s exit w l r) tail o in
      let q = p.after in
      let fit : r ≤ length s = omega (arith, length-drop j s) in
      record {
        within = omega arith;
        made = λ whole f.
            let l = h.left whole f in
            let none : l.us ≡ [] = run_none l.us (omega (arith, sym (length-drop i a) ∙ ap length l.first)) in
            let e : take r exit ≡ whole =
            piece-front p fit ∙ ap (λ (y : List ℕ). take w s ++ y) (l.second ∙ ap run (sym (ap (λ (y : List (List ℕ)). inserts key last y l.bs) none ∙ inserts-nothing last l.bs))) ∙ l.makes in
            record { long = sym (length-take-le r exit (omega (arith, piece-long p))) ∙ ap length e; bytes = e };
      }

-- ---- weave

pub woven : (last : Bool) (k : ℕ) (s scratch scratch' exit : List ℕ) (r n : ℕ) → (k ≤ length s) × (k ≤ length scratch)
    → Fronts (take k s) scratch scratch' n → Knitted last (take k scratch') s exit r → Merged last k s exit r
unfolding onto
woven last k s scratch scratch' exit r n h f t =
    let lk : length (take k s) ≡ k = length-take-le k s (omega (arith, h.0)) in
    let same : take k scratch' ≡ take k s = ap (take k) f.holds ∙ take_at (take k s) (drop (length (take k s)) scratch) k lk in
    let t2 : Knitted last (take k s) s exit r = subst (λ (l : List ℕ). Knitted last l s exit r) same t in
    record {
      within = t2.within;
      made = λ whole two.
          let q : take k s ≡ run two.us = ap (take k) two.parts ∙ take_at (run two.us) (run two.bs) k (sym two.seam) in
          t2.made whole (record {
            us = two.us;
            bs = two.bs;
            plain-us = two.plain-us;
            plain-bs = two.plain-bs;
            rise-us = two.rise-us;
            rise-bs = two.rise-bs;
            first = q;
            second = ap (λ (m : ℕ). drop m s) lk ∙ ap (drop k) two.parts ∙ drop_at (run two.us) (run two.bs) k (sym two.seam);
            makes = two.makes;
          });
    }
