-- The places of a run's records, arranged and written out.
-- Assumes nothing.
use mathlib.Core.Path.{◌≡◌, refl, ap, sym, ◌∙◌, subst}
use mathlib.Core.Bool.{Bool, true}
use mathlib.Core.List.{List, [], ◌∷◌, ◌++◌, map, append_assoc, append-nil}
use Prim.Native.Nat.{ℕ, suc, ◌+◌, ◌-◌, ◌≤◌, ◌<◌}
use native.Mathlib.Omega.{arith}
use native.Mathlib.Numerals.{add-one}
use lib.ListN.{length, get_or, take, drop, length-drop, drop_of_length-le}
use lib.Seq.{take-suc, take_at, drop_at, take-add, take-take, take-append-le, drop-append-le, length-take-le}
use Rattle.lent.specs.Put.{Puts, Fronts}
use Rattle.lent.specs.Left.{onto}
use Rattle.lent.proofs.Pieces.{piece-front}
use Rattle.order.specs.Order.{arranged}
use Rattle.order.specs.Merge.{inserts}
use Rattle.order.specs.Every.{Every, none, also, Ascends}
use Rattle.order.proofs.Everies.{every-head, every-right}
use Rattle.order.proofs.Inserts.{arranged-append, insert-none}
use Rattle.order.proofs.Arranges.{every-arranged, ascends_arranged, map_keys}
use Rattle.runs.specs.Run.{key, run, plain}
use Rattle.runs.specs.Piece.{piece, pieces, cell, key_at}
use Rattle.runs.specs.Place.{Plain, Ended}
use Rattle.runs.specs.Merge.{Sorted}
use Rattle.runs.specs.Pair.{pairs, places, base, reach}
use Rattle.runs.specs.Index.{starts, Settled, Listed, Wrote}
use Rattle.runs.proofs.Pairs.{pairs-long, pairs-front}
use Rattle.runs.proofs.Words.{cell_record, key-cell}
use Rattle.runs.proofs.Pieces.{piece-within, ended-more}
use Rattle.runs.proofs.Runs.{run-nil, run-cons, run-both, run_long, run_none, drop-run, piece-at, end-at}

-- ---- where the records of a run begin

starts-append : (p : ℕ) (us vs : List (List ℕ)) → starts p (us ++ vs) ≡ starts p us ++ starts (p + length (run us)) vs
unfolding starts
starts-append p [] vs = ap (λ (k : ℕ). starts k vs) (let e : p ≡ p + length (run []) = omega (arith, ap length run-nil) in e)
starts-append p (u ∷ us) vs =
    let e : p + suc (length u) + length (run us) ≡ p + length (run (u ∷ us)) = omega (arith, run_long u us) in
    ap (λ (l : List ℕ). p ∷ l) (starts-append (p + suc (length u)) us vs ∙ ap (λ (k : ℕ). starts (p + suc (length u)) us ++ starts k vs) e)

starts-one : (p : ℕ) (r : List ℕ) → starts p (r ∷ []) ≡ p ∷ []
unfolding starts
starts-one p r = refl

starts-nil : (p : ℕ) → starts p [] ≡ []
unfolding starts
starts-nil p = refl

rest_at : (s : List ℕ) (p : ℕ) (r : List ℕ) (rs : List (List ℕ)) → drop p s ≡ run (r ∷ rs) ++ [] → drop (p + suc (length r)) s ≡ run rs ++ []
rest_at s p r rs is = drop-run s p (p + suc (length r)) (r ∷ []) rs (r ∷ rs) [] is refl (omega (arith, run_long r [], ap length run-nil))

-- what stands there: the records, and each with its end
cells : (s : List ℕ) (p : ℕ) (rs : List (List ℕ)) → Plain rs → drop p s ≡ run rs ++ [] → map (λ (q : ℕ). cell (drop q s)) (starts p rs) ≡ rs
unfolding starts
cells s p [] none is = refl
cells s p (r ∷ rs) (also h hs) is =
    ap (λ (x : List ℕ). x ∷ map (λ (q : ℕ). cell (drop q s)) (starts (p + suc (length r)) rs))
    (ap cell (is ∙ append-nil (run (r ∷ rs)) ∙ run-cons r rs) ∙ cell_record r (run rs) h)
    ∙ ap (λ (x : List (List ℕ)). r ∷ x) (cells s (p + suc (length r)) rs hs (rest_at s p r rs is))

ends : (s : List ℕ) (p : ℕ) (rs : List (List ℕ)) → Plain rs → drop p s ≡ run rs ++ [] → Every (λ q. piece (drop q s) ≡ cell (drop q s) ++ (0 ∷ [])) (starts p rs)
unfolding starts
ends s p [] none is = none
ends s p (r ∷ rs) (also h hs) is =
    also
    (piece-at s p r rs [] h is ∙ ap (λ (x : List ℕ). x ++ (0 ∷ [])) (sym (ap cell (is ∙ append-nil (run (r ∷ rs)) ∙ run-cons r rs) ∙ cell_record r (run rs) h)))
    (ends s (p + suc (length r)) rs hs (rest_at s p r rs is))

pieces-cells : (s : List ℕ) (ps : List ℕ) → Every (λ q. piece (drop q s) ≡ cell (drop q s) ++ (0 ∷ [])) ps → pieces s ps ≡ run (map (λ (q : ℕ). cell (drop q s)) ps)
unfolding pieces
pieces-cells s [] none = sym run-nil
pieces-cells s (p ∷ ps) (also e es) =
    ap (λ (x : List ℕ). x ++ pieces s ps) e ∙ append_assoc (cell (drop p s)) (0 ∷ []) (pieces s ps)
    ∙ ap (λ (x : List ℕ). cell (drop p s) ++ (0 ∷ x)) (pieces-cells s ps es) ∙ sym (run-cons (cell (drop p s)) (map (λ (q : ℕ). cell (drop q s)) ps))

-- places arranged by the keys there are records arranged
pub pieces-run : (last : Bool) (s : List ℕ) (rs : List (List ℕ)) → Plain rs → s ≡ run rs → pieces s (arranged (key_at s) last (starts 0 rs)) ≡ run (arranged key last rs)
unfolding key_at
pieces-run last s rs ok is =
    let at : drop 0 s ≡ run rs ++ [] = is ∙ sym (append-nil (run rs)) in
    pieces-cells s (arranged (key_at s) last (starts 0 rs)) (every-arranged (key_at s) last (λ q. piece (drop q s) ≡ cell (drop q s) ++ (0 ∷ [])) (starts 0 rs) (ends s 0 rs ok at))
    ∙ ap run (map_keys (key_at s) key (λ (q : ℕ). cell (drop q s)) last (starts 0 rs) (λ q. key-cell (drop q s)) ∙ ap (arranged key last) (cells s 0 rs ok at))

-- ---- the loop of list

pub record Passed (last : Bool) (s index : List ℕ) (n p : ℕ) (rs : List (List ℕ)) : Type 0 where
  pub us : List (List ℕ)
  pub vs : List (List ℕ)
  pub parts : rs ≡ us ++ vs
  pub place : p ≡ length (run us)
  pub taken : take n index ≡ arranged (key_at s) last (starts 0 us)

pub record Listing (last : Bool) (s index₀ index : List ℕ) (n p : ℕ) : Type 0 where
  pub long : length index ≡ length index₀
  pub enough : base ≤ length index
  pub small : length s ≤ reach
  pub within : p ≤ length s
  pub room : n ≤ places
  pub passed : (rs : List (List ℕ)) → Plain rs → s ≡ run rs → Passed last s (pairs index) n p rs

arranged-nil : (last : Bool) (s : List ℕ) → arranged (key_at s) last [] ≡ []
unfolding arranged
arranged-nil last s = refl

arranged-one : (last : Bool) (s : List ℕ) (p : ℕ) → arranged (key_at s) last (p ∷ []) ≡ p ∷ []
unfolding arranged
arranged-one last s p = insert-none (key_at s) last p

pub listing_start : (last : Bool) (s index : List ℕ) → (length s ≤ reach) × (base ≤ length index) → Listing last s index index 0 0
listing_start last s index h = record {
  long = refl;
  enough = h.1;
  small = h.0;
  within = omega arith;
  room = omega arith;
  passed = λ rs ok is. record { us = []; vs = rs; parts = refl; place = sym (ap length run-nil); taken = sym (ap (arranged (key_at s) last) (starts-nil 0) ∙ arranged-nil last s) };
}

-- there is room for one place more, and it fits its pair
pub listing-fits : (last : Bool) (s index₀ index : List ℕ) (n p : ℕ) → Listing last s index₀ index n p → p < length s → n < places → (n < length (pairs index)) × (p < reach)
listing-fits last s index₀ index n p h less more = let a = h.enough in let b = h.small in (omega (arith, pairs-long index), omega arith)

module _ (last : Bool) (s index₀ index index' : List ℕ) (n p n' e : ℕ) (h : Listing last s index₀ index n p) (less : p < length s)
    (t : Settled last s (pairs index) (pairs index') n p n') (kept : length index' ≡ length index) (room : n < places) (d : Ended s p e) where
  pub listing-falls : length s - e < length s - p
  listing-falls = let z = ended-more s p e d less in omega arith

  next : (rs : List (List ℕ)) → Plain rs → s ≡ run rs → (us vs : List (List ℕ)) → rs ≡ us ++ vs → p ≡ length (run us) → take n (pairs index) ≡ arranged (key_at s) last (starts 0 us) → Passed last s (pairs index') n' e rs
  next rs ok is us [] parts place taken = absurd (omega (arith, ap length (is ∙ ap run (parts ∙ append-nil us))))
  next rs ok is us (r ∷ vs) parts place taken =
      let hr : plain r ≡ true = every-head (λ r. plain r ≡ true) r vs (every-right (λ r. plain r ≡ true) us (r ∷ vs) (subst Plain parts ok)) in
      let at : drop p s ≡ run (r ∷ vs) ++ [] = drop-run s 0 p us (r ∷ vs) rs [] (is ∙ sym (append-nil (run rs))) parts (omega arith) in
      let end_is : e ≡ p + suc (length r) = end-at s p e r vs [] hr at d in
      record {
        us = us ++ (r ∷ []);
        vs = vs;
        parts = parts ∙ sym (append_assoc us (r ∷ []) vs);
        place = omega (arith, end_is, place, run-both us (r ∷ []), run_long r [], ap length run-nil);
        taken =
            t.holds (subst (Ascends (key_at s)) (sym taken) (ascends_arranged (key_at s) last (starts 0 us)))
            ∙ ap (λ (x : List ℕ). inserts (key_at s) last x (p ∷ [])) taken
            ∙ ap (inserts (key_at s) last (arranged (key_at s) last (starts 0 us))) (sym (arranged-one last s p))
            ∙ sym (arranged-append (key_at s) last (starts 0 us) (p ∷ []))
            ∙ ap (λ (x : List ℕ). arranged (key_at s) last (starts 0 us ++ x)) (sym (starts-one p r) ∙ ap (λ (k : ℕ). starts k (r ∷ [])) (let q : p ≡ 0 + length (run us) = omega arith in q))
            ∙ ap (arranged (key_at s) last) (sym (starts-append 0 us (r ∷ [])));
      }

  pub listing-next : Listing last s index₀ index' n' e
  listing-next = record {
    long = kept ∙ h.long;
    enough = let a = h.enough in omega (arith, kept);
    small = h.small;
    within = d.within;
    room = let a = t.within in omega arith;
    passed = λ rs ok is. let q = h.passed rs ok is in next rs ok is q.us q.vs q.parts q.place q.taken;
  }

pub listing-end : (last : Bool) (s index₀ index : List ℕ) (n p : ℕ) → Listing last s index₀ index n p → length s ≤ p → Listed last s (pairs index) n
listing-end last s index₀ index n p h l = record {
  within = h.room;
  holds = λ rs ok is.
      let q = h.passed rs ok is in
      let b = q.place in
      let v : q.vs ≡ [] = run_none q.vs (omega (arith, ap length (is ∙ ap run q.parts), run-both q.us q.vs)) in
      q.taken ∙ ap (λ (x : List (List ℕ)). arranged (key_at s) last (starts 0 x)) (sym (q.parts ∙ ap (λ (x : List (List ℕ)). q.us ++ x) v ∙ append-nil q.us));
}

-- ---- the loop of write

pub record Writing (s : List ℕ) (n : ℕ) (out₀ out : List ℕ) (w i : ℕ) : Type 0 where
  pub long : length out ≡ length out₀
  pub within : i ≤ n
  pub few : n ≤ places
  pub least : base ≤ w
  pub fits : w ≤ length out
  pub kept : take base out ≡ take base out₀
  pub holds : drop base (take w out) ≡ pieces s (take i (pairs out₀))

pieces-nil : (s : List ℕ) → pieces s [] ≡ []
unfolding pieces
pieces-nil s = refl

pieces-snoc : (s ps : List ℕ) (p : ℕ) → pieces s (ps ++ (p ∷ [])) ≡ pieces s ps ++ piece (drop p s)
unfolding pieces
pieces-snoc s [] p = append-nil (piece (drop p s))
pieces-snoc s (q ∷ ps) p = ap (λ (x : List ℕ). piece (drop q s) ++ x) (pieces-snoc s ps p) ∙ sym (append_assoc (piece (drop q s)) (pieces s ps) (piece (drop p s)))

pub writing_start : (s : List ℕ) (n : ℕ) (out : List ℕ) → (n ≤ places) × (base ≤ length out) → Writing s n out out base 0
writing_start s n out h = record {
  long = refl;
  within = omega arith;
  few = h.0;
  least = omega arith;
  fits = h.1;
  kept = refl;
  holds = drop_of_length-le (take base out) {i = base} (omega (arith, length-take-le base out h.1)) ∙ sym (pieces-nil s);
}

-- the places are read where they stand, before what is written
pub writing-room : (s : List ℕ) (n : ℕ) (out₀ out : List ℕ) (w i : ℕ) → Writing s n out₀ out w i → i < n → i < length (pairs out)
writing-room s n out₀ out w i h less = let a = h.few in let b = h.least in let c = h.fits in omega (arith, pairs-long out)

module _ (s : List ℕ) (n : ℕ) (out₀ out out' : List ℕ) (w i p next : ℕ) (h : Writing s n out₀ out w i) (less : i < n) (p-is : p ≡ get_or (pairs out) i 0)
    (in-s : p ≤ length s) (room : length s - p ≤ length out - w) (kept : length out' ≡ length out) (put : Puts out out' w (piece (drop p s)) next) where
  long-w : length (take w out) ≡ w
  long-w = length-take-le w out h.fits

  fit : next ≤ length out
  fit = let f = h.fits in omega (arith, put.after, piece-within s p)

  front : take next out' ≡ take w out ++ piece (drop p s)
  front = piece-front put fit

  place_is : p ≡ get_or (pairs out₀) i 0
  place_is = let a = h.few in p-is ∙ pairs-front out out₀ base i (omega arith) h.kept

  kept_next : take base out' ≡ take base out₀
  kept_next =
      let b = h.least in
      sym (take-take base next out' (omega (arith, put.after))) ∙ ap (take base) front ∙ take-append-le base (take w out) (piece (drop p s)) (omega (arith, long-w))
      ∙ take-take base w out b ∙ h.kept

  pub writing-next : Writing s n out₀ out' next (i + 1)
  writing-next =
      let a = h.few in
      let b = h.least in
      let f = h.fits in
      record {
        long = kept ∙ h.long;
        within = omega arith;
        few = a;
        least = omega (arith, put.after);
        fits = omega (arith, fit);
        kept = kept_next;
        holds =
            ap (drop base) front ∙ drop-append-le base (take w out) (piece (drop p s)) (omega (arith, long-w)) ∙ ap (λ (x : List ℕ). x ++ piece (drop p s)) h.holds
            ∙ sym (pieces-snoc s (take i (pairs out₀)) p) ∙ ap (λ (q : ℕ). pieces s (take i (pairs out₀) ++ (q ∷ []))) place_is
            ∙ ap (pieces s) (sym (ap (λ (k : ℕ). take k (pairs out₀)) (add-one i) ∙ take-suc (pairs out₀) i 0 (omega (arith, pairs-long out₀, h.long))));
      }

pub writing-end : (s : List ℕ) (n : ℕ) (out₀ out : List ℕ) (w i : ℕ) → Writing s n out₀ out w i → n ≤ i → Wrote s out₀ n out (w - base)
writing-end s n out₀ out w i h l =
    let a = h.within in
    let b = h.least in
    let f = h.fits in
    let e : i ≡ n = omega arith in
    let k : w ≡ base + (w - base) = omega arith in
    let behind : drop base (take w out) ≡ take (w - base) (drop base out) =
    ap (λ (j : ℕ). drop base (take j out)) k ∙ ap (drop base) (take-add base (w - base) out) ∙ drop_at (take base out) (take (w - base) (drop base out)) base (length-take-le base out (omega arith)) in
    record { within = omega arith; holds = sym behind ∙ h.holds ∙ ap (λ (j : ℕ). pieces s (take j (pairs out₀))) e }

-- ---- the return of try_short

pub tried : (last : Bool) (s index scratch exit : List ℕ) (n w r : ℕ) → Listed last s (pairs index) n → Wrote s index n scratch w → w ≤ length s
    → Fronts (take (base + w - base) (drop base scratch)) s exit r → Sorted last s exit r
unfolding onto
tried last s index scratch exit n w r l o fit f =
    let written : List ℕ = take w (drop base scratch) in
    let text : take (base + w - base) (drop base scratch) ≡ written = ap (λ (k : ℕ). take k (drop base scratch)) (let e : base + w - base ≡ w = omega arith in e) in
    let many : length written ≡ w = length-take-le w (drop base scratch) (omega (arith, o.within, length-drop base scratch)) in
    let long : r ≡ w = f.long ∙ ap length text ∙ many in
    let whole : exit ≡ written ++ drop w s = f.holds ∙ ap (λ (x : List ℕ). x ++ drop (length x) s) text ∙ ap (λ (k : ℕ). written ++ drop k s) many in
    record {
      within = omega arith;
      made = λ rs ok is.
          let e : written ≡ run (arranged key last rs) = o.holds ∙ ap (pieces s) (l.holds rs ok is) ∙ pieces-run last s rs ok is in
          record {
            long = long ∙ sym many ∙ ap length e;
            bytes = ap (λ (k : ℕ). take k exit) long ∙ ap (take w) whole ∙ take_at written (drop w s) w many ∙ e;
          };
    }
