-- A place put into an index by its key.
-- Assumes nothing.
use mathlib.Core.Path.{◌≡◌, refl, ap, sym, ◌∙◌, subst}
use mathlib.Core.Bool.{Bool, true, false}
use mathlib.Core.List.{List, [], ◌∷◌, ◌++◌, append_assoc}
use Prim.Native.Nat.{ℕ, suc, ◌+◌, ◌-◌, ◌/◌, ◌≤◌, ◌<◌}
use native.Mathlib.Omega.{arith}
use native.Mathlib.Nat.{add-zero, le_antisymm}
use native.Mathlib.Numerals.{add-one}
use lib.ListN.{length, get_or, take, drop, set, length-set, take-append-drop, drop_of_length-le}
use lib.Seq.{take-take, get_or-take, split_at, take-suc, drop-cons, take-add, take_at, drop_at, take-append-add, length-take-le, take-suc-set, drop-set-lt, take-set-lt, set_split, get_or-drop, drop-drop}
use Rattle.ground.proofs.Tests.{by_test}
use Rattle.ground.proofs.Lists.{at_place}
use Rattle.order.specs.Order.{before}
use Rattle.order.specs.Merge.{inserts}
use Rattle.order.specs.Every.{Every, none, also, Ascends}
use Rattle.order.proofs.Befores.{never, before_transitive, before_total}
use Rattle.order.proofs.Everies.{every_map, every_append, every-head, ascends_right, ascends_head, ascends_across}
use Rattle.order.proofs.Arranges.{first-before}
use Rattle.order.proofs.Merges.{place-new, place-later, place-earlier}
use Rattle.runs.specs.Piece.{key_at}
use Rattle.runs.specs.Pair.{reach}
use Rattle.runs.specs.Index.{Found, Inserted, Settled}

-- ---- in a list that ascends, what one element says of those before it and of those behind it

module _ (key : ℕ → List ℕ) (word : List ℕ) (l : List ℕ) (rise : Ascends key l) (m : ℕ) (less : m < length l) where
  parts : l ≡ take m l ++ (get_or l m 0 ∷ drop (suc m) l)
  parts = split_at l m 0 less

  rise-parts : Ascends key (take m l ++ (get_or l m 0 ∷ drop (suc m) l))
  rise-parts = subst (Ascends key) parts rise

  front-all : before (key (get_or l m 0)) word ≡ true → Every (λ q. before (key q) word ≡ true) (take (m + 1) l)
  front-all e =
      subst (Every (λ q. before (key q) word ≡ true)) (sym (ap (λ (k : ℕ). take k l) (add-one m) ∙ take-suc l m 0 less))
      (every_append (λ q. before (key q) word ≡ true) (take m l) (get_or l m 0 ∷ [])
      (every_map (λ y. Every (λ z. before (key y) (key z) ≡ true) (get_or l m 0 ∷ drop (suc m) l)) (λ q. before (key q) word ≡ true)
      (λ y f. before_transitive (key y) (key (get_or l m 0)) word (every-head (λ z. before (key y) (key z) ≡ true) (get_or l m 0) (drop (suc m) l) f) e) (take m l)
      (ascends_across key (take m l) (get_or l m 0 ∷ drop (suc m) l) rise-parts))
      (also e none))

  back-all : before (key (get_or l m 0)) word ≡ false → Every (λ q. before (key q) word ≡ false) (drop m l)
  back-all e =
      subst (Every (λ q. before (key q) word ≡ false)) (sym (drop-cons l m 0 less))
      (also e (every_map (λ z. before (key (get_or l m 0)) (key z) ≡ true) (λ q. before (key q) word ≡ false)
      (λ z f. by_test (before (key z) word) (λ g. never (sym (before_transitive (key (get_or l m 0)) (key z) word f g) ∙ e)) (λ g. g)) (drop (suc m) l)
      (ascends_head key (get_or l m 0) (drop (suc m) l) (ascends_right key (take m l) (get_or l m 0 ∷ drop (suc m) l) rise-parts))))

-- ---- the loop of find

pub record Finding (s index : List ℕ) (n p lo hi : ℕ) : Type 0 where
  pub less : lo ≤ hi
  pub most : hi ≤ n
  pub room : n ≤ length index
  pub low : Ascends (key_at s) (take n index) → Every (λ q. before (key_at s q) (key_at s p) ≡ true) (take lo index)
  pub high : Ascends (key_at s) (take n index) → Every (λ q. before (key_at s q) (key_at s p) ≡ false) (drop hi (take n index))

pub finding_start : (s index : List ℕ) (n p : ℕ) → n ≤ length index → Finding s index n p 0 n
finding_start s index n p h = record {
  less = omega arith;
  most = omega arith;
  room = h;
  low = λ r. none;
  high = λ r. subst (Every (λ q. before (key_at s q) (key_at s p) ≡ false)) (sym (drop_of_length-le (take n index) {i = n} (omega (arith, length-take-le n index h)))) none;
}

module _ (s index : List ℕ) (n p lo hi : ℕ) (h : Finding s index n p lo hi) (l : lo < hi) (q : ℕ) (q-is : q ≡ get_or index (lo + (hi - lo) / 2) 0)
    (t : Bool) (t-is : t ≡ before (key_at s q) (key_at s p)) where
  long : length (take n index) ≡ n
  long = length-take-le n index h.room

  same : get_or (take n index) (lo + (hi - lo) / 2) 0 ≡ q
  same = let m = h.most in get_or-take n index (lo + (hi - lo) / 2) 0 (omega arith) ∙ sym q-is

  pub finding_up : t ≡ true → Finding s index n p (lo + (hi - lo) / 2 + 1) hi
  finding_up e = let m = h.most in record {
    less = omega arith;
    most = m;
    room = h.room;
    low = λ r. subst (Every (λ q. before (key_at s q) (key_at s p) ≡ true)) (take-take (lo + (hi - lo) / 2 + 1) n index (omega arith))
        (front-all (key_at s) (key_at s p) (take n index) r (lo + (hi - lo) / 2) (omega (arith, long)) (ap (λ (q : ℕ). before (key_at s q) (key_at s p)) same ∙ sym t-is ∙ e));
    high = h.high;
  }

  pub finding_down : t ≡ false → Finding s index n p lo (lo + (hi - lo) / 2)
  finding_down e = let m = h.most in record {
    less = omega arith;
    most = omega arith;
    room = h.room;
    low = h.low;
    high = λ r. back-all (key_at s) (key_at s p) (take n index) r (lo + (hi - lo) / 2) (omega (arith, long)) (ap (λ (q : ℕ). before (key_at s q) (key_at s p)) same ∙ sym t-is ∙ e);
  }

pub finding_end : (s index : List ℕ) (n p lo hi : ℕ) → Finding s index n p lo hi → hi ≤ lo → Found s index n p lo
finding_end s index n p lo hi h l =
    let m = h.most in
    let e : hi ≡ lo = le_antisymm l h.less in
    record { within = omega arith; low = h.low; high = λ r. subst (λ (k : ℕ). Every (λ q. before (key_at s q) (key_at s p) ≡ false) (drop k (take n index))) e (h.high r) }

-- ---- the loop of insert

pub record Shifting (entry : List ℕ) (at n p : ℕ) (index : List ℕ) (i carried : ℕ) : Type 0 where
  pub from : at ≤ i
  pub start : at ≤ n
  pub within : i ≤ n + 1
  pub room : n < length entry
  pub long : length index ≡ length entry
  pub small : carried < reach
  pub behind : drop i index ≡ drop i entry
  pub same : take i index ++ (carried ∷ drop i entry) ≡ take at entry ++ (p ∷ drop at entry)

pub shifting_start : (entry : List ℕ) (at n p : ℕ) → (at ≤ n) × (n < length entry) × (p < reach) → Shifting entry at n p entry at p
shifting_start entry at n p h = record { from = omega arith; start = h.0; within = omega (arith, h.0); room = h.1; long = refl; small = h.2; behind = refl; same = refl }

module _ (entry : List ℕ) (at n p : ℕ) (index index' : List ℕ) (i carried next : ℕ) (h : Shifting entry at n p index i carried) (l : i ≤ n) (next-is : next ≡ get_or index i 0)
    (less : next < reach) (index_is : index' ≡ set index i carried) where
  behind-next : drop (i + 1) index' ≡ drop (i + 1) entry
  behind-next = ap (drop (i + 1)) index_is ∙ drop-set-lt (i + 1) index i carried (omega arith) ∙ sym (drop-drop 1 i index) ∙ ap (drop 1) h.behind ∙ drop-drop 1 i entry

  front-next : take (i + 1) index' ≡ take i index ++ (carried ∷ [])
  front-next =
      let r = h.room in
      let z = h.long in
      ap (take (i + 1)) index_is ∙ ap (λ (k : ℕ). take k (set index i carried)) (add-one i) ∙ take-suc-set index i carried (omega arith)

  carried-next : next ≡ get_or entry i 0
  carried-next =
      next-is ∙ ap (λ (k : ℕ). get_or index k 0) (sym (add-zero i)) ∙ sym (get_or-drop i index 0 0) ∙ ap (λ (x : List ℕ). get_or x 0 0) h.behind ∙ get_or-drop i entry 0 0
      ∙ ap (λ (k : ℕ). get_or entry k 0) (add-zero i)

  pub shifting_next : Shifting entry at n p index' (i + 1) next
  shifting_next =
      let f = h.from in
      let r = h.room in
      let z = h.long in
      record {
        from = omega arith;
        start = h.start;
        within = omega arith;
        room = r;
        long = ap length index_is ∙ length-set index i carried ∙ z;
        small = less;
        behind = behind-next;
        same =
            ap (λ (x : List ℕ). x ++ (next ∷ drop (i + 1) entry)) front-next
            ∙ append_assoc (take i index) (carried ∷ []) (next ∷ drop (i + 1) entry)
            ∙ ap (λ (v : ℕ). take i index ++ (carried ∷ v ∷ drop (i + 1) entry)) carried-next
            ∙ ap (λ (x : List ℕ). take i index ++ (carried ∷ x)) (sym (at_place entry i (omega arith)))
            ∙ h.same;
      }

pub shifting_end : (entry : List ℕ) (at n p : ℕ) (index : List ℕ) (i carried : ℕ) → Shifting entry at n p index i carried → n < i → Inserted entry index at n p
shifting_end entry at n p index i carried h l =
    let w = h.within in
    let r = h.room in
    let z = h.long in
    let st = h.start in
    let e : i ≡ n + 1 = omega arith in
    let one : take (n + 1) (take i index ++ (carried ∷ drop i entry)) ≡ take (n + 1) index =
    ap (λ (k : ℕ). take (n + 1) (take k index ++ (carried ∷ drop k entry))) e ∙ take_at (take (n + 1) index) (carried ∷ drop (n + 1) entry) (n + 1) (length-take-le (n + 1) index (omega arith)) in
    let la : length (take at entry) ≡ at = length-take-le at entry (omega arith) in
    let k : n + 1 ≡ length (take at entry) + suc (n - at) = omega arith in
    let two : take (n + 1) (take at entry ++ (p ∷ drop at entry)) ≡ take at entry ++ (p ∷ take (n - at) (drop at entry)) =
    ap (λ (j : ℕ). take j (take at entry ++ (p ∷ drop at entry))) k ∙ take-append-add (take at entry) (p ∷ drop at entry) (suc (n - at)) in
    let m : n ≡ at + (n - at) = omega arith in
    let three : drop at (take n entry) ≡ take (n - at) (drop at entry) =
    ap (λ (j : ℕ). drop at (take j entry)) m ∙ ap (drop at) (take-add at (n - at) entry) ∙ drop_at (take at entry) (take (n - at) (drop at entry)) at la in
    record { holds = sym one ∙ ap (take (n + 1)) h.same ∙ two ∙ ap (λ (x : List ℕ). take at entry ++ (p ∷ x)) (sym three) }

-- ---- the returns of settle

module _ (last : Bool) (s entry : List ℕ) (n p at : ℕ) (room : n < length entry) (f : Found s entry n p at) where
  front : take at (take n entry) ≡ take at entry
  front = take-take at n entry f.within

  whole : take at (take n entry) ++ drop at (take n entry) ≡ take n entry
  whole = take-append-drop at (take n entry)

  held : length (take n entry) ≡ n
  held = length-take-le n entry (omega arith)

  module _ (rise : Ascends (key_at s) (take n entry)) where
    rise-both : Ascends (key_at s) (take at (take n entry) ++ drop at (take n entry))
    rise-both = subst (Ascends (key_at s)) (sym whole) rise

    low : Every (λ q. before (key_at s q) (key_at s p) ≡ true) (take at (take n entry))
    low = subst (Every (λ q. before (key_at s q) (key_at s p) ≡ true)) (sym front) (f.low rise)

    new : (exit : List ℕ) → Every (λ q. before (key_at s p) (key_at s q) ≡ true) (drop at (take n entry)) → Inserted entry exit at n p → take (n + 1) exit ≡ inserts (key_at s) last (take n entry) (p ∷ [])
    new exit u i =
        i.holds ∙ ap (λ (x : List ℕ). x ++ (p ∷ drop at (take n entry))) (sym front)
        ∙ sym (place-new (key_at s) last (take at (take n entry)) (drop at (take n entry)) p low rise-both u)
        ∙ ap (λ (x : List ℕ). inserts (key_at s) last x (p ∷ [])) whole

    module _ (less : at < n) where
      y-is : get_or (take n entry) at 0 ≡ get_or entry at 0
      y-is = get_or-take n entry at 0 less

      back : drop at (take n entry) ≡ get_or (take n entry) at 0 ∷ drop (suc at) (take n entry)
      back = drop-cons (take n entry) at 0 (omega (arith, held))

      rise-met : Ascends (key_at s) (take at (take n entry) ++ (get_or (take n entry) at 0 ∷ drop (suc at) (take n entry)))
      rise-met = subst (λ (x : List ℕ). Ascends (key_at s) (take at (take n entry) ++ x)) back rise-both

      whole-met : take at (take n entry) ++ (get_or (take n entry) at 0 ∷ drop (suc at) (take n entry)) ≡ take n entry
      whole-met = ap (λ (x : List ℕ). take at (take n entry) ++ x) (sym back) ∙ whole

      not-before : before (key_at s (get_or (take n entry) at 0)) (key_at s p) ≡ false
      not-before = every-head (λ q. before (key_at s q) (key_at s p) ≡ false) (get_or (take n entry) at 0) (drop (suc at) (take n entry)) (subst (Every (λ q. before (key_at s q) (key_at s p) ≡ false)) back (f.high rise))

      under : before (key_at s p) (key_at s (get_or entry at 0)) ≡ true → Every (λ q. before (key_at s p) (key_at s q) ≡ true) (drop at (take n entry))
      under e =
          subst (Every (λ q. before (key_at s p) (key_at s q) ≡ true)) (sym back)
          (first-before (key_at s) last p (get_or (take n entry) at 0) (drop (suc at) (take n entry)) (ap (λ (q : ℕ). before (key_at s p) (key_at s q)) y-is ∙ e)
          (ascends_head (key_at s) (get_or (take n entry) at 0) (drop (suc at) (take n entry)) (ascends_right (key_at s) (take at (take n entry)) (get_or (take n entry) at 0 ∷ drop (suc at) (take n entry)) rise-met)))

      equal : before (key_at s p) (key_at s (get_or entry at 0)) ≡ false → key_at s (get_or (take n entry) at 0) ≡ key_at s p
      equal e = before_total (key_at s (get_or (take n entry) at 0)) (key_at s p) not-before (ap (λ (q : ℕ). before (key_at s p) (key_at s q)) y-is ∙ e)

  read_as : (q : ℕ) (t b : Bool) → q ≡ get_or entry at 0 → t ≡ before (key_at s p) (key_at s q) → t ≡ b → before (key_at s p) (key_at s (get_or entry at 0)) ≡ b
  read_as q t b q-is e g = ap (λ (k : ℕ). before (key_at s p) (key_at s k)) (sym q-is) ∙ sym e ∙ g

  pub settled_before : (exit : List ℕ) (q : ℕ) (t : Bool) → at < n → q ≡ get_or entry at 0 → t ≡ before (key_at s p) (key_at s q) → t ≡ true → Inserted entry exit at n p → Settled last s entry exit n p (n + 1)
  settled_before exit q t less q-is e g i = record { within = omega arith; holds = λ rise. new rise exit (under rise less (read_as q t true q-is e g)) i }

  pub settled-last : (exit : List ℕ) → n ≤ at → Inserted entry exit at n p → Settled last s entry exit n p (n + 1)
  settled-last exit more i = record {
    within = omega arith;
    holds = λ rise. new rise exit (subst (Every (λ q. before (key_at s p) (key_at s q) ≡ true)) (sym (drop_of_length-le (take n entry) {i = at} (omega (arith, held)))) none) i;
  }

  pub settled-later : (exit : List ℕ) (q : ℕ) (t : Bool) → at < n → q ≡ get_or entry at 0 → t ≡ before (key_at s p) (key_at s q) → t ≡ false → last ≡ true → exit ≡ set entry at p → Settled last s entry exit n p n
  settled-later exit q t less q-is e g j exit-is = record {
    within = omega arith;
    holds = λ rise.
        ap (take n) exit-is ∙ take-set-lt n entry at p less ∙ set_split (take n entry) at p (omega (arith, held))
        ∙ sym (place-later (key_at s) last (take at (take n entry)) (drop (suc at) (take n entry)) p (get_or (take n entry) at 0) (low rise) (rise-met rise less) (equal rise less (read_as q t false q-is e g)) j)
        ∙ ap (λ (x : List ℕ). inserts (key_at s) last x (p ∷ [])) (whole-met rise less);
  }

  pub settled-earlier : (q : ℕ) (t : Bool) → at < n → q ≡ get_or entry at 0 → t ≡ before (key_at s p) (key_at s q) → t ≡ false → last ≡ false → Settled last s entry entry n p n
  settled-earlier q t less q-is e g j = record {
    within = omega arith;
    holds = λ rise.
        sym (whole-met rise less)
        ∙ sym (place-earlier (key_at s) last (take at (take n entry)) (drop (suc at) (take n entry)) p (get_or (take n entry) at 0) (low rise) (rise-met rise less) (equal rise less (read_as q t false q-is e g)) j)
        ∙ ap (λ (x : List ℕ). inserts (key_at s) last x (p ∷ [])) (whole-met rise less);
  }
