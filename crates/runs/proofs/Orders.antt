-- What a sort leaves, and what is left of it with 0 behind.
-- Assumes nothing.
use mathlib.Core.Path.{◌≡◌, refl, ap, sym, ◌∙◌, subst}
use mathlib.Core.Bool.{Bool, true}
use mathlib.Core.List.{List, [], ◌∷◌, ◌++◌, append-nil}
use Prim.Native.Nat.{ℕ, suc, ◌+◌, ◌-◌, ◌≤◌, ◌<◌}
use native.Mathlib.Omega.{arith}
use lib.ListN.{length, take, drop, replicate, length-append, length-drop, drop_of_length-le}
use lib.Seq.{take_all, take_at, drop_at, length-take-le, length_front, take-append-le, take-length}
use borrow.Rule.Slice.PartMut.{put_mid}
use Rattle.lent.specs.Put.{Puts}
use Rattle.order.specs.Order.{arranged}
use Rattle.order.proofs.Everies.{every-left, every-right, every-head, all-every}
use Rattle.order.proofs.Inserts.{arranged-append, insert-none}
use Rattle.order.proofs.Arranges.{every-arranged, ascends_arranged}
use Rattle.runs.specs.Run.{key, run, plain}
use Rattle.runs.specs.Arrange.{ArrangedAs}
use Rattle.runs.specs.Piece.{piece}
use Rattle.runs.specs.Place.{Plain, Halved}
use Rattle.runs.specs.Merge.{Front, Merged, Sorted}
use Rattle.runs.proofs.Runs.{run-nil, run-append, run_long, run_none, cut_at, piece-at}
use Rattle.runs.proofs.Splits.{part-two, three-room, drawn, drawn-within, drawn-exit}

arranged-nil : (last : Bool) → arranged key last [] ≡ []
unfolding arranged
arranged-nil last = refl

arranged-one : (last : Bool) (r : List ℕ) → arranged key last (r ∷ []) ≡ r ∷ []
unfolding arranged
arranged-one last r = insert-none key last r

pub sorted_none : (last : Bool) (s : List ℕ) → length s ≡ 0 → Sorted last s s 0
sorted_none last s z = record {
  within = omega arith;
  made = λ rs ok is.
      let e : rs ≡ [] = run_none rs (sym (ap length is) ∙ z) in
      let w : run (arranged key last rs) ≡ [] = ap (λ (x : List (List ℕ)). run (arranged key last x)) e ∙ ap run (arranged-nil last) ∙ run-nil in
      record { long = sym (ap length w); bytes = sym w };
}

-- what is tried and not done leaves the list as it was
pub sorted-from : (last : Bool) (s v exit : List ℕ) (r : ℕ) → v ≡ s → Sorted last v exit r → Sorted last s exit r
sorted-from last s v exit r e h = subst (λ (x : List ℕ). Sorted last x exit r) e h

pub sorted-one : (last : Bool) (s v : List ℕ) (k : ℕ) → (length s ≡ 0 → ⊥) → v ≡ s → Halved v (length v) k → k ≡ 0 → Sorted last s v (length v)
sorted-one last s v k some e h one =
    sorted-from last s v v (length v) e (record {
      within = omega arith;
      made = λ rs ok is. go rs ok is;
    })
  where
    go : (rs : List (List ℕ)) → Plain rs → v ≡ run rs → Front v (length v) (run (arranged key last rs))
    go [] ok is = absurd (some (sym (ap length e) ∙ ap length is ∙ ap length run-nil))
    go (x ∷ xs) ok is =
        let long : length (piece v) ≡ suc (length x) = ap length (piece-at v 0 x xs [] (every-head (λ r. plain r ≡ true) x xs ok) (is ∙ sym (append-nil (run (x ∷ xs))))) ∙ length-append x (0 ∷ []) ∙ omega arith in
        let e : xs ≡ [] = run_none xs (omega (arith, h.one one, ap length is, run_long x xs)) in
        let w : v ≡ run (arranged key last (x ∷ xs)) = is ∙ ap (λ (r : List (List ℕ)). run (x ∷ r)) e ∙ ap run (sym (arranged-one last x)) ∙ ap (λ (r : List (List ℕ)). run (arranged key last (x ∷ r))) (sym e) in
        record { long = ap length w; bytes = take-length v ∙ w }

-- ---- two parts

pub left-falls : (v : List ℕ) (k t n : ℕ) → Halved v (length v) k → length v ≡ n → n ≡ t → length (take k v) < t
left-falls v k t n h e f = let a = h.less in omega (arith, length-take-le k v (omega arith))

pub right-falls : (v L : List ℕ) (k t n : ℕ) → Halved v (length v) k → (k ≡ 0 → ⊥) → length v ≡ n → n ≡ t → length L ≡ length (take k v)
    → length (take (length (L ++ drop k v) - k) (drop k (L ++ drop k v))) < t
right-falls v L k t n h some e f len =
    let a = h.less in
    let ll : length L ≡ k = len ∙ length-take-le k v (omega arith) in
    let d : drop k (L ++ drop k v) ≡ drop k v = drop_at L (drop k v) k ll in
    let lt : length (L ++ drop k v) ≡ length v = length-append L (drop k v) ∙ omega (arith, length-drop k v) in
    omega (arith, ap length (take_all (length (L ++ drop k v) - k) (drop k (L ++ drop k v)) (omega (arith, ap length d, length-drop k v)) ∙ d), length-drop k v)

module _ (last : Bool) (v L Z : List ℕ) (k m n : ℕ) (h : Halved v (length v) k) (len-l : length L ≡ length (take k v)) (one : Sorted last (take k v) L m)
    (len-z : length Z ≡ length (take (length (L ++ drop k v) - k) (drop k (L ++ drop k v))))
    (other : Sorted last (take (length (L ++ drop k v) - k) (drop k (L ++ drop k v))) Z n) where
  within : k ≤ length v
  within = let a = h.less in omega arith

  fit_m : m ≤ k
  fit_m = let w = within in omega (arith, one.within, length-take-le k v (omega arith))

  fit_n : n ≤ length Z
  fit_n = omega (arith, other.within)

  pub sorted-room : (m ≤ k) × (k + n ≤ length (put_mid k (length (L ++ drop k v) - k) (L ++ drop k v) Z))
  sorted-room = three-room v L Z [] k m n 0 within len-l len-z fit_m fit_n

  module _ (w : List ℕ) (e : ℕ) (p : Puts (put_mid k (length (L ++ drop k v) - k) (L ++ drop k v) Z) w m (take n (drop k (put_mid k (length (L ++ drop k v) - k) (L ++ drop k v) Z))) e) where
    pub sorted-within : e ≤ length w
    sorted-within = omega (arith, drawn-within v L Z w k m n e within len-l len-z fit_m fit_n p, drawn-exit v L Z w k m n e within len-l len-z fit_m fit_n p)

    pub sorted-long : length w ≡ length v
    sorted-long = drawn-exit v L Z w k m n e within len-l len-z fit_m fit_n p

    pub sorted-kept : (M s : List ℕ) → length v ≡ length s → length M ≡ length (take e w) → length (M ++ drop e w) ≡ length s
    sorted-kept M s q len = length_front w M e len ∙ sorted-long ∙ q

    module _ (M : List ℕ) (r : ℕ) (len-m : length M ≡ length (take e w)) (g : Merged last m (take e w) M r) where
      short : length (take e w) ≡ e
      short = let fit = sorted-within in length-take-le e w (omega arith)

      -- the records of the two parts, arranged and merged
      joined : (rs us vs : List (List ℕ)) → Plain rs → v ≡ run rs → rs ≡ us ++ vs → k ≡ 0 + length (run us) → Front (M ++ drop e w) r (run (arranged key last rs))
      joined rs us vs ok is parts place =
          let both : v ≡ run us ++ run vs = is ∙ ap run parts ∙ run-append us vs in
          let at-k : length (run us) ≡ k = omega (arith, place) in
          let p1 : take k v ≡ run us = ap (take k) both ∙ take_at (run us) (run vs) k at-k in
          let p2 : take (length (L ++ drop k v) - k) (drop k (L ++ drop k v)) ≡ run vs =
          part-two v L Z w k m n e within len-l len-z fit_m ∙ ap (drop k) both ∙ drop_at (run us) (run vs) k at-k in
          let ok-us : Plain us = every-left (λ r. plain r ≡ true) us vs (subst Plain parts ok) in
          let ok-vs : Plain vs = every-right (λ r. plain r ≡ true) us vs (subst Plain parts ok) in
          let f1 : Front L m (run (arranged key last us)) = one.made us ok-us p1 in
          let f2 : Front Z n (run (arranged key last vs)) = other.made vs ok-vs p2 in
          let f : Front M r (run (arranged key last rs)) = g.made (run (arranged key last rs)) (record {
            us = arranged key last us;
            bs = arranged key last vs;
            plain-us = every-arranged key last (λ r. plain r ≡ true) us ok-us;
            plain-bs = every-arranged key last (λ r. plain r ≡ true) vs ok-vs;
            rise-us = ascends_arranged key last us;
            rise-bs = ascends_arranged key last vs;
            parts = drawn v L Z w k m n e within len-l len-z fit_m fit_n p ∙ ap (λ (x : List ℕ). x ++ take n Z) f1.bytes ∙ ap (λ (x : List ℕ). run (arranged key last us) ++ x) f2.bytes;
            seam = f1.long;
            makes = ap run (sym (ap (arranged key last) parts ∙ arranged-append key last us vs));
          }) in
          record { long = f.long; bytes = take-append-le r M (drop e w) (let gw = g.within in omega (arith, len-m)) ∙ f.bytes }

      pub sorted-two : Sorted last v (M ++ drop e w) r
      sorted-two = record {
        within = let fit = sorted-within in let lw = sorted-long in let l1 = short in let gw = g.within in omega arith;
        made = λ rs ok is.
            let a = h.less in
            let c = cut_at v 0 k rs [] ok (is ∙ sym (append-nil (run rs))) (omega arith) (omega (arith, ap length is)) h.edge in
            joined rs c.ones c.twos ok is c.parts c.place;
      }

-- ---- arrange

pub arranged-all : (last : Bool) (s v R : List ℕ) (r : ℕ) → length v ≡ length s → Sorted last s v r → R ≡ replicate (length (take (length v - r) (drop r v))) 0
    → ArrangedAs last s (put_mid r (length v - r) v R) r
arranged-all last s v R r len h z rs ok is =
    let f = h.made rs (all-every plain rs ok) is in
    let w = h.within in
    let n : length (take (length v - r) (drop r v)) ≡ length s - r = ap length (take_all (length v - r) (drop r v) (omega (arith, length-drop r v))) ∙ length-drop r v ∙ ap (λ (x : ℕ). x - r) len in
    record {
      long = f.long;
      bytes =
          ap (λ (x : List ℕ). take r v ++ (R ++ x)) (drop_of_length-le (drop r v) {i = length v - r} (omega (arith, length-drop r v)))
          ∙ ap (λ (x : List ℕ). take r v ++ x) (append-nil R ∙ z ∙ ap (λ (x : ℕ). replicate x 0) n) ∙ ap (λ (x : List ℕ). x ++ replicate (length s - r) 0) f.bytes;
    }
