-- A place looked for by halving.
-- Assumes nothing.
use mathlib.Core.Path.{◌≡◌, ap, sym, ◌∙◌, subst}
use mathlib.Core.Bool.{Bool, true, false}
use mathlib.Core.List.{List, [], ◌∷◌, ◌++◌, append_assoc, append-nil}
use Prim.Native.Nat.{ℕ, suc, ◌+◌, ◌-◌, ◌/◌, ◌≤◌, ◌<◌}
use native.Mathlib.Omega.{arith}
use lib.ListN.{length, drop, length-drop}
use Rattle.ground.proofs.Tests.{by_test}
use Rattle.order.specs.Order.{before}
use Rattle.order.specs.Every.{Every, none, also, Ascends}
use Rattle.order.proofs.Befores.{never, before_transitive}
use Rattle.order.proofs.Everies.{every_map, every_append, every-left, every-right, every-head, ascends_left, ascends_right, ascends_head, ascends_across}
use Rattle.runs.specs.Run.{key, run, plain}
use Rattle.runs.specs.Piece.{key_at}
use Rattle.runs.specs.Place.{Plain, Ended, Begun, Lower}
use Rattle.runs.proofs.Pieces.{ended-more}
use Rattle.runs.proofs.Runs.{run-nil, run-append, run-both, run_long, run_none, Cut, cut_at, drop-run, key-at, end-at}

pub record Between (bs : List (List ℕ)) (word : List ℕ) (from lo hi : ℕ) : Type 0 where
  pub ones : List (List ℕ)
  pub mids : List (List ℕ)
  pub twos : List (List ℕ)
  pub parts : bs ≡ ones ++ (mids ++ twos)
  pub low-place : lo ≡ from + length (run ones)
  pub high-place : hi ≡ lo + length (run mids)
  pub low : Every (λ b. before (key b) word ≡ true) ones
  pub high : Every (λ b. before (key b) word ≡ false) twos

pub record Halving (s : List ℕ) (x from lo hi : ℕ) : Type 0 where
  pub least : from ≤ lo
  pub within : lo ≤ length s
  pub most : hi ≤ length s
  pub between : (bs : List (List ℕ)) → Plain bs → Ascends key bs → drop from s ≡ run bs → Between bs (key_at s x) from lo hi

pub halving_start : (s : List ℕ) (x from : ℕ) → from ≤ length s → Halving s x from from (length s)
halving_start s x from h = record {
  least = omega arith;
  within = h;
  most = omega arith;
  between = λ bs ok rise is. record {
    ones = [];
    mids = bs;
    twos = [];
    parts = sym (append-nil bs);
    low-place = omega (arith, ap length run-nil);
    high-place = omega (arith, sym (length-drop from s) ∙ ap length is);
    low = none;
    high = none;
  };
}

-- the record at a place inside
record Mid (s : List ℕ) (mids twos : List (List ℕ)) (lo p : ℕ) : Type 0 where
  fore : List (List ℕ)
  r : List ℕ
  hind : List (List ℕ)
  parts : mids ≡ fore ++ (r ∷ hind)
  place : p ≡ lo + length (run fore)
  ok : plain r ≡ true
  there : drop p s ≡ run (r ∷ hind) ++ run twos

mid-of : (s : List ℕ) (mids twos : List (List ℕ)) (lo p : ℕ) → Plain mids → drop lo s ≡ run mids ++ run twos → p < lo + length (run mids) → Cut mids lo p → Mid s mids twos lo p
mid-of s mids twos lo p ok is l c = go c.ones c.twos c.parts c.place
  where
    go : (fore hind : List (List ℕ)) → mids ≡ fore ++ hind → p ≡ lo + length (run fore) → Mid s mids twos lo p
    go fore [] parts place = absurd (omega (arith, ap (λ (x : List (List ℕ)). length (run x)) (parts ∙ append-nil fore)))
    go fore (r ∷ hind) parts place = record {
      fore = fore;
      r = r;
      hind = hind;
      parts = parts;
      place = place;
      ok = every-head (λ r. plain r ≡ true) r hind (every-right (λ r. plain r ≡ true) fore (r ∷ hind) (subst Plain parts ok));
      there = drop-run s lo p fore (r ∷ hind) mids (run twos) is parts place;
    }

module _ (s : List ℕ) (x from lo hi p : ℕ) (h : Halving s x from lo hi) (less : lo < hi) (b : Begun s lo (lo + (hi - lo) / 2) p) where
  pub inside : p < hi
  inside = let m = b.most in omega arith

  module _ (bs : List (List ℕ)) (ok : Plain bs) (rise : Ascends key bs) (is : drop from s ≡ run bs) where
    w : Between bs (key_at s x) from lo hi
    w = h.between bs ok rise is

    ok-both : Plain (w.mids ++ w.twos)
    ok-both = every-right (λ r. plain r ≡ true) w.ones (w.mids ++ w.twos) (subst Plain w.parts ok)

    rise-all : Ascends key (w.ones ++ (w.mids ++ w.twos))
    rise-all = subst (Ascends key) w.parts rise

    rise-both : Ascends key (w.mids ++ w.twos)
    rise-both = ascends_right key w.ones (w.mids ++ w.twos) rise-all

    at_lo : drop lo s ≡ run w.mids ++ run w.twos
    at_lo =
        drop-run s from lo w.ones (w.mids ++ w.twos) bs [] (is ∙ sym (append-nil (run bs))) w.parts w.low-place
        ∙ append-nil (run (w.mids ++ w.twos)) ∙ run-append w.mids w.twos

    d : Mid s w.mids w.twos lo p
    d = let i = inside in
        let z = w.high-place in
        let ok-mids : Plain w.mids = every-left (λ r. plain r ≡ true) w.mids w.twos ok-both in
        mid-of s w.mids w.twos lo p ok-mids at_lo (omega arith)
        (cut_at s lo p w.mids (run w.twos) ok-mids at_lo b.least (omega arith) b.edge)

    key_of : key_at s p ≡ key d.r
    key_of = key-at s p d.r d.hind (run w.twos) d.ok d.there

    rise-mids : Ascends key (d.fore ++ (d.r ∷ d.hind))
    rise-mids = subst (Ascends key) d.parts (ascends_left key w.mids w.twos rise-both)

    below : before (key_at s p) (key_at s x) ≡ true → (e : ℕ) → Ended s p e → Between bs (key_at s x) from e hi
    below t e n =
        let k : before (key d.r) (key_at s x) ≡ true = subst (λ (v : List ℕ). before v (key_at s x) ≡ true) key_of t in
        let q : e ≡ p + suc (length d.r) = end-at s p e d.r d.hind (run w.twos) d.ok d.there n in
        let l1 : length (run w.mids) ≡ length (run d.fore) + length (run (d.r ∷ d.hind)) = ap (λ (y : List (List ℕ)). length (run y)) d.parts ∙ run-both d.fore (d.r ∷ d.hind) in
        let l2 : length (run (w.ones ++ (d.fore ++ (d.r ∷ [])))) ≡ length (run w.ones) + (length (run d.fore) + length (run (d.r ∷ []))) =
        run-both w.ones (d.fore ++ (d.r ∷ [])) ∙ ap (λ (y : ℕ). length (run w.ones) + y) (run-both d.fore (d.r ∷ [])) in
        record {
          ones = w.ones ++ (d.fore ++ (d.r ∷ []));
          mids = d.hind;
          twos = w.twos;
          parts = w.parts ∙ ap (λ (y : List (List ℕ)). w.ones ++ (y ++ w.twos)) d.parts ∙ simp append_assoc;
          low-place = let u = w.low-place in let v = d.place in omega (arith, q, l2, run_long d.r [], ap length run-nil);
          high-place = let u = w.high-place in let v = d.place in omega (arith, q, l1, run_long d.r d.hind);
          low = every_append (λ b. before (key b) (key_at s x) ≡ true) w.ones (d.fore ++ (d.r ∷ [])) w.low
              (every_append (λ b. before (key b) (key_at s x) ≡ true) d.fore (d.r ∷ [])
              (every_map (λ y. Every (λ z. before (key y) (key z) ≡ true) (d.r ∷ d.hind)) (λ b. before (key b) (key_at s x) ≡ true)
              (λ y f. before_transitive (key y) (key d.r) (key_at s x) (every-head (λ z. before (key y) (key z) ≡ true) d.r d.hind f) k) d.fore
              (ascends_across key d.fore (d.r ∷ d.hind) rise-mids))
              (also k none));
          high = w.high;
        }

    above : before (key_at s p) (key_at s x) ≡ false → Between bs (key_at s x) from lo p
    above t =
        let k : before (key d.r) (key_at s x) ≡ false = subst (λ (v : List ℕ). before v (key_at s x) ≡ false) key_of t in
        record {
          ones = w.ones;
          mids = d.fore;
          twos = (d.r ∷ d.hind) ++ w.twos;
          parts = w.parts ∙ ap (λ (y : List (List ℕ)). w.ones ++ (y ++ w.twos)) d.parts ∙ ap (λ (y : List (List ℕ)). w.ones ++ y) (append_assoc d.fore (d.r ∷ d.hind) w.twos);
          low-place = w.low-place;
          high-place = d.place;
          low = w.low;
          high = every_append (λ b. before (key b) (key_at s x) ≡ false) (d.r ∷ d.hind) w.twos
              (also k (every_map (λ z. before (key d.r) (key z) ≡ true) (λ b. before (key b) (key_at s x) ≡ false)
              (λ z f. by_test (before (key z) (key_at s x)) (λ g. never (sym (before_transitive (key d.r) (key z) (key_at s x) f g) ∙ k)) (λ g. g)) d.hind
              (ascends_head key d.r d.hind (ascends_right key d.fore (d.r ∷ d.hind) rise-mids))))
              w.high;
        }

  pub halving_up : (t : Bool) (e lo' hi' : ℕ) → t ≡ before (key_at s p) (key_at s x) → t ≡ true → Ended s p e → lo' ≡ e → hi' ≡ hi → Halving s x from lo' hi'
  halving_up t e lo' hi' f g n i j =
      let up : Halving s x from e hi = record {
        least = let z = ended-more s p e n (let a = inside in let c = h.most in omega arith) in let a = h.least in let c = b.least in omega arith;
        within = n.within;
        most = h.most;
        between = λ bs ok rise is. below bs ok rise is (sym f ∙ g) e n;
      } in
      subst (λ (k : ℕ). Halving s x from k hi') (sym i) (subst (λ (k : ℕ). Halving s x from e k) (sym j) up)

  pub halving_down : (t : Bool) (lo' hi' : ℕ) → t ≡ before (key_at s p) (key_at s x) → t ≡ false → lo' ≡ lo → hi' ≡ p → Halving s x from lo' hi'
  halving_down t lo' hi' f g i j =
      let down : Halving s x from lo p = record {
        least = h.least;
        within = h.within;
        most = let a = inside in let c = h.most in omega arith;
        between = λ bs ok rise is. above bs ok rise is (sym f ∙ g);
      } in
      subst (λ (k : ℕ). Halving s x from k hi') (sym i) (subst (λ (k : ℕ). Halving s x from lo k) (sym j) down)

  pub falls-up : (e lo' hi' : ℕ) → Ended s p e → lo' ≡ e → hi' ≡ hi → hi' - lo' < hi - lo
  falls-up e lo' hi' n i j = let z = ended-more s p e n (let a = inside in let c = h.most in omega arith) in let c = b.least in omega arith

  pub falls_down : (lo' hi' : ℕ) → lo' ≡ lo → hi' ≡ p → hi' - lo' < hi - lo
  falls_down lo' hi' i j = let a = inside in omega arith

pub halving_end : (s : List ℕ) (x from lo hi : ℕ) → Halving s x from lo hi → hi ≤ lo → Lower s x from lo
halving_end s x from lo hi h l = record {
  within = h.within;
  least = h.least;
  parted = λ bs ok rise is.
      let w = h.between bs ok rise is in
      let z : w.mids ≡ [] = run_none w.mids (let a = w.high-place in omega arith) in
      record {
        ones = w.ones;
        twos = w.twos;
        parts = w.parts ∙ ap (λ (y : List (List ℕ)). w.ones ++ (y ++ w.twos)) z;
        place = w.low-place;
        low = w.low;
        high = w.high;
      };
}
