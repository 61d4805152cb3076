-- The chain of a body a step at a time, and one law for each way out of the matching of a step.
-- Assumes nothing.
use Rattle.std.proofs.Common.{None, Option, Some}
use mathlib.Core.Path.{◌≡◌, refl, sym, ap, ◌∙◌, subst}
use mathlib.Core.Bool.{true, false, true≢false}
use mathlib.Core.List.{List}
use Prim.Native.Nat.{ℕ, ◌+◌, ◌<◌}
use native.Mathlib.Omega.{arith}
use lib.ListN.{length}
use Rattle.ground.specs.Bytes.{bytes}
use Rattle.arena.specs.Node.{after_at}
use Rattle.arena.specs.Text.{same_text, text_is}
use Rattle.arena.specs.Tree.{Tree, Trees, bit_vec, numeral, string, symbol, app, nil, cons}
use Rattle.shapes.specs.Shape.{on_symbol, on_app}
use Rattle.arena.proofs.Layouts.{stands-longer, stands_after}
use Rattle.arena.proofs.Views.{node-within}
use Rattle.shapes.specs.Shows.{Standing, StandingAll, Reads, WordAt, PartsAt}
use Rattle.shapes.proofs.Stood.{first_of, others-of, said-so, said-name}
use Rattle.shapes.proofs.Seen.{not-word, by_word, not-list, by-list}
use Rattle.shapes.proofs.Arms.{not-symbol}
use Rattle.commands.specs.Command.{default, arm, chain}
use Rattle.commands.specs.LinkShows.{ite, LinkShows, LinkAt}
use Rattle.commands.specs.declared.chain.Link.{Link}
use Rattle.shapes.specs.declared.look.Word.{Word}

-- a tree stands within the words
pub standing-within : (t : Tree) (ws ts : List ℕ) (at : ℕ) → Standing t ws ts at → at < length ws
standing-within (bit_vec w n) ws ts at s = let z = node-within ws at s.there.here refl in omega arith
standing-within (numeral n) ws ts at s = let z = node-within ws at s.there.here refl in omega arith
standing-within (string t) ws ts at s = let z = node-within ws at s.there.here refl in omega arith
standing-within (symbol t) ws ts at s = let z = node-within ws at s.there.here refl in omega arith
standing-within (app us) ws ts at s = let z = node-within ws at s.there.here refl in omega arith

-- what a step was seen as, said of the tree that stands there
pub shown-link : (ws ts : List ℕ) (at : ℕ) (q p : Option Link) → q ≡ p → LinkAt ws ts at q → LinkAt ws ts at p
shown-link ws ts at q p e k t s = subst (λ (y : Option Link). LinkShows ws ts at y t) e (k t s)

pub chain-arm : (b c d : Tree) → chain (ite b c d) ≡ arm b c (chain d)
unfolding chain same_text
chain-arm b c d = refl

chain-atom : (t : Tree) → on_app t false (λ us. true) ≡ false → chain t ≡ default t
unfolding chain
chain-atom (bit_vec w n) e = refl
chain-atom (numeral n) e = refl
chain-atom (string s) e = refl
chain-atom (symbol s) e = refl
chain-atom (app us) e = absurd (true≢false e)

abbrev four : Tree → Tree → Tree → Tree → Tree
four a b c d = app (cons a (cons b (cons c (cons d nil))))

chain_headless : (a b c d : Tree) → on_symbol a false (λ s. true) ≡ false → chain (four a b c d) ≡ default (four a b c d)
unfolding chain
chain_headless a b c d e = not-symbol a _ _ e

chain-other : (f : List ℕ) (b c d : Tree) → same_text f (bytes "ite") ≡ false → chain (four (symbol f) b c d) ≡ default (four (symbol f) b c d)
unfolding chain
chain-other f b c d e = rw e

-- a tree ends behind its node
later : (ws ts : List ℕ) (t : Tree) (i : ℕ) → Standing t ws ts i → i < after_at ws i
later ws ts t i s =
    let p = stands-longer ws ts t i s.next s.from s.rest s.there in
    subst (λ (j : ℕ). i < j) (stands_after ws ts t i s.next s.from s.rest s.there) p

module _ (ws ts : List ℕ) (i : ℕ) (l : Option ℕ) (h : PartsAt ws i l) where
  pub link-atom : l ≡ None → LinkAt ws ts i None
  link-atom e t s = chain-atom t (not-list ws i l h e ts t s)

  module _ (many : ℕ) (e : l ≡ Some many) where
    not-four : (us : Trees) → (many ≡ 4 → ⊥) → StandingAll us ws ts (i + 1) many → chain (app us) ≡ default (app us)
    unfolding chain
    not-four nil z s = refl
    not-four (cons a nil) z s = refl
    not-four (cons a (cons b nil)) z s = refl
    not-four (cons a (cons b (cons c nil))) z s = refl
    not-four (cons a (cons b (cons c (cons d nil)))) z s = absurd (z s.many-are)
    not-four (cons a (cons b (cons c (cons d (cons f us))))) z s = refl

    pub link-parts : (many ≡ 4 → ⊥) → LinkAt ws ts i None
    link-parts z t s = by-list ws i l h many e ts (λ (x : Tree). chain x ≡ default x) (λ us g. not-four us z g) t s

    module _ (z : many ≡ 4) (head : ℕ) (begins : head ≡ i + 1) where
      -- it is enough to look at four parts
      by-four : (f : Option Link) → ((a b c d : Tree) → StandingAll (cons a (cons b (cons c (cons d nil)))) ws ts head 4 → LinkShows ws ts i f (four a b c d)) → LinkAt ws ts i f
      by-four f k t s = by-list ws i l h many e ts (λ (x : Tree). LinkShows ws ts i f x) all t s
        where
          all : (us : Trees) → StandingAll us ws ts (i + 1) many → LinkShows ws ts i f (app us)
          all nil s = let c = s.many-are in absurd (omega arith)
          all (cons a nil) s = let c = s.many-are in absurd (omega arith)
          all (cons a (cons b nil)) s = let c = s.many-are in absurd (omega arith)
          all (cons a (cons b (cons c nil))) s = let c = s.many-are in absurd (omega arith)
          all (cons a (cons b (cons c (cons d nil)))) s =
              k a b c d
              (subst (λ (n : ℕ). StandingAll (cons a (cons b (cons c (cons d nil)))) ws ts n 4) (sym begins)
              (subst (λ (n : ℕ). StandingAll (cons a (cons b (cons c (cons d nil)))) ws ts (i + 1) n) z s))
          all (cons a (cons b (cons c (cons d (cons g us))))) s = let c = s.many-are in absurd (omega arith)

      module _ (w : Option Word) (m : WordAt ws head w) where
        pub link_headless : w ≡ None → LinkAt ws ts i None
        link_headless q = by-four None (λ a b c d s. chain_headless a b c d (not-word ws head w m ts q a (first_of ws ts a (cons b (cons c (cons d nil))) head 4 s)))

        module _ (size offset : ℕ) (q : w ≡ Some (record { size = size; offset = offset })) where
          by-head : (f : Option Link) → ((word : List ℕ) (b c d : Tree) → Reads word ts offset size → StandingAll (cons (symbol word) (cons b (cons c (cons d nil)))) ws ts head 4 → LinkShows ws ts i f (four (symbol word) b c d)) → LinkAt ws ts i f
          by-head f k =
              by-four f
              (λ a b c d s. by_word ws head w m ts size offset q (λ (x : Tree). StandingAll (cons x (cons b (cons c (cons d nil)))) ws ts head 4 → LinkShows ws ts i f (four x b c d))
              (λ word r g. k word b c d r g) a (first_of ws ts a (cons b (cons c (cons d nil))) head 4 s) s)

          pub link-other : text_is ts offset size (bytes "ite") ≡ false → LinkAt ws ts i None
          link-other t = by-head None (λ word b c d r s. chain-other word b c d (said-so ts offset size word r (bytes "ite") false t))

          behind : (p q r s : ℕ) → q ≡ after_at ws p → r ≡ after_at ws q → s ≡ after_at ws r → i < p → {a b c : Tree} → Standing a ws ts p → Standing b ws ts q → Standing c ws ts r → i < s
          behind p q r s f g k less {a = a} {b = b} {c = c} x y z =
              let u = later ws ts a p x in
              let v = later ws ts b q y in
              let n = later ws ts c r z in
              omega arith

          pub link-arm : text_is ts offset size (bytes "ite") ≡ true → (test : ℕ) → test ≡ after_at ws head → (value : ℕ) → value ≡ after_at ws test → (rest : ℕ) → rest ≡ after_at ws value →
              LinkAt ws ts i (Some (record { test = test; value = value; rest = rest }))
          link-arm t test x value y rest v =
              by-head (Some (record { test = test; value = value; rest = rest }))
              (λ word b c d r s.
              let ites : four (symbol word) b c d ≡ ite b c d = ap (λ (f : List ℕ). four (symbol f) b c d) (said-name ts offset size word r (bytes "ite") t) in
              let one = others-of ws ts (symbol word) (cons b (cons c (cons d nil))) head 4 s test 3 x refl in
              let two = others-of ws ts b (cons c (cons d nil)) test 3 one value 2 y refl in
              let three = others-of ws ts c (cons d nil) value 2 two rest 1 v refl in
              (b, c, d, ites, ap chain ites ∙ chain-arm b c d, first_of ws ts b (cons c (cons d nil)) test 3 one, first_of ws ts c (cons d nil) value 2 two, first_of ws ts d nil rest 1 three, behind head test value rest x y v (omega arith) (first_of ws ts (symbol word) (cons b (cons c (cons d nil))) head 4 s) (first_of ws ts b (cons c (cons d nil)) test 3 one) (first_of ws ts c (cons d nil) value 2 two)))
