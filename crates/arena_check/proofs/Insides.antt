-- Where a tree stands, each of its nodes is right.
-- Assumes nothing.
use mathlib.Core.Path.{◌≡◌, refl, sym, ap, ap₂, ◌∙◌, subst}
use mathlib.Core.Bool.{true}
use mathlib.Core.List.{List, []}
use Prim.Native.Nat.{ℕ, ◌+◌, ◌/◌, ◌%◌, ◌^◌, ◌≤◌, ◌<◌}
use native.Mathlib.Nat.{div-lt_iff_lt-mul, mod-lt}
use native.Mathlib.Omega.{arith}
use lib.ListN.{length}
use lib.Pow.{pow_pos}
use Rattle.ground.proofs.Tests.{by_order}
use Rattle.words.proofs.Numbers.{value-pair}
use Rattle.utf8.specs.Octets.{utf8}
use Rattle.arena.specs.declared.node.Node.{Node}
use Rattle.arena.specs.declared.node.Node.TheVariants.{App}
use Rattle.arena.specs.Tree.{Tree, Trees, bit_vec, numeral, string, symbol, app, nil, cons, count, BitVector, Sound, SoundAll}
use Rattle.arena.specs.Node.{node_at, after_at}
use Rattle.arena.specs.Stands.{Atom, TreeStands, StandAll}
use Rattle.arena.proofs.Layouts.{stands-longer, stand-longer, stands_after}
use Rattle.arena_check.specs.Right.{Right, Words, Written, Chain, takes}
use Rattle.arena_check.proofs.Offsets.{offset, offset-behind, RightAt}

words_of : (n : ℕ) → n < 2 ^ 128 → Words (n % 2 ^ 64) (n / 2 ^ 64)
words_of n h = record { low_fits = mod-lt n (pow_pos 64); high_fits = (div-lt_iff_lt-mul {k = 2 ^ 64} (pow_pos 64)).1 h }

module _ (ws ts : List ℕ) where
  chained : (us : Trees) (p e x y : ℕ) → StandAll us ws ts p e x y → Chain (count us) ws p e
  chained nil p e x y s = sym s.next
  chained (cons t us) p e x y s =
      let a : s.mid ≡ after_at ws p = stands_after ws ts t p s.mid x s.off s.first in
      let b = stands-longer ws ts t p s.mid x s.off s.first in
      let c = stand-longer ws ts us s.mid e s.off y s.others in
      record {
        onward = omega arith;
        within = omega arith;
        others = subst (λ (m : ℕ). Chain (count us) ws m e) a (chained us s.mid e s.off y s.others);
      }

  text-right : (node : Node) (s : List ℕ) (i j x y : ℕ) → Atom node s ws ts i j x y → utf8 s ≡ true → Written ts (length s) x x
  text-right node s i j x y a u =
      let e = a.rest in
      let m = a.within in
      record { gapless = refl; within = omega arith; encoded = ap utf8 a.written ∙ u }

  seen : (i x : ℕ) {n : Node} → node_at ws i ≡ n → Right n ws ts i x → Right (node_at ws i) ws ts i x
  seen i x q r = subst (λ (n : Node). Right n ws ts i x) (sym q) r

  root_right : (t : Tree) (i j x y : ℕ) → TreeStands t ws ts i j x y → Sound t → Right (node_at ws i) ws ts i x
  root_right (bit_vec w n) i j x y s h =
      seen i x s.here (record { number = words_of n h.fits; sound = subst (BitVector w) (sym (value-pair n)) h })
  root_right (numeral n) i j x y s h = seen i x s.here (words_of n h)
  root_right (string r) i j x y s h = seen i x s.here (text-right _ r i j x y s h)
  root_right (symbol r) i j x y s h = seen i x s.here (text-right _ r i j x y s h)
  root_right (app us) i j x y s h = seen i x s.here (chained us (i + 1) j x y s.children)

  -- the text offset behind a tree is that of the nodes before it
  atom-offset : (node : Node) (s : List ℕ) (i j x y : ℕ) → takes node ≡ length s → Atom node s ws ts i j x y → x ≡ offset ws i → y ≡ offset ws j
  atom-offset node s i j x y l a e =
      a.rest ∙ ap₂ (λ (m k : ℕ). m + k) e (sym l) ∙ sym (offset-behind ws i a.here) ∙ ap (offset ws) (sym a.next)

  inner-offset : (us : Trees) (i j x : ℕ) → node_at ws i ≡ App (count us) j → x ≡ offset ws i → x ≡ offset ws (i + 1)
  inner-offset us i j x q e = let o = offset-behind ws i q in omega arith

  mutual
    pub tree-offset : (t : Tree) (i j x y : ℕ) → TreeStands t ws ts i j x y → x ≡ offset ws i → y ≡ offset ws j
    tree-offset (bit_vec w n) i j x y s e = atom-offset _ [] i j x y refl s e
    tree-offset (numeral n) i j x y s e = atom-offset _ [] i j x y refl s e
    tree-offset (string r) i j x y s e = atom-offset _ r i j x y refl s e
    tree-offset (symbol r) i j x y s e = atom-offset _ r i j x y refl s e
    tree-offset (app us) i j x y s e = trees-offset us (i + 1) j x y s.children (inner-offset us i j x s.here e)

    trees-offset : (us : Trees) (i j x y : ℕ) → StandAll us ws ts i j x y → x ≡ offset ws i → y ≡ offset ws j
    trees-offset nil i j x y s e = s.rest ∙ e ∙ ap (offset ws) (sym s.next)
    trees-offset (cons t us) i j x y s e =
        trees-offset us s.mid j s.off y s.others (tree-offset t i s.mid x s.off s.first e)

  -- the first node of a tree
  first-right : (t : Tree) (i j x y k : ℕ) → TreeStands t ws ts i j x y → Sound t → x ≡ offset ws i → i ≡ k → RightAt ws ts k
  first-right t i j x y k s h e q = subst (RightAt ws ts) q (subst (Right (node_at ws i) ws ts i) e (root_right t i j x y s h))

  mutual
    pub inside : (t : Tree) (i j x y k : ℕ) → TreeStands t ws ts i j x y → Sound t → x ≡ offset ws i → i ≤ k → k < j → RightAt ws ts k
    inside (bit_vec w n) i j x y k s h e a b = let f = s.next in first-right (bit_vec w n) i j x y k s h e (omega arith)
    inside (numeral n) i j x y k s h e a b = let f = s.next in first-right (numeral n) i j x y k s h e (omega arith)
    inside (string r) i j x y k s h e a b = let f = s.next in first-right (string r) i j x y k s h e (omega arith)
    inside (symbol r) i j x y k s h e a b = let f = s.next in first-right (symbol r) i j x y k s h e (omega arith)
    inside (app us) i j x y k s h e a b =
        by_order i k
        (λ l. inside-all us (i + 1) j x y k s.children h (inner-offset us i j x s.here e) (omega arith) b)
        (λ l. first-right (app us) i j x y k s h e (omega arith))

    inside-all : (us : Trees) (i j x y k : ℕ) → StandAll us ws ts i j x y → SoundAll us → x ≡ offset ws i → i ≤ k → k < j → RightAt ws ts k
    inside-all nil i j x y k s h e a b = let f = s.next in absurd (omega arith)
    inside-all (cons t us) i j x y k s h e a b =
        by_order k s.mid
        (λ l. inside t i s.mid x s.off k s.first h.0 e a l)
        (λ l. inside-all us s.mid j s.off y k s.others h.1 (tree-offset t i s.mid x s.off s.first e) l b)
