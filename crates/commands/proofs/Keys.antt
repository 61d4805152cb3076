-- One law for each way out of the matching of a test.
-- Assumes nothing.
use Rattle.std.proofs.Common.{None, Some, Option}
use mathlib.Core.Path.{◌≡◌, refl, sym, ap, ◌∙◌, subst}
use mathlib.Core.Bool.{Bool, true, false, cond}
use mathlib.Core.List.{List}
use Prim.Native.Nat.{ℕ, ◌+◌}
use native.Mathlib.Omega.{arith}
use Rattle.ground.specs.Bytes.{bytes}
use Rattle.arena.specs.Node.{after_at}
use Rattle.arena.specs.Text.{text_at, same_text, text_is}
use Rattle.arena.specs.Tree.{Tree, Trees, nil, cons}
use Rattle.shapes.specs.Shows.{Standing, StandingAll, Reads, WordAt, PartsAt}
use Rattle.shapes.proofs.Stood.{first_of, others-of, said, said-so}
use Rattle.shapes.proofs.Seen.{not-word, by_word, not-list, by-list}
use Rattle.shapes.proofs.Arms.{not-symbol, not-app}
use Rattle.commands.specs.Command.{is_argument, operand, key}
use Rattle.commands.specs.TestShows.{KeyShows, KeyAt, ArgumentIs}
use Rattle.shapes.specs.declared.look.Word.{Word}

-- the argument's name
module _ (ws ts : List ℕ) (i offset size : ℕ) (w : Option Word) (h : WordAt ws i w) where
  pub argument-not : w ≡ None → ArgumentIs ws ts i offset size false
  argument-not e x t r s = sym (not-symbol t _ _ (not-word ws i w h ts e t s))

  pub argument-asked : (long off : ℕ) → w ≡ Some (record { size = long; offset = off }) → (name : List ℕ) → name ≡ text_at ts offset size → (b : Bool) → b ≡ text_is ts off long name → ArgumentIs ws ts i offset size b
  argument-asked long off e name n b q x t r s =
      by_word ws i w h ts long off e (λ (y : Tree). b ≡ is_argument x y)
      (λ f g. q ∙ said ts off long f g name ∙ ap (λ (y : List ℕ). same_text f y) (n ∙ r.bytes)) t s

-- (= ARG v), (= v ARG)
module _ (ws ts : List ℕ) (i offset size : ℕ) (l : Option ℕ) (h : PartsAt ws i l) where
  pub key-atom : l ≡ None → KeyAt ws ts i offset size None
  unfolding key
  key-atom e x t r s = not-app t _ _ (not-list ws i l h e ts t s)

  module _ (many : ℕ) (e : l ≡ Some many) where
    not_three : (x : List ℕ) (us : Trees) → (many ≡ 3 → ⊥) → StandingAll us ws ts (i + 1) many → operand x us ≡ None
    not_three x nil z s = refl
    not_three x (cons a nil) z s = refl
    not_three x (cons a (cons b nil)) z s = refl
    not_three x (cons a (cons b (cons c nil))) z s = absurd (z s.many-are)
    not_three x (cons a (cons b (cons c (cons d us)))) z s = refl

    pub key-parts : (many ≡ 3 → ⊥) → KeyAt ws ts i offset size None
    unfolding key
    key-parts z x t r s = by-list ws i l h many e ts (λ (y : Tree). key x y ≡ None) (λ us g. not_three x us z g) t s

    module _ (z : many ≡ 3) (head : ℕ) (begins : head ≡ i + 1) (w : Option Word) (m : WordAt ws head w) where
      -- it is enough to look at three parts
      by_three : (f : Option ℕ) →
          ((x : List ℕ) (a b c : Tree) → Reads x ts offset size → StandingAll (cons a (cons b (cons c nil))) ws ts head 3 → KeyShows ws ts f (operand x (cons a (cons b (cons c nil))))) →
          KeyAt ws ts i offset size f
      unfolding key
      by_three f k x t r s = by-list ws i l h many e ts (λ (y : Tree). KeyShows ws ts f (key x y)) three t s
        where
          three : (us : Trees) → StandingAll us ws ts (i + 1) many → KeyShows ws ts f (operand x us)
          three nil s = let c = s.many-are in absurd (omega arith)
          three (cons a nil) s = let c = s.many-are in absurd (omega arith)
          three (cons a (cons b nil)) s = let c = s.many-are in absurd (omega arith)
          three (cons a (cons b (cons c nil))) s =
              k x a b c r
              (subst (λ (n : ℕ). StandingAll (cons a (cons b (cons c nil))) ws ts n 3) (sym begins)
              (subst (λ (n : ℕ). StandingAll (cons a (cons b (cons c nil))) ws ts (i + 1) n) z s))
          three (cons a (cons b (cons c (cons d us)))) s = let c = s.many-are in absurd (omega arith)

      pub key_headless : w ≡ None → KeyAt ws ts i offset size None
      key_headless q = by_three None (λ x a b c r s. not-symbol a _ _ (not-word ws head w m ts q a (first_of ws ts a (cons b (cons c nil)) head 3 s)))

      module _ (long off : ℕ) (q : w ≡ Some (record { size = long; offset = off })) where
        by_equal : (f : Option ℕ) (equal : Bool) → text_is ts off long (bytes "=") ≡ equal →
            ((x : List ℕ) (b c : Tree) → Reads x ts offset size → ((left : ℕ) → left ≡ after_at ws head → StandingAll (cons b (cons c nil)) ws ts left 2) →
            KeyShows ws ts f (cond equal (cond (is_argument x b) (Some c) (cond (is_argument x c) (Some b) None)) None)) →
            KeyAt ws ts i offset size f
        by_equal f equal t k =
            by_three f
            (λ x a b c r s. by_word ws head w m ts long off q (λ (y : Tree). KeyShows ws ts f (operand x (cons y (cons b (cons c nil)))))
            (λ word g. subst (λ (o : Bool). KeyShows ws ts f (cond o (cond (is_argument x b) (Some c) (cond (is_argument x c) (Some b) None)) None)) (sym (said-so ts off long word g (bytes "=") equal t))
            (k x b c r (λ left u. others-of ws ts a (cons b (cons c nil)) head 3 s left 2 u refl))) a (first_of ws ts a (cons b (cons c nil)) head 3 s))

        pub key-other : text_is ts off long (bytes "=") ≡ false → KeyAt ws ts i offset size None
        key-other t = by_equal None false t (λ x b c r o. refl)

        module _ (t : text_is ts off long (bytes "=") ≡ true) (left : ℕ) (here : left ≡ after_at ws head) (right : ℕ) (there : right ≡ after_at ws left) where
          -- as for two operands
          by_two : (f : Option ℕ) →
              ((x : List ℕ) (b c : Tree) → Reads x ts offset size → Standing b ws ts left → Standing c ws ts right → KeyShows ws ts f (cond (is_argument x b) (Some c) (cond (is_argument x c) (Some b) None))) →
              KeyAt ws ts i offset size f
          by_two f k =
              by_equal f true t
              (λ x b c r o.
              let p = o left here in
              k x b c r (first_of ws ts b (cons c nil) left 2 p) (first_of ws ts c nil right 1 (others-of ws ts b (cons c nil) left 2 p right 1 there refl)))

          module _ (one : Bool) (first : ArgumentIs ws ts left offset size one) where
            pub key_right : one ≡ true → KeyAt ws ts i offset size (Some right)
            key_right u = by_two (Some right) (λ x b c r p q. (c, rw (sym (first x b r p) ∙ u), q))

            module _ (u : one ≡ false) (two : Bool) (second : ArgumentIs ws ts right offset size two) where
              pub key_left : two ≡ true → KeyAt ws ts i offset size (Some left)
              key_left v = by_two (Some left) (λ x b c r p q. (b, rw (sym (first x b r p) ∙ u, sym (second x c r q) ∙ v), p))

              pub key-neither : two ≡ false → KeyAt ws ts i offset size None
              key-neither v = by_two None (λ x b c r p q. rw (sym (first x b r p) ∙ u, sym (second x c r q) ∙ v))
