-- One law for each way out of the matching of a command.
-- Assumes nothing.
use Rattle.std.proofs.Common.{Option, None, Some, Err, Ok, Result}
use mathlib.Core.Path.{◌≡◌, refl, sym, ap, ◌∙◌, subst}
use mathlib.Core.Bool.{true, false}
use mathlib.Core.List.{List}
use Prim.Native.Nat.{ℕ, ◌+◌}
use native.Mathlib.Omega.{arith}
use Rattle.ground.specs.Bytes.{bytes}
use Rattle.refusals.specs.declared.Refusal.TheVariants.{UnexpectedModel}
use Rattle.arena.specs.Node.{after_at}
use Rattle.arena.specs.Text.{text_is}
use Rattle.arena.specs.Tree.{Tree, Trees, symbol, app, nil, cons}
use Rattle.shapes.specs.Shows.{Standing, StandingAll, Reads, WordAt, PartsAt}
use Rattle.shapes.proofs.Stood.{first_of, others-of, said-so}
use Rattle.shapes.proofs.Seen.{not-word, by_word, not-list, by-list}
use Rattle.shapes.proofs.Arms.{not-symbol, not-app}
use Rattle.commands.specs.declared.command.CommandFound.{CommandFound}
use Rattle.commands.specs.Pair.{Pair, pair}
use Rattle.commands.specs.PairShows.{PairShows, PairAt}
use Rattle.commands.specs.Command.{Command, misshapen, argument, arguments, parts, command}
use Rattle.commands.specs.CommandShows.{CommandShows, CommandAt, FiveAt, ArgumentsAt, LastAt, fifth}
use Rattle.commands.specs.declared.pair.NamedPair.{NamedPair}
use Rattle.shapes.specs.declared.look.Word.{Word}
use Rattle.refusals.specs.declared.Refusal.{Refusal}

abbrev wrong : Result CommandFound Refusal
wrong = Err UnexpectedModel

-- () or ((ARG SORT))
module _ (ws : List ℕ) (size offset first many sort body : ℕ) where
  pub arguments-none : many ≡ 0 → ArgumentsAt ws size offset first many sort body (Ok (CommandFound.Variable size offset sort body))
  arguments-none z ts name nil t b r s p q = (name, t, b, refl, r, p, q)
  arguments-none z ts name (cons a us) t b r s p q = let c = s.many-are in absurd (omega arith)

  module _ (one : many ≡ 1) where
    -- it is enough to look at one tree
    by_one : (f : Result CommandFound Refusal) →
        ((ts name : List ℕ) (a t b : Tree) → Reads name ts offset size → Standing a ws ts first → Standing t ws ts sort → Standing b ws ts body → CommandShows ws ts f (arguments name (cons a nil) t b)) →
        ArgumentsAt ws size offset first many sort body f
    by_one f k ts name nil t b r s p q = let c = s.many-are in absurd (omega arith)
    by_one f k ts name (cons a nil) t b r s p q = k ts name a t b r (first_of ws ts a nil first many s) p q
    by_one f k ts name (cons a (cons c us)) t b r s p q = let c = s.many-are in absurd (omega arith)

    module _ (p : Option NamedPair) (h : PairAt ws first p) where
      pub arguments-other : p ≡ None → ArgumentsAt ws size offset first many sort body wrong
      arguments-other e = by_one wrong (λ ts name a t b r s u v. (ap (λ (x : Option Pair). argument name x t b) (subst (λ (x : Option NamedPair). PairShows ws ts x (pair a)) e (h ts a s)), refl))

      pub arguments-pair : (arg_size arg_offset second : ℕ) → p ≡ Some (record { size = arg_size; offset = arg_offset; second = second }) →
          ArgumentsAt ws size offset first many sort body (Ok (CommandFound.Function size offset arg_size arg_offset second sort body))
      arguments-pair arg_size arg_offset second e =
          by_one (Ok (CommandFound.Function size offset arg_size arg_offset second sort body))
          (λ ts name a t b r s u v.
          let g = subst (λ (x : Option NamedPair). PairShows ws ts x (pair a)) e (h ts a s) in
          (name, g.0, g.1, t, b, ap (λ (x : Option Pair). argument name x t b) g.2, r, g.3, g.4, u, v))

-- the five parts
module _ (ws ts : List ℕ) (first : ℕ) where
  abbrev all_five : Tree → Tree → Tree → Tree → Tree → Trees
  all_five a b c d e = cons a (cons b (cons c (cons d (cons e nil))))

  module _ (w : Option Word) (h : WordAt ws first w) where
    pub five-none : w ≡ None → FiveAt ws ts first wrong
    five-none q a b c d e s = (not-symbol a _ _ (not-word ws first w h ts q a (first_of ws ts a (cons b (cons c (cons d (cons e nil)))) first 5 s)), refl)

    module _ (long off : ℕ) (q : w ≡ Some (record { size = long; offset = off })) (second : ℕ) (here : second ≡ after_at ws first) where
      -- as for a word, and the four parts behind it
      by_first : (f : Result CommandFound Refusal) →
          ((word : List ℕ) (b c d e : Tree) → Reads word ts off long → StandingAll (cons b (cons c (cons d (cons e nil)))) ws ts second 4 → CommandShows ws ts f (parts (all_five (symbol word) b c d e))) →
          FiveAt ws ts first f
      by_first f k a b c d e s =
          let o = others-of ws ts a (cons b (cons c (cons d (cons e nil)))) first 5 s second 4 here refl in
          by_word ws first w h ts long off q (λ (x : Tree). CommandShows ws ts f (parts (all_five x b c d e)))
          (λ word r. k word b c d e r o) a (first_of ws ts a (cons b (cons c (cons d (cons e nil)))) first 5 s)

      module _ (v : Option Word) (m : WordAt ws second v) where
        pub five-unnamed : v ≡ None → FiveAt ws ts first wrong
        five-unnamed z =
            by_first wrong
            (λ word b c d e r s. (not-symbol b _ _ (not-word ws second v m ts z b (first_of ws ts b (cons c (cons d (cons e nil))) second 4 s)), refl))

        module _ (size offset : ℕ) (z : v ≡ Some (record { size = size; offset = offset })) (third : ℕ) (there : third ≡ after_at ws second) where
          by_name : (f : Result CommandFound Refusal) →
              ((word name : List ℕ) (c d e : Tree) → Reads word ts off long → Reads name ts offset size → StandingAll (cons c (cons d (cons e nil))) ws ts third 3 →
              CommandShows ws ts f (parts (all_five (symbol word) (symbol name) c d e))) →
              FiveAt ws ts first f
          by_name f k =
              by_first f
              (λ word b c d e r s. by_word ws second v m ts size offset z (λ (x : Tree). CommandShows ws ts f (parts (all_five (symbol word) x c d e)))
              (λ name g. k word name c d e r g (others-of ws ts b (cons c (cons d (cons e nil))) second 4 s third 3 there refl)) b (first_of ws ts b (cons c (cons d (cons e nil))) second 4 s))

          module _ (l : Option ℕ) (n : PartsAt ws third l) where
            pub five-atom : l ≡ None → FiveAt ws ts first wrong
            five-atom y =
                by_name wrong
                (λ word name c d e r g s. (not-app c _ _ (not-list ws third l n y ts c (first_of ws ts c (cons d (cons e nil)) third 3 s)), refl))

            module _ (many : ℕ) (y : l ≡ Some many) where
              by-arguments : (f : Result CommandFound Refusal) →
                  ((word name : List ℕ) (us : Trees) (d e : Tree) → Reads word ts off long → Reads name ts offset size → StandingAll us ws ts (third + 1) many →
                  ((fourth : ℕ) → fourth ≡ after_at ws third → StandingAll (cons d (cons e nil)) ws ts fourth 2) →
                  CommandShows ws ts f (parts (all_five (symbol word) (symbol name) (app us) d e))) →
                  FiveAt ws ts first f
              by-arguments f k =
                  by_name f
                  (λ word name c d e r g s. by-list ws third l n many y ts (λ (x : Tree). CommandShows ws ts f (parts (all_five (symbol word) (symbol name) x d e)))
                  (λ us o. k word name us d e r g o (λ fourth u. others-of ws ts c (cons d (cons e nil)) third 3 s fourth 2 u refl)) c (first_of ws ts c (cons d (cons e nil)) third 3 s))

              pub five-other : text_is ts off long (bytes "define-fun") ≡ false → FiveAt ws ts first wrong
              five-other t = by-arguments wrong (λ word name us d e r g s o. (rw (said-so ts off long word r (bytes "define-fun") false t), refl))

              pub five-arguments : text_is ts off long (bytes "define-fun") ≡ true → (sort : ℕ) → sort ≡ after_at ws third → (body : ℕ) → body ≡ after_at ws sort →
                  (f : Result CommandFound Refusal) → ArgumentsAt ws size offset (third + 1) many sort body f → FiveAt ws ts first f
              five-arguments t sort u body v f k =
                  by-arguments f
                  (λ word name us d e r g s o.
                  let p = o sort u in
                  let same : parts (all_five (symbol word) (symbol name) (app us) d e) ≡ arguments name us d e = rw (said-so ts off long word r (bytes "define-fun") true t) in
                  subst (λ (x : Command). CommandShows ws ts f x) (sym same)
                  (k ts name us d e g s (first_of ws ts d (cons e nil) sort 2 p) (first_of ws ts e nil body 1 (others-of ws ts d (cons e nil) sort 2 p body 1 v refl))))

-- the fifth part, one after the other
pub last-fifth : (ws : List ℕ) (first : ℕ) {second third fourth body : ℕ} → second ≡ after_at ws first → third ≡ after_at ws second → fourth ≡ after_at ws third → body ≡ after_at ws fourth →
    (f : Result CommandFound Refusal) → LastAt body f → LastAt (fifth ws first) f
last-fifth ws first p q r s f h =
    subst (λ (i : ℕ). LastAt i f) (s ∙ ap (after_at ws) (r ∙ ap (after_at ws) (q ∙ ap (after_at ws) p))) h

-- the whole
module _ (ws ts : List ℕ) (i : ℕ) (l : Option ℕ) (h : PartsAt ws i l) where
  pub command-atom : l ≡ None → CommandAt ws ts i wrong
  unfolding command
  command-atom e t s = (not-app t _ _ (not-list ws i l h e ts t s), refl)

  module _ (many : ℕ) (e : l ≡ Some many) where
    not_five : (us : Trees) → (many ≡ 5 → ⊥) → StandingAll us ws ts (i + 1) many → parts us ≡ misshapen
    not_five nil z s = refl
    not_five (cons a nil) z s = refl
    not_five (cons a (cons b nil)) z s = refl
    not_five (cons a (cons b (cons c nil))) z s = refl
    not_five (cons a (cons b (cons c (cons d nil)))) z s = refl
    not_five (cons a (cons b (cons c (cons d (cons f nil))))) z s = absurd (z s.many-are)
    not_five (cons a (cons b (cons c (cons d (cons f (cons g us)))))) z s = refl

    pub command-parts : (many ≡ 5 → ⊥) → CommandAt ws ts i wrong
    unfolding command
    command-parts z t s = (by-list ws i l h many e ts (λ (x : Tree). command x ≡ misshapen) (λ us g. not_five us z g) t s, refl)

    all-five : (f : Result CommandFound Refusal) (us : Trees) → many ≡ 5 → FiveAt ws ts (i + 1) f → StandingAll us ws ts (i + 1) many → CommandShows ws ts f (parts us)
    all-five f nil z k s = let c = s.many-are in absurd (omega arith)
    all-five f (cons a nil) z k s = let c = s.many-are in absurd (omega arith)
    all-five f (cons a (cons b nil)) z k s = let c = s.many-are in absurd (omega arith)
    all-five f (cons a (cons b (cons c nil))) z k s = let c = s.many-are in absurd (omega arith)
    all-five f (cons a (cons b (cons c (cons d nil)))) z k s = let c = s.many-are in absurd (omega arith)
    all-five f (cons a (cons b (cons c (cons d (cons g nil))))) z k s = k a b c d g (subst (λ (n : ℕ). StandingAll (cons a (cons b (cons c (cons d (cons g nil))))) ws ts (i + 1) n) z s)
    all-five f (cons a (cons b (cons c (cons d (cons g (cons x us)))))) z k s = let c = s.many-are in absurd (omega arith)

    pub command-five : many ≡ 5 → (f : Result CommandFound Refusal) → FiveAt ws ts (i + 1) f → CommandAt ws ts i f
    unfolding command
    command-five z f k t s = by-list ws i l h many e ts (λ (x : Tree). CommandShows ws ts f (command x)) (λ us g. all-five f us z k g) t s
