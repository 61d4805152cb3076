-- Applications by their count of arguments, and by their heads.
-- Assumes nothing.
use Rattle.std.proofs.Common.{None, Option, Some}
use mathlib.Core.Path.{◌≡◌, refl, sym, ap, ◌∙◌, subst}
use mathlib.Core.Bool.{Bool, true, false, cond, true≢false}
use mathlib.Core.List.{List}
use Prim.Native.Nat.{ℕ, suc, ◌+◌, ◌-◌}
use native.Mathlib.Omega.{arith}
use Rattle.ground.specs.Bytes.{bytes}
use Rattle.arena.specs.declared.node.Node.TheVariants.{Symbol, App}
use Rattle.arena.specs.Node.{node_at, after_at}
use Rattle.arena.specs.Text.{text_is}
use Rattle.arena.specs.Tree.{Tree, Trees, bit_vec, numeral, string, symbol, app, nil, cons}
use Rattle.arena.proofs.Views.{after-of}
use Rattle.shapes.specs.declared.shape.Found.{Found}
use Rattle.shapes.specs.Shape.{Shape, as_some, other, on_symbol, some_shape, shape}
use Rattle.shapes.specs.Shows.{Standing, StandingAll, Reads, Shows, Placed, AppliedShows, AppliedAt, HeadedShows, HeadedAt, ByHeadShows, ByHeadAt, ShapeShows, ShapeAt, WordAt, PartsAt}
use Rattle.shapes.proofs.Looks.{kind, kinds, symbol-there, list-there, children-of}
use Rattle.shapes.proofs.Stood.{first_of, others-of, said-so}
use Rattle.shapes.proofs.Arms.{not-symbol}
use Rattle.shapes.specs.declared.look.Word.{Word}

module _ (ws ts : List ℕ) (offset size first many : ℕ) where
  ite-shows : many ≡ 3 → text_is ts offset size (bytes "ite") ≡ true → (second third : ℕ) → second ≡ after_at ws first → third ≡ after_at ws second →
      AppliedShows ws ts offset size first many (Found.Ite first second third)
  ite-shows h t second third p q f nil r s = let c = s.many-are in absurd (omega arith)
  ite-shows h t second third p q f (cons a nil) r s = let c = s.many-are in absurd (omega arith)
  ite-shows h t second third p q f (cons a (cons b nil)) r s = let c = s.many-are in absurd (omega arith)
  ite-shows h t second third p q f (cons a (cons b (cons c nil))) r s =
      let o = others-of ws ts a (cons b (cons c nil)) first many s second 2 p s.many-are in
      let u = others-of ws ts b (cons c nil) second 2 o third 1 q refl in (
        a,
        b,
        c,
        rw (said-so ts offset size f r (bytes "ite") true t),
        first_of ws ts a (cons b (cons c nil)) first many s,
        first_of ws ts b (cons c nil) second 2 o,
        first_of ws ts c nil third 1 u,
      )
  ite-shows h t second third p q f (cons a (cons b (cons c (cons d us)))) r s = let c = s.many-are in absurd (omega arith)

  pub applied-ite : many ≡ 3 → text_is ts offset size (bytes "ite") ≡ true → (second third : ℕ) → second ≡ after_at ws first → third ≡ after_at ws second →
      AppliedAt ws ts offset size first many (Found.Ite first second third)
  applied-ite h t second third p q = ((refl, p, q), ite-shows h t second third p q)

  three-shows : many ≡ 3 → text_is ts offset size (bytes "ite") ≡ false → AppliedShows ws ts offset size first many (Found.Made offset size first many)
  three-shows h t f nil r s = let c = s.many-are in absurd (omega arith)
  three-shows h t f (cons a nil) r s = let c = s.many-are in absurd (omega arith)
  three-shows h t f (cons a (cons b nil)) r s = let c = s.many-are in absurd (omega arith)
  three-shows h t f (cons a (cons b (cons c nil))) r s = (f, cons a (cons b (cons c nil)), rw (said-so ts offset size f r (bytes "ite") false t), r, s)
  three-shows h t f (cons a (cons b (cons c (cons d us)))) r s = let c = s.many-are in absurd (omega arith)

  pub applied_three : many ≡ 3 → text_is ts offset size (bytes "ite") ≡ false → AppliedAt ws ts offset size first many (Found.Made offset size first many)
  applied_three h t = (refl, three-shows h t)

-- ((as some T) v), where the head has three parts and there is one argument
module _ (ws ts : List ℕ) (inner parts value many : ℕ) where
  module _ (three-parts : parts ≡ 3) (one_value : many ≡ 1) where
    -- it is enough to look at three parts and one value
    by_parts : (q : Found) →
        ((a b t v : Tree) → StandingAll (cons a (cons b (cons t nil))) ws ts inner 3 → Standing v ws ts value → Shows ws ts q (some_shape a b t v)) →
        HeadedShows ws ts inner parts value many q
    by_parts q k nil vs p s = let c = p.many-are in absurd (omega arith)
    by_parts q k (cons a nil) vs p s = let c = p.many-are in absurd (omega arith)
    by_parts q k (cons a (cons b nil)) vs p s = let c = p.many-are in absurd (omega arith)
    by_parts q k (cons a (cons b (cons t nil))) nil p s = let c = s.many-are in absurd (omega arith)
    by_parts q k (cons a (cons b (cons t nil))) (cons v nil) p s =
        k a b t v (subst (λ (n : ℕ). StandingAll (cons a (cons b (cons t nil))) ws ts inner n) three-parts p) (first_of ws ts v nil value many s)
    by_parts q k (cons a (cons b (cons t nil))) (cons v (cons w vs)) p s = let c = s.many-are in absurd (omega arith)
    by_parts q k (cons a (cons b (cons t (cons d us)))) vs p s = let c = p.many-are in absurd (omega arith)

    pub headed-first : (w : Option Word) → WordAt ws inner w → w ≡ None → HeadedAt ws ts inner parts value many Found.Other
    headed-first w h e =
        let n = subst (λ (x : Option Word). WordAt ws inner x) e h in
        (tt, by_parts Found.Other (λ a b t v p s. not-symbol a _ _ (n ts a (first_of ws ts a (cons b (cons t nil)) inner 3 p))))

    module _ (w : Option Word) (offset size : ℕ) (h : WordAt ws inner w) (e : w ≡ Some (record { size = size; offset = offset })) where
      first_word : (a b t : Tree) → StandingAll (cons a (cons b (cons t nil))) ws ts inner 3 → (f : List ℕ) × (a ≡ symbol f) × Reads f ts offset size
      first_word a b t p = subst (λ (x : Option Word). WordAt ws inner x) e h ts a (first_of ws ts a (cons b (cons t nil)) inner 3 p)

      dull : (b : Tree) → ◌≡◌ {A = Shape} (on_symbol b other (λ g. other)) other
      dull (bit_vec w n) = refl
      dull (numeral n) = refl
      dull (string s) = refl
      dull (symbol s) = refl
      dull (app us) = refl

      pub headed-not_as : text_is ts offset size (bytes "as") ≡ false → HeadedAt ws ts inner parts value many Found.Other
      headed-not_as k = (
        tt,
        by_parts Found.Other (λ a b t v p s. let g = first_word a b t p in
            subst (λ (x : Tree). some_shape x b t v ≡ other) (sym g.1) (rw (said-so ts offset size g.0 g.2 (bytes "as") false k) (dull b))),
      )

      module _ (second : ℕ) (here : second ≡ after_at ws inner) where
        behind : (a b t : Tree) → StandingAll (cons a (cons b (cons t nil))) ws ts inner 3 → StandingAll (cons b (cons t nil)) ws ts second 2
        behind a b t p = others-of ws ts a (cons b (cons t nil)) inner 3 p second 2 here refl

        pub headed-second : (u : Option Word) → WordAt ws second u → u ≡ None → HeadedAt ws ts inner parts value many Found.Other
        headed-second u m d =
            let n = subst (λ (x : Option Word). WordAt ws second x) d m in (
              tt,
              by_parts Found.Other (λ a b t v p s. let g = first_word a b t p in
                  subst (λ (x : Tree). some_shape x b t v ≡ other) (sym g.1) (not-symbol b _ _ (n ts b (first_of ws ts b (cons t nil) second 2 (behind a b t p))))),
            )

        module _ (u : Option Word) (off long : ℕ) (m : WordAt ws second u) (d : u ≡ Some (record { size = long; offset = off })) where
          second_word : (a b t : Tree) → StandingAll (cons a (cons b (cons t nil))) ws ts inner 3 → (g : List ℕ) × (b ≡ symbol g) × Reads g ts off long
          second_word a b t p = subst (λ (x : Option Word). WordAt ws second x) d m ts b (first_of ws ts b (cons t nil) second 2 (behind a b t p))

          some_is : text_is ts offset size (bytes "as") ≡ true → (c : Bool) → text_is ts off long (bytes "some") ≡ c → (a b t v : Tree) → StandingAll (cons a (cons b (cons t nil))) ws ts inner 3 → some_shape a b t v ≡ cond c (as_some t v) other
          some_is as-word c k a b t v p =
              let f = first_word a b t p in
              let g = second_word a b t p in
              ap (λ (x : Tree). some_shape x b t v) f.1 ∙ ap (λ (x : Tree). some_shape (symbol f.0) x t v) g.1
              ∙ rw (said-so ts offset size f.0 f.2 (bytes "as") true as-word, said-so ts off long g.0 g.2 (bytes "some") c k)

          pub headed-not-some : text_is ts offset size (bytes "as") ≡ true → text_is ts off long (bytes "some") ≡ false → HeadedAt ws ts inner parts value many Found.Other
          headed-not-some j k = (tt, by_parts Found.Other (λ a b t v p s. some_is j false k a b t v p))

          pub headed-some : text_is ts offset size (bytes "as") ≡ true → text_is ts off long (bytes "some") ≡ true → (third : ℕ) → third ≡ after_at ws second → HeadedAt ws ts inner parts value many (Found.AsSome third value)
          headed-some j k third z = (
            refl,
            by_parts (Found.AsSome third value)
                (λ a b t v p s. (t, v, some_is j true k a b t v p, first_of ws ts t nil third 1 (others-of ws ts b (cons t nil) second 2 (behind a b t p) third 1 z refl), s)),
          )

-- the head, and the arguments behind it
module _ (ws ts : List ℕ) (i many : ℕ) where
  module _ (h : Tree) (us : Trees) (s : StandingAll (cons h us) ws ts i (suc many)) where
    head-stands : Standing h ws ts i
    head-stands = first_of ws ts h us i (suc many) s

    behind-head : (j : ℕ) → j ≡ after_at ws i → StandingAll us ws ts j many
    behind-head j e = others-of ws ts h us i (suc many) s j many e refl

  module _ (no_symbol : (x y : ℕ) → node_at ws i ≡ Symbol x y → ⊥) (no-list : (x y : ℕ) → node_at ws i ≡ App x y → ⊥) where
    atom-shows : ByHeadShows ws ts i many Found.Other
    unfolding shape
    atom-shows (bit_vec w m) us s = refl
    atom-shows (numeral m) us s = refl
    atom-shows (string t) us s = refl
    atom-shows (symbol t) us s = absurd (no_symbol _ _ (head-stands (symbol t) us s).there.here)
    atom-shows (app vs) us s = absurd (no-list _ _ (head-stands (app vs) us s).there.here)

    pub by-atom : ByHeadAt ws ts i many Found.Other
    by-atom = (tt, atom-shows)

  pub by-symbol : (size offset : ℕ) → node_at ws i ≡ Symbol size offset → (q : Found) → AppliedAt ws ts offset size (i + 1) many q → ByHeadAt ws ts i many q
  unfolding shape
  by-symbol size offset e q k = (
    subst (λ (n : ℕ). Placed ws n q) (after-of ws i e) k.0,
    λ h us s.
        let g = symbol-there ws i size offset e ts h (head-stands h us s) in
        subst (λ (x : Tree). Shows ws ts q (shape (cons x us))) (sym g.1) (k.1 g.0 us g.2 (behind-head h us s (i + 1) (after-of ws i e))),
  )

  list-shows : (parts end : ℕ) → node_at ws i ≡ App parts end → (q : Found) → HeadedShows ws ts (i + 1) parts end many q → ByHeadShows ws ts i many q
  unfolding shape
  list-shows parts end e q k (bit_vec w m) us s = let z = kinds ws ts i (bit_vec w m) (head-stands (bit_vec w m) us s) in let y = ap kind e in absurd (omega arith)
  list-shows parts end e q k (numeral m) us s = let z = kinds ws ts i (numeral m) (head-stands (numeral m) us s) in let y = ap kind e in absurd (omega arith)
  list-shows parts end e q k (string t) us s = let z = kinds ws ts i (string t) (head-stands (string t) us s) in let y = ap kind e in absurd (omega arith)
  list-shows parts end e q k (symbol t) us s = let z = kinds ws ts i (symbol t) (head-stands (symbol t) us s) in let y = ap kind e in absurd (omega arith)
  list-shows parts end e q k (app vs) us s = k vs us (children-of ws ts i parts (list-there ws i parts end e) vs (head-stands (app vs) us s)) (behind-head (app vs) us s end (after-of ws i e))

  pub by-list : (parts end : ℕ) → node_at ws i ≡ App parts end → (q : Found) → HeadedAt ws ts (i + 1) parts end many q → ByHeadAt ws ts i many q
  by-list parts end e q k = (subst (λ (n : ℕ). Placed ws n q) (after-of ws i e) k.0, list-shows parts end e q k.1)

-- the whole
module _ (ws ts : List ℕ) (i : ℕ) (p : Option ℕ) (h : PartsAt ws i p) where
  pub shape-none : p ≡ None → ShapeAt ws ts i Found.Other
  shape-none e = (tt, λ us s. absurd (true≢false (subst (λ (x : Option ℕ). PartsAt ws i x) e h ts (app us) s)))

  module _ (many : ℕ) (e : p ≡ Some many) where
    children : (us : Trees) → Standing (app us) ws ts i → StandingAll us ws ts (i + 1) many
    children us s = children-of ws ts i many (subst (λ (x : Option ℕ). PartsAt ws i x) e h) us s

    empty-shows : many ≡ 0 → ShapeShows ws ts i Found.Other
    unfolding shape
    empty-shows z nil s = refl
    empty-shows z (cons a us) s = let c = (children (cons a us) s).many-are in absurd (omega arith)

    pub shape-empty : many ≡ 0 → ShapeAt ws ts i Found.Other
    shape-empty z = (tt, empty-shows z)

    head-shows : (many ≡ 0 → ⊥) → (q : Found) → ByHeadShows ws ts (i + 1) (many - 1) q → ShapeShows ws ts i q
    head-shows z q k nil s = absurd (z (children nil s).many-are)
    head-shows z q k (cons a us) s =
        let c = (children (cons a us) s).many-are in
        let m : many ≡ suc (many - 1) = omega arith in
        k a us (subst (λ (n : ℕ). StandingAll (cons a us) ws ts (i + 1) n) m (children (cons a us) s))

    pub shape-head : (many ≡ 0 → ⊥) → (q : Found) → ByHeadAt ws ts (i + 1) (many - 1) q → ShapeAt ws ts i q
    shape-head z q k = (k.0, head-shows z q k.1)
