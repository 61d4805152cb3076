-- A sort row against the form and the rules, by its kind.
-- Assumes nothing.
use mathlib.Core.Path.{◌≡◌, refl, sym, ap, ◌∙◌}
use mathlib.Core.Bool.{Bool, true, false, cond, not, ◌&&◌}
use mathlib.Core.List.{List}
use Prim.Native.Nat.{ℕ, ◌≤◌, ◌<◌}
use native.Mathlib.Omega.{arith}
use lib.Dec.{leb, ltb, eqb}
use lib.ListN.{length}
use borrow.Author.Tests.{le-leb, lt-leb, not-true, not-false}
use Rattle.ground.specs.Lists.{all}
use Rattle.ground.proofs.Tests.{and-false, by_order}
use Rattle.tables.specs.Layout.{word, part, name_at, inside, name_inside, sort_of}
use Rattle.tables.specs.Rules.{own_name, sort_right}
use Rattle.tables.specs.Right.{right_own, right_fields, right_sort}
use Rattle.tables.proofs.Sorts.{by_kind}

-- what an entity and a record ask, of the name's place and form and of the fields'
unnamed : (a b f g h : Bool) → (a && b) ≡ false → false ≡ ((a && f) && (b && g && h))
unnamed true true f g h e = let z : ◌≡◌ {A = Bool} true false = e in cc
unnamed true false f g h e = sym (and-false f)
unnamed false b f g h e = refl

named : (a b f g h r : Bool) → (a && b) ≡ true → r ≡ (f && (g && h)) → r ≡ ((a && f) && (b && g && h))
named true true f g h r e q = q
named true false f g h r e q = let z : ◌≡◌ {A = Bool} false true = e in cc
named false b f g h r e q = let z : ◌≡◌ {A = Bool} false true = e in cc

entity : (a b : Bool) (r : Bool) → (a && b) ≡ r → r ≡ ((a && true) && b)
entity true b r e = sym e
entity false b r e = sym e

module _ (sorts fields names : List ℕ) (i : ℕ) where
  abbrev right_of : ℕ → ℕ → Bool
  right_of number kind =
      (leb 1 kind && leb kind 10 && cond (leb 9 kind) (name_inside names sorts i) true && cond (eqb kind 10) (inside number (word sorts i 4) fields) true)
      && sort_right i (sort_of kind (name_at names sorts i) number (part fields number (word sorts i 4)))

  abbrev Plain : ℕ → Type 0
  Plain kind = (kind ≡ 0 → ⊥) → kind < 6 → true ≡ right_of (word sorts i 3) kind

  plain : (kind : ℕ) → Plain kind
  plain kind =
      by_kind {P = Plain}
      (λ h g. absurd (h refl)) (λ h g. refl) (λ h g. refl) (λ h g. refl) (λ h g. refl) (λ h g. refl)
      (λ h g. absurd (omega (arith, g))) (λ h g. absurd (omega (arith, g))) (λ h g. absurd (omega (arith, g))) (λ h g. absurd (omega (arith, g)))
      (λ k l h g. absurd (omega (arith, g, l))) kind

  abbrev Refers : ℕ → Type 0
  Refers kind = 6 ≤ kind → (kind ≡ 6 → ⊥) → kind < 9 → ltb (word sorts i 3) i ≡ right_of (word sorts i 3) kind

  refers : (kind : ℕ) → Refers kind
  refers kind =
      by_kind {P = Refers}
      (λ l h g. absurd (omega (arith, l))) (λ l h g. absurd (omega (arith, l))) (λ l h g. absurd (omega (arith, l)))
      (λ l h g. absurd (omega (arith, l))) (λ l h g. absurd (omega (arith, l))) (λ l h g. absurd (omega (arith, l)))
      (λ l h g. absurd (h refl)) (λ l h g. refl) (λ l h g. refl) (λ l h g. absurd (omega (arith, g)))
      (λ k d l h g. absurd (omega (arith, g, d))) kind

  unknown : (kind : ℕ) → 10 < kind → false ≡ right_of (word sorts i 3) kind
  unknown kind h = rw (le-leb 1 kind (omega arith), lt-leb kind 10 h)

  module _ (k : ℕ) (e : k ≡ word sorts i 2) where
    is_right : (number : ℕ) → number ≡ word sorts i 3 → right_of number k ≡ right_sort sorts fields names i
    is_right number g = rw (e, g) refl

    pub sort-zero : k ≡ 0 → false ≡ right_sort sorts fields names i
    sort-zero h = ap (right_of (word sorts i 3)) (sym h) ∙ is_right (word sorts i 3) refl

    pub sort-plain : (k ≡ 0 → ⊥) → k < 6 → true ≡ right_sort sorts fields names i
    sort-plain h g = plain k h g ∙ is_right (word sorts i 3) refl

    pub sort-unknown : 10 < k → false ≡ right_sort sorts fields names i
    sort-unknown h = unknown k h ∙ is_right (word sorts i 3) refl

    module _ (number : ℕ) (g : number ≡ word sorts i 3) where
      pub sort-width : k ≡ 6 → (r : Bool) → r ≡ (leb 1 number && leb number 128) → r ≡ right_sort sorts fields names i
      sort-width h r q = q ∙ ap (right_of number) (sym h) ∙ is_right number g

      pub sort-refers : 6 ≤ k → (k ≡ 6 → ⊥) → k < 9 → ltb number i ≡ right_sort sorts fields names i
      sort-refers l h d = ap (λ (n : ℕ). ltb n i) g ∙ refers k l h d ∙ is_right (word sorts i 3) refl

      module _ (o : Bool) (q : o ≡ right_own names sorts i) where
        entity-right : o ≡ right_of number 9
        entity-right = entity (name_inside names sorts i) (own_name (name_at names sorts i)) o (sym q)

        record_wrong : o ≡ false → false ≡ right_of number 10
        record_wrong h =
            unnamed (name_inside names sorts i) (own_name (name_at names sorts i)) (inside number (word sorts i 4) fields)
            (leb (length (part fields number (word sorts i 4))) 256) (all (λ row. ltb row i) (part fields number (word sorts i 4))) (sym q ∙ h)

        record_right : o ≡ true → (r : Bool) → r ≡ right_fields fields number (word sorts i 4) i → r ≡ right_of number 10
        record_right h r d =
            named (name_inside names sorts i) (own_name (name_at names sorts i)) (inside number (word sorts i 4) fields)
            (leb (length (part fields number (word sorts i 4))) 256) (all (λ row. ltb row i) (part fields number (word sorts i 4))) r (sym q ∙ h) d

        pub sort-unnamed : not o ≡ true → 9 ≤ k → k ≤ 10 → false ≡ right_sort sorts fields names i
        sort-unnamed h l m =
            let n : o ≡ false = not-true o h in
            by_order k 10
            (λ s. let t : 9 ≡ k = omega arith in sym n ∙ entity-right ∙ ap (right_of number) t ∙ is_right number g)
            (λ s. let t : 10 ≡ k = omega arith in record_wrong n ∙ ap (right_of number) t ∙ is_right number g)

        pub sort-entity : not o ≡ false → k ≡ 9 → true ≡ right_sort sorts fields names i
        sort-entity h d = sym (not-false o h) ∙ entity-right ∙ ap (right_of number) (sym d) ∙ is_right number g

        pub sort_record : not o ≡ false → 9 ≤ k → k ≤ 10 → (k ≡ 9 → ⊥) → (size : ℕ) → size ≡ word sorts i 4 → (r : Bool) → r ≡ right_fields fields number size i → r ≡ right_sort sorts fields names i
        sort_record h l m d size s r p =
            let t : 10 ≡ k = omega (arith, d) in
            record_right (not-false o h) r (p ∙ ap (λ (n : ℕ). right_fields fields number n i) s) ∙ ap (right_of number) t ∙ is_right number g
