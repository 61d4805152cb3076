-- Trees that stand one after the other: the first, and the others behind it; and the names that the text has.
-- Assumes nothing.
use mathlib.Core.Path.{◌≡◌, refl, sym, ◌∙◌, subst}
use mathlib.Core.Bool.{Bool, true}
use mathlib.Core.List.{List}
use Prim.Native.Nat.{ℕ, suc}
use native.Mathlib.Omega.{arith}
use Rattle.arena.specs.Node.{after_at}
use Rattle.arena.specs.Stands.{StandAll}
use Rattle.arena.specs.Text.{text_at, same_text, text_is}
use Rattle.arena.specs.Tree.{Tree, Trees, nil, cons}
use Rattle.arena.proofs.Layouts.{stands_after}
use Rattle.arena.proofs.Texts.{named, same-equal}
use Rattle.shapes.specs.Shows.{Standing, StandingAll, Reads}

module _ (ws ts : List ℕ) (a : Tree) (us : Trees) (i k : ℕ) (s : StandingAll (cons a us) ws ts i k) where
  pub first_of : Standing a ws ts i
  first_of = record { next = s.there.mid; from = s.from; rest = s.there.off; there = s.there.first }

  pub others-of : (j n : ℕ) → j ≡ after_at ws i → k ≡ suc n → StandingAll us ws ts j n
  others-of j n e h =
      let m : s.there.mid ≡ j = stands_after ws ts a i s.there.mid s.from s.there.off s.there.first ∙ sym e in
      let c = s.many-are in
      record {
        next = s.next;
        from = s.there.off;
        rest = s.rest;
        there = subst (λ (p : ℕ). StandAll us ws ts p s.next s.there.off s.rest) m s.there.others;
        many-are = omega arith;
      }

-- the second of two
pub second-of : (ws ts : List ℕ) (first second : ℕ) → second ≡ after_at ws first → (a b : Tree) → StandingAll (cons a (cons b nil)) ws ts first 2 → Standing b ws ts second
second-of ws ts first second here a b s = first_of ws ts b nil second 1 (others-of ws ts a (cons b nil) first 2 s second 1 here refl)

module _ (ts : List ℕ) (offset size : ℕ) (f : List ℕ) (r : Reads f ts offset size) where
  -- the test of the text is the test of the name
  pub said : (name : List ℕ) → text_is ts offset size name ≡ same_text f name
  said name =
      let l = r.long in
      let w = r.within in
      subst (λ (n : ℕ). text_is ts offset n name ≡ same_text f name) (sym l)
      (named ts f name offset (subst (λ (n : ℕ). text_at ts offset n ≡ f) l r.bytes) (omega arith))

  pub said-so : (name : List ℕ) (b : Bool) → text_is ts offset size name ≡ b → same_text f name ≡ b
  said-so name b e = sym (said name) ∙ e

  pub said-name : (name : List ℕ) → text_is ts offset size name ≡ true → f ≡ name
  said-name name e = same-equal f name (said-so name true e)
