-- The lines of a table's names tell which of them stand there, and with what.
-- Assumes nothing.
use Rattle.std.proofs.Common.{None, Option, Some}
use mathlib.Core.Path.{◌≡◌, refl, ap, ap₂, sym, ◌∙◌, subst}
use mathlib.Core.Bool.{Bool, true, false, not, ◌&&◌, true≢false}
use mathlib.Core.List.{List, [], ◌∷◌, ◌++◌, append_assoc, append_cancel_left, head-eq_of_cons-eq, tail-eq_of_cons-eq}
use Prim.Native.Nat.{ℕ, zero, suc, ◌+◌}
use native.Mathlib.Nat.{add-zero, zero-add}
use native.Mathlib.Omega.{arith}
use lib.Dec.{eqb}
use borrow.Author.Tests.{eqb-true}
use Rattle.ground.specs.Lists.{any, all, distinct, at}
use Rattle.ground.proofs.Tests.{by_test, both_left, both_right, both}
use Rattle.utf8.specs.Octets.{utf8}
use Rattle.lexicon.specs.Class.{other, class_of}
use Rattle.lexicon.specs.Span.{in_symbol}
use Rattle.lexicon.specs.Symbol.{one_symbol}
use Rattle.arena.specs.Text.{same_text}
use Rattle.arena.proofs.Texts.{same_refl}
use Rattle.order.specs.Every.{Every}
use Rattle.tables.proofs.Places.{none-some}
use Rattle.demand.proofs.Looks.{not-any}

-- no byte of it ends a line
abbrev pub lineless : List ℕ → Bool
lineless s = all (λ b. not (eqb b 10)) s

not_ten : (test : ℕ → Bool) (b : ℕ) → test 10 ≡ false → test b ≡ true → not (eqb b 10) ≡ true
not_ten test b f h = by_test (eqb b 10) (λ e. absurd (true≢false (sym h ∙ ap test (eqb-true b 10 e) ∙ f))) (λ e. ap not e)

every-lineless : (s : List ℕ) → all in_symbol s ≡ true → lineless s ≡ true
unfolding all in_symbol class_of
every-lineless [] h = refl
every-lineless (b ∷ bs) h = both (not_ten in_symbol b refl (both_left (in_symbol b) (all in_symbol bs) h)) (every-lineless bs (both_right (in_symbol b) (all in_symbol bs) h))

-- a symbol stands in one line
pub symbol-lineless : (s : List ℕ) → one_symbol s ≡ true → lineless s ≡ true
unfolding one_symbol all class_of
symbol-lineless [] h = absurd (true≢false (sym h))
symbol-lineless (b ∷ bs) h =
    let front = both_left (eqb (class_of b) other && all in_symbol bs) (utf8 (b ∷ bs)) h in
    both (not_ten (λ k. eqb (class_of k) other) b refl (both_left (eqb (class_of b) other) (all in_symbol bs) front))
    (every-lineless bs (both_right (eqb (class_of b) other) (all in_symbol bs) front))

starts-not : (b : ℕ) (bs : List ℕ) → lineless (b ∷ bs) ≡ true → 10 ≡ b → ⊥
unfolding all
starts-not b bs h e = true≢false (sym (both_left (not (eqb b 10)) (lineless bs) h) ∙ ap (λ (k : ℕ). not (eqb k 10)) (sym e))

split-line : (s t a b : List ℕ) → lineless s ≡ true → lineless t ≡ true → s ++ (10 ∷ a) ≡ t ++ (10 ∷ b) → (s ≡ t) × (a ≡ b)
unfolding all
split-line [] [] a b p q e = (refl, tail-eq_of_cons-eq e)
split-line [] (y ∷ t) a b p q e = absurd (starts-not y t q (head-eq_of_cons-eq e))
split-line (x ∷ s) [] a b p q e = absurd (starts-not x s p (sym (head-eq_of_cons-eq e)))
split-line (x ∷ s) (y ∷ t) a b p q e =
    let r = split-line s t a b (both_right (not (eqb x 10)) (lineless s) p) (both_right (not (eqb y 10)) (lineless t) q) (tail-eq_of_cons-eq e) in
    (ap₂ {C = List ℕ} (λ (k : ℕ) (l : List ℕ). k ∷ l) (head-eq_of_cons-eq e) r.0, r.1)

-- with that byte first, or another, or nothing
abbrev pub Begins : ℕ → List ℕ → Type 0
Begins c [] = Unit {0}
Begins c (b ∷ bs) = b ≡ c

abbrev pub Other : ℕ → List ℕ → Type 0
Other c [] = Unit {0}
Other c (b ∷ bs) = b ≡ c → ⊥

-- rows from the k-th on: the lines of what each has, if it has anything
module _ {A X : Type 0} where
  abbrev pub lines_from : (A → Option X → List ℕ) → (ℕ → Option X) → ℕ → List A → List ℕ
  lines_from lines get k [] = []
  lines_from lines get k (a ∷ rows) = lines a (get k) ++ lines_from lines get (suc k) rows

  -- what each has fits its row
  abbrev EachFits : (A → X → Type 0) → (ℕ → Option X) → ℕ → List A → Type 0
  EachFits Fits get k [] = Unit {0}
  EachFits Fits get k (a ∷ rows) = ((x : X) → get k ≡ Some x → Fits a x) × EachFits Fits get (suc k) rows

  each_fits : (Fits : A → X → Type 0) (get : ℕ → Option X) (k : ℕ) (rows : List A) →
      ((j : ℕ) (a : A) (x : X) → at rows j ≡ Some a → get (k + j) ≡ Some x → Fits a x) → EachFits Fits get k rows
  unfolding at
  each_fits Fits get k [] f = tt
  each_fits Fits get k (a ∷ rows) f = (
    λ x e. f 0 a x refl (ap get (add-zero k) ∙ e),
    each_fits Fits get (suc k) rows (λ j b x p q. let g : k + suc j ≡ suc k + j = omega arith in f (suc j) b x p (ap get g ∙ q)),
  )

  abbrev EachSame : (ℕ → Option X) → (ℕ → Option X) → ℕ → List A → Type 0
  EachSame get get' k [] = Unit {0}
  EachSame get get' k (a ∷ rows) = (get k ≡ get' k) × EachSame get get' (suc k) rows

  same_at : (get get' : ℕ → Option X) (k : ℕ) (rows : List A) (j : ℕ) (a : A) → EachSame get get' k rows → at rows j ≡ Some a → get (k + j) ≡ get' (k + j)
  unfolding at
  same_at get get' k [] j a h e = absurd (none-some e)
  same_at get get' k (b ∷ rows) zero a h e = rw (add-zero k) h.0
  same_at get get' k (b ∷ rows) (suc j) a h e =
      let g : suc k + j ≡ k + suc j = omega arith in
      subst (λ (n : ℕ). get n ≡ get' n) g (same_at get get' (suc k) rows j a h.1 e)

-- c and the tag begin the lines of each row that has something; more is what follows its first line, and what follows that
module _ {A X : Type 0} (c : ℕ) (tag : List ℕ) (name : A → List ℕ) (lines : A → Option X → List ℕ) (more : A → X → List ℕ → List ℕ)
    (no_lines : (a : A) → lines a None ≡ []) (some-lines : (a : A) (x : X) (z : List ℕ) → lines a (Some x) ++ z ≡ c ∷ (tag ++ (name a ++ (10 ∷ more a x z)))) where
  pub begins : (get : ℕ → Option X) (k : ℕ) (rows : List A) → Begins c (lines_from lines get k rows)
  begins get k [] = tt
  begins get k (a ∷ rows) = go (get k) (begins get (suc k) rows)
    where
      go : (o : Option X) → Begins c (lines_from lines get (suc k) rows) → Begins c (lines a o ++ lines_from lines get (suc k) rows)
      go None h = subst (λ (l : List ℕ). Begins c (l ++ lines_from lines get (suc k) rows)) (sym (no_lines a)) h
      go (Some x) h = subst (Begins c) (sym (some-lines a x (lines_from lines get (suc k) rows))) refl

  abbrev Apart : List ℕ → List A → Type 0
  Apart s rows = Every (λ a. name a ≡ s → ⊥) rows

  abbrev pub Lineless : List A → Type 0
  Lineless rows = Every (λ a. lineless (name a) ≡ true) rows

  -- none of the lines is that of another name
  module _ (get : ℕ → Option X) (s rest z : List ℕ) (whole : lineless s ≡ true) (elsewhere : Other c z) where
    absent : (k : ℕ) (rows : List A) → Lineless rows → Apart s rows → lines_from lines get k rows ++ z ≡ c ∷ (tag ++ (s ++ (10 ∷ rest))) → ⊥
    absent k [] Every.none Every.none e = subst (Other c) e elsewhere refl
    absent k (a ∷ rows) (Every.also l ls) (Every.also n ns) e =
        go (get k) (sym (append_assoc (lines a (get k)) (lines_from lines get (suc k) rows) z) ∙ e) (absent (suc k) rows ls ns)
      where
        go : (o : Option X) → lines a o ++ (lines_from lines get (suc k) rows ++ z) ≡ c ∷ (tag ++ (s ++ (10 ∷ rest))) →
            (lines_from lines get (suc k) rows ++ z ≡ c ∷ (tag ++ (s ++ (10 ∷ rest))) → ⊥) → ⊥
        go None q f = f (sym (ap (λ (l : List ℕ). l ++ (lines_from lines get (suc k) rows ++ z)) (no_lines a)) ∙ q)
        go (Some x) q f =
            let m = more a x (lines_from lines get (suc k) rows ++ z) in
            let t = tail-eq_of_cons-eq (sym (some-lines a x (lines_from lines get (suc k) rows ++ z)) ∙ q) in
            n (split-line (name a) s m rest l whole (append_cancel_left tag (name a ++ (10 ∷ m)) (s ++ (10 ∷ rest)) t)).0

  names_apart : (a : A) (rows : List A) → any (λ b. same_text (name a) (name b)) rows ≡ false → Apart (name a) rows
  unfolding any
  names_apart a [] n = Every.none
  names_apart a (b ∷ rows) n =
      by_test (same_text (name a) (name b))
      (λ h. absurd (true≢false (rw h at n)))
      (λ h. Every.also (λ q. true≢false (sym (ap (λ (s : List ℕ). same_text (name a) s) q ∙ same_refl (name a)) ∙ h)) (names_apart a rows (rw h at n)))

  module _ (Fits : A → X → Type 0) (tells : (a : A) (x y : X) (z z' : List ℕ) → Fits a x → Fits a y → more a x z ≡ more a y z' → (x ≡ y) × (z ≡ z')) where
    module _ (get get' : ℕ → Option X) where
      module _ (k : ℕ) (a : A) (rows : List A) (z z' : List ℕ) (l : lineless (name a) ≡ true) (ls : Lineless rows) (n : Apart (name a) rows) (p : Other c z) (p' : Other c z')
          (below : lines_from lines get (suc k) rows ++ z ≡ lines_from lines get' (suc k) rows ++ z' → EachSame get get' (suc k) rows × (z ≡ z')) where
        abbrev after : List ℕ
        after = lines_from lines get (suc k) rows ++ z

        abbrev after' : List ℕ
        after' = lines_from lines get' (suc k) rows ++ z'

        one-row : (o o' : Option X) → get k ≡ o → get' k ≡ o' → ((x : X) → o ≡ Some x → Fits a x) → ((x : X) → o' ≡ Some x → Fits a x) →
            lines a o ++ after ≡ lines a o' ++ after' → (get k ≡ get' k) × (EachSame get get' (suc k) rows × (z ≡ z'))
        one-row None None g g' f f' e =
            (g ∙ sym g', below (sym (ap (λ (s : List ℕ). s ++ after) (no_lines a)) ∙ e ∙ ap (λ (s : List ℕ). s ++ after') (no_lines a)))
        one-row None (Some y) g g' f f' e =
            absurd (absent get (name a) (more a y after') z l p (suc k) rows ls n (sym (ap (λ (s : List ℕ). s ++ after) (no_lines a)) ∙ e ∙ some-lines a y after'))
        one-row (Some x) None g g' f f' e =
            absurd (absent get' (name a) (more a x after) z' l p' (suc k) rows ls n (sym (ap (λ (s : List ℕ). s ++ after') (no_lines a)) ∙ sym e ∙ some-lines a x after))
        one-row (Some x) (Some y) g g' f f' e =
            let t = tail-eq_of_cons-eq (sym (some-lines a x after) ∙ e ∙ some-lines a y after') in
            let u = append_cancel_left (name a) _ _ (append_cancel_left tag _ _ t) in
            let w = tells a x y after after' (f x refl) (f' y refl) (tail-eq_of_cons-eq u) in
            (g ∙ ap Some w.0 ∙ sym g', below w.1)

      -- what stands before another byte, and that byte on
      tell-from : (k : ℕ) (rows : List A) (z z' : List ℕ) → EachFits Fits get k rows → EachFits Fits get' k rows → Lineless rows →
          distinct (λ a b. same_text (name a) (name b)) rows ≡ true → Other c z → Other c z' →
          lines_from lines get k rows ++ z ≡ lines_from lines get' k rows ++ z' → EachSame get get' k rows × (z ≡ z')
      unfolding distinct
      tell-from k [] z z' f f' Every.none d p p' e = (tt, e)
      tell-from k (a ∷ rows) z z' f f' (Every.also l ls) d p p' e =
          let apart = any (λ b. same_text (name a) (name b)) rows in
          let others = distinct (λ b c. same_text (name b) (name c)) rows in
          let n = names_apart a rows (not-any apart (both_left (not apart) others d)) in
          let w =
          one-row k a rows z z' l ls n p p' (λ q. tell-from (suc k) rows z z' f.1 f'.1 ls (both_right (not apart) others d) p p' q)
          (get k) (get' k) refl refl f.0 f'.0
          (sym (append_assoc (lines a (get k)) (lines_from lines get (suc k) rows) z) ∙ e ∙ append_assoc (lines a (get' k)) (lines_from lines get' (suc k) rows) z') in
          ((w.0, w.1.0), w.1.1)

      -- the same of all rows, by their numbers
      pub tell-rows : (rows : List A) (z z' : List ℕ) →
          ((i : ℕ) (a : A) (x : X) → at rows i ≡ Some a → get i ≡ Some x → Fits a x) → ((i : ℕ) (a : A) (x : X) → at rows i ≡ Some a → get' i ≡ Some x → Fits a x) →
          Lineless rows → distinct (λ a b. same_text (name a) (name b)) rows ≡ true → Other c z → Other c z' →
          lines_from lines get 0 rows ++ z ≡ lines_from lines get' 0 rows ++ z' → ((i : ℕ) (a : A) → at rows i ≡ Some a → get i ≡ get' i) × (z ≡ z')
      tell-rows rows z z' f f' l d p p' e =
          let w =
          tell-from 0 rows z z'
          (each_fits Fits get 0 rows (λ j a x h g. f j a x h (ap get (sym (zero-add j)) ∙ g)))
          (each_fits Fits get' 0 rows (λ j a x h g. f' j a x h (ap get' (sym (zero-add j)) ∙ g)))
          l d p p' e in
          (λ i a h. subst (λ (n : ℕ). get n ≡ get' n) (zero-add i) (same_at get get' 0 rows i a w.0 h), w.1)
