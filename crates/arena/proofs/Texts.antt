-- Texts compared a byte at a time.
-- Assumes nothing.
use mathlib.Core.Path.{◌≡◌, refl, sym, ap, ◌∙◌}
use mathlib.Core.Bool.{Bool, true, false, true≢false, ◌&&◌, and_assoc}
use mathlib.Core.List.{List, [], ◌∷◌}
use Prim.Native.Nat.{ℕ, suc, ◌+◌, ◌≤◌, ◌<◌}
use lib.Dec.{eqb}
use lib.ListN.{length, get_or, drop}
use lib.Seq.{drop-length}
use borrow.Author.Tests.{eq-eqb, ne_eqb, eqb-true, le-leb, lt-leb}
use Rattle.ground.proofs.Tests.{by_test, and-false, and-true}
use Rattle.ground.proofs.Lists.{at_place}
use Rattle.arena.specs.Text.{text_at, same_text, text_is}

pub same_lengths : (a b : List ℕ) → (length a ≡ length b → ⊥) → false ≡ same_text a b
unfolding same_text
same_lengths [] [] h = absurd (h refl)
same_lengths [] (y ∷ ys) h = refl
same_lengths (x ∷ xs) [] h = refl
same_lengths (x ∷ xs) (y ∷ ys) h =
    sym (and-false (eqb x y)) ∙ ap (λ (t : Bool). eqb x y && t) (same_lengths xs ys (λ e. h (ap suc e)))

module _ (a b : List ℕ) (i : ℕ) (inside : i < length a) (within : i < length b) where
  same_step : same_text (drop i a) (drop i b) ≡ (eqb (get_or a i 0) (get_or b i 0) && same_text (drop (i + 1) a) (drop (i + 1) b))
  unfolding same_text
  same_step = rw (at_place a i inside, at_place b i within)

  -- what was alike so far, and these two bytes
  pub same-onward : (all next : Bool) → next ≡ (all && eqb (get_or a i 0) (get_or b i 0)) → (all && same_text (drop i a) (drop i b)) ≡ (next && same_text (drop (i + 1) a) (drop (i + 1) b))
  same-onward all next e =
      ap (λ (t : Bool). all && t) same_step
      ∙ sym (and_assoc all (eqb (get_or a i 0) (get_or b i 0)) (same_text (drop (i + 1) a) (drop (i + 1) b)))
      ∙ ap (λ (t : Bool). t && same_text (drop (i + 1) a) (drop (i + 1) b)) (sym e)

  pub same_stop : (get_or a i 0 ≡ get_or b i 0 → ⊥) → same_text (drop i a) (drop i b) ≡ false
  same_stop e = same_step ∙ ap (λ (t : Bool). t && same_text (drop (i + 1) a) (drop (i + 1) b)) (ne_eqb _ _ e)

pub same_end : (a b : List ℕ) (i : ℕ) → length a ≡ length b → i ≡ length a → same_text (drop i a) (drop i b) ≡ true
unfolding same_text
same_end a b i e h = rw (h, drop-length a, e, drop-length b)

pub same-all : (a b : List ℕ) (i : ℕ) (all : Bool) → length a ≡ length b → i ≡ length a → same_text a b ≡ (all && same_text (drop i a) (drop i b)) → all ≡ same_text a b
same-all a b i all e h q = sym (q ∙ ap (λ (t : Bool). all && t) (same_end a b i e h) ∙ and-true all)

pub same_none : (a b : List ℕ) → length a ≡ length b → length a ≡ 0 → true ≡ same_text a b
same_none a b e h = sym (same_end a b 0 e (sym h))

-- the test says yes of equal texts, and of no others
pub same_refl : (a : List ℕ) → same_text a a ≡ true
unfolding same_text
same_refl [] = refl
same_refl (x ∷ xs) = ap (λ (t : Bool). t && same_text xs xs) (eq-eqb x x refl) ∙ same_refl xs

pub same-equal : (a b : List ℕ) → same_text a b ≡ true → a ≡ b
unfolding same_text
same-equal [] [] e = refl
same-equal [] (y ∷ ys) e = absurd (true≢false (sym e))
same-equal (x ∷ xs) [] e = absurd (true≢false (sym e))
same-equal (x ∷ xs) (y ∷ ys) e =
    by_test (eqb x y)
    (λ t.
    let h : x ≡ y = eqb-true x y t in
    let g : xs ≡ ys = same-equal xs ys (ap (λ (b : Bool). b && same_text xs ys) (sym t) ∙ e) in
    cc)
    (λ t. absurd (true≢false (sym e ∙ ap (λ (b : Bool). b && same_text xs ys) t)))

module _ (ts : List ℕ) (offset size : ℕ) (name : List ℕ) where
  pub is-past : length ts < offset + size → false ≡ text_is ts offset size name
  unfolding text_is
  is-past h = rw (lt-leb (offset + size) (length ts) h)

  pub is_within : offset + size ≤ length ts → same_text (text_at ts offset size) name ≡ text_is ts offset size name
  unfolding text_is
  is_within h = rw (le-leb (offset + size) (length ts) h)

-- of a text that stands, the name is asked of the text alone
pub named : (ts s name : List ℕ) (x : ℕ) → text_at ts x (length s) ≡ s → x + length s ≤ length ts → text_is ts x (length s) name ≡ same_text s name
named ts s name x w m = sym (is_within ts x (length s) name m) ∙ ap (λ (l : List ℕ). same_text l name) w
