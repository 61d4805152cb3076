-- What is compared of any bytes, and what of a record.
-- Assumes nothing.
use mathlib.Core.Path.{◌≡◌, refl, ap, sym, ◌∙◌}
use mathlib.Core.Bool.{Bool, true, false, cond, ◌&&◌, not}
use mathlib.Core.List.{List, [], ◌∷◌, ◌++◌}
use Prim.Native.Nat.{ℕ, ◌+◌, ◌-◌, ◌≤◌, ◌<◌}
use native.Mathlib.Omega.{arith}
use lib.ListN.{length, get_or, drop, drop_of_length-le}
use lib.Dec.{eqb}
use borrow.Author.Tests.{eq-eqb, ne_eqb, eqb-true, eqb-false}
use Rattle.ground.specs.Lists.{all}
use Rattle.ground.proofs.Tests.{by_test, by_order}
use Rattle.ground.proofs.Lists.{at_place}
use Rattle.order.specs.Order.{before}
use Rattle.order.proofs.Befores.{never, before-none, before-some, before-less, before_more, before_same}
use Rattle.runs.specs.Run.{key, plain}
use Rattle.runs.specs.Piece.{mark, word, cell, key_at}
use Rattle.runs.specs.Place.{Skipped}

-- ---- the byte that is compared

mark-nil : mark [] ≡ 0
unfolding mark
mark-nil = refl

mark-stop : (b : ℕ) (bs : List ℕ) → b ≡ 10 → mark (b ∷ bs) ≡ 0
unfolding mark
mark-stop b bs e = ap (λ (t : Bool). cond t 0 b) (eq-eqb b 10 e)

mark-byte : (b : ℕ) (bs : List ℕ) → (b ≡ 10 → ⊥) → mark (b ∷ bs) ≡ b
unfolding mark
mark-byte b bs e = ap (λ (t : Bool). cond t 0 b) (ne_eqb b 10 e)

pub mark-past : (s : List ℕ) (i : ℕ) → length s ≤ i → 0 ≡ mark (drop i s)
mark-past s i h = sym (ap mark (drop_of_length-le s h) ∙ mark-nil)

pub mark-stopped : (s : List ℕ) (i : ℕ) → i < length s → get_or s i 0 ≡ 10 → 0 ≡ mark (drop i s)
mark-stopped s i h e = sym (ap mark (at_place s i h) ∙ mark-stop (get_or s i 0) (drop (i + 1) s) e)

pub mark-other : (s : List ℕ) (i : ℕ) → i < length s → (get_or s i 0 ≡ 10 → ⊥) → get_or s i 0 ≡ mark (drop i s)
mark-other s i h e = sym (ap mark (at_place s i h) ∙ mark-byte (get_or s i 0) (drop (i + 1) s) e)

pub mark-within : (s : List ℕ) (i : ℕ) → (mark (drop i s) ≡ 0 → ⊥) → i < length s
mark-within s i h = by_order i (length s) (λ l. l) (λ l. absurd (h (sym (mark-past s i l))))

-- ---- words

word-nil : word [] ≡ []
unfolding word
word-nil = refl

word-stop : (b : ℕ) (bs : List ℕ) → b ≡ 10 → word (b ∷ bs) ≡ []
unfolding word
word-stop b bs e = ap (λ (t : Bool). cond t [] (cond (eqb b 0) [] (b ∷ word bs))) (eq-eqb b 10 e)

word-rest : (b : ℕ) (bs : List ℕ) → (b ≡ 10 → ⊥) → word (b ∷ bs) ≡ cond (eqb b 0) [] (b ∷ word bs)
unfolding word
word-rest b bs e = ap (λ (t : Bool). cond t [] (cond (eqb b 0) [] (b ∷ word bs))) (ne_eqb b 10 e)

word_end : (b : ℕ) (bs : List ℕ) → (b ≡ 10 → ⊥) → b ≡ 0 → word (b ∷ bs) ≡ []
word_end b bs e z = word-rest b bs e ∙ ap (λ (t : Bool). cond t [] (b ∷ word bs)) (eq-eqb b 0 z)

word_byte : (b : ℕ) (bs : List ℕ) → (b ≡ 10 → ⊥) → (b ≡ 0 → ⊥) → word (b ∷ bs) ≡ b ∷ word bs
word_byte b bs e z = word-rest b bs e ∙ ap (λ (t : Bool). cond t [] (b ∷ word bs)) (ne_eqb b 0 z)

word-marked : (l : List ℕ) → mark l ≡ 0 → word l ≡ []
word-marked [] h = word-nil
word-marked (b ∷ bs) h =
    by_test (eqb b 10)
    (λ e. word-stop b bs (eqb-true b 10 e))
    (λ e. let n = eqb-false b 10 e in word_end b bs n (sym (mark-byte b bs n) ∙ h))

word-going : (b : ℕ) (bs : List ℕ) → (mark (b ∷ bs) ≡ 0 → ⊥) → word (b ∷ bs) ≡ mark (b ∷ bs) ∷ word bs
word-going b bs h =
    by_test (eqb b 10)
    (λ e. absurd (h (mark-stop b bs (eqb-true b 10 e))))
    (λ e. let n = eqb-false b 10 e in
    word_byte b bs n (λ z. h (mark-byte b bs n ∙ z)) ∙ ap (λ (x : ℕ). x ∷ word bs) (sym (mark-byte b bs n)))

key-marked : (s : List ℕ) (i : ℕ) → mark (drop i s) ≡ 0 → key_at s i ≡ []
unfolding key_at
key-marked s i h = word-marked (drop i s) h

key-going : (s : List ℕ) (i : ℕ) → (mark (drop i s) ≡ 0 → ⊥) → key_at s i ≡ mark (drop i s) ∷ key_at s (i + 1)
unfolding key_at
key-going s i h =
    let e : drop i s ≡ get_or s i 0 ∷ drop (i + 1) s = at_place s i (mark-within s i h) in
    ap word e ∙ word-going (get_or s i 0) (drop (i + 1) s) (λ z. h (ap mark e ∙ z)) ∙ ap (λ (l : List ℕ). mark l ∷ word (drop (i + 1) s)) (sym e)

-- ---- the loop of less

pub record Level (a b : List ℕ) (p q i j : ℕ) : Type 0 where
  pub same : before (key_at a i) (key_at b j) ≡ before (key_at a p) (key_at b q)

pub level-start : (a b : List ℕ) (p q : ℕ) → Level a b p q p q
level-start a b p q = record { same = refl }

module _ (a b : List ℕ) (p q i j x y : ℕ) (h : Level a b p q i j) (x-is : x ≡ mark (drop i a)) (y-is : y ≡ mark (drop j b)) where
  pub level-none : y ≡ 0 → false ≡ before (key_at a p) (key_at b q)
  level-none z = sym (before-none (key_at a i)) ∙ ap (before (key_at a i)) (sym (key-marked b j (sym y-is ∙ z))) ∙ h.same

  going_b : (y ≡ 0 → ⊥) → key_at b j ≡ y ∷ key_at b (j + 1)
  going_b n = key-going b j (λ z. n (y-is ∙ z)) ∙ ap (λ (v : ℕ). v ∷ key_at b (j + 1)) (sym y-is)

  going-a : (x ≡ 0 → ⊥) → key_at a i ≡ x ∷ key_at a (i + 1)
  going-a n = key-going a i (λ z. n (x-is ∙ z)) ∙ ap (λ (v : ℕ). v ∷ key_at a (i + 1)) (sym x-is)

  pub level-less : (y ≡ 0 → ⊥) → x < y → true ≡ before (key_at a p) (key_at b q)
  level-less n l =
      by_test (eqb x 0)
      (λ e. sym (ap (λ (k : List ℕ). before k (key_at b j)) (key-marked a i (sym x-is ∙ eqb-true x 0 e)) ∙ ap (before []) (going_b n) ∙ before-some y (key_at b (j + 1))) ∙ h.same)
      (λ e. sym (ap (λ (k : List ℕ). before k (key_at b j)) (going-a (eqb-false x 0 e)) ∙ ap (before (x ∷ key_at a (i + 1))) (going_b n) ∙ before-less x y (key_at a (i + 1)) (key_at b (j + 1)) l) ∙ h.same)

  pub level-more : (y ≡ 0 → ⊥) → y < x → false ≡ before (key_at a p) (key_at b q)
  level-more n l =
      sym (ap (λ (k : List ℕ). before k (key_at b j)) (going-a (λ z. omega arith)) ∙ ap (before (x ∷ key_at a (i + 1))) (going_b n) ∙ before_more x y (key_at a (i + 1)) (key_at b (j + 1)) l) ∙ h.same

  pub level-next : (y ≡ 0 → ⊥) → y ≤ x → x ≤ y → Level a b p q (i + 1) (j + 1)
  level-next n l m =
      let e : x ≡ y = omega arith in
      let nx : x ≡ 0 → ⊥ = λ z. n (sym e ∙ z) in
      record { same = sym (ap (λ (k : List ℕ). before k (key_at b j)) (going-a nx) ∙ ap (before (x ∷ key_at a (i + 1))) (going_b n ∙ ap (λ (v : ℕ). v ∷ key_at b (j + 1)) (sym e)) ∙ before_same x (key_at a (i + 1)) (key_at b (j + 1))) ∙ h.same }

  pub level-room : (y ≡ 0 → ⊥) → y ≤ x → i < length a
  level-room n l = mark-within a i (λ z. n (let e : x ≡ 0 = x-is ∙ z in omega arith))

  pub level-room_2 : (y ≡ 0 → ⊥) → j < length b
  level-room_2 n = mark-within b j (λ z. n (y-is ∙ z))

-- ---- the bytes that two keys share

pub record Skipping (a b : List ℕ) (p q i j : ℕ) : Type 0 where
  pub up : p ≤ i
  pub even : j ≡ q + (i - p)
  pub room : p < i → j ≤ length b
  pub level : Level a b p q i j

pub skipping_start : (a b : List ℕ) (p q : ℕ) → Skipping a b p q p q
skipping_start a b p q = record { up = omega arith; even = omega arith; room = λ h. absurd (omega (arith, h)); level = level-start a b p q }

module _ (a b : List ℕ) (p q i j : ℕ) (h : Skipping a b p q i j) where
  pub skipping_next : i < length a → j < length b → get_or a i 0 ≡ get_or b j 0 → 10 < get_or a i 0 → Skipping a b p q (i + 1) (j + 1)
  skipping_next u v e k =
      record {
        up = omega (arith, h.up);
        even = omega (arith, h.even, h.up);
        room = λ l. omega arith;
        level =
            level-next a b p q i j (get_or a i 0) (get_or b j 0) h.level (mark-other a i u (λ z. omega arith)) (mark-other b j v (λ z. omega (arith, e)))
            (λ z. omega (arith, e)) (omega (arith, e)) (omega (arith, e));
      }

  pub skipped : Skipped a b p q i
  skipped =
      record {
        up = h.up;
        room = λ l. omega (arith, h.room l, h.even);
        same = ap (λ (k : ℕ). before (key_at a i) (key_at b k)) (sym h.even) ∙ h.level.same;
      }

pub skipped-fits : (a b : List ℕ) (p q r : ℕ) → Skipped a b p q r → q < 18446744073709551616 → length b < 18446744073709551616 → q + (r - p) < 18446744073709551616
skipped-fits a b p q r h k l = by_order p r (λ m. omega (arith, h.room m)) (λ m. omega (arith, m))

pub level-skipped : (a b : List ℕ) (p q r j : ℕ) → Skipped a b p q r → j ≡ q + (r - p) → Level a b p q r j
level-skipped a b p q r j h e = record { same = ap (λ (k : ℕ). before (key_at a r) (key_at b k)) e ∙ h.same }

-- ---- records

pub plain-head : (b : ℕ) (r : List ℕ) → plain (b ∷ r) ≡ true → b ≡ 0 → ⊥
unfolding all
plain-head b r h z = never (sym h ∙ ap (λ (t : Bool). not t && plain r) (eq-eqb b 0 z))

pub plain-tail : (b : ℕ) (r : List ℕ) → plain (b ∷ r) ≡ true → plain r ≡ true
unfolding all
plain-tail b r h = sym (ap (λ (t : Bool). not t && plain r) (ne_eqb b 0 (plain-head b r h))) ∙ h

key-nil : key [] ≡ []
unfolding key
key-nil = refl

key-stop : (b : ℕ) (bs : List ℕ) → b ≡ 10 → key (b ∷ bs) ≡ []
unfolding key
key-stop b bs e = ap (λ (t : Bool). cond t [] (b ∷ key bs)) (eq-eqb b 10 e)

key-byte : (b : ℕ) (bs : List ℕ) → (b ≡ 10 → ⊥) → key (b ∷ bs) ≡ b ∷ key bs
unfolding key
key-byte b bs e = ap (λ (t : Bool). cond t [] (b ∷ key bs)) (ne_eqb b 10 e)

-- the word at a record is its key
pub word_record : (r t : List ℕ) → plain r ≡ true → word (r ++ (0 ∷ t)) ≡ key r
word_record [] t h = word_end 0 t (λ z. omega arith) refl ∙ sym key-nil
word_record (b ∷ r) t h =
    by_test (eqb b 10)
    (λ e. word-stop b (r ++ (0 ∷ t)) (eqb-true b 10 e) ∙ sym (key-stop b r (eqb-true b 10 e)))
    (λ e. let n = eqb-false b 10 e in
    word_byte b (r ++ (0 ∷ t)) n (plain-head b r h) ∙ ap (λ (l : List ℕ). b ∷ l) (word_record r t (plain-tail b r h)) ∙ sym (key-byte b r n))

cell-end : (b : ℕ) (bs : List ℕ) → b ≡ 0 → cell (b ∷ bs) ≡ []
unfolding cell
cell-end b bs e = ap (λ (t : Bool). cond t [] (b ∷ cell bs)) (eq-eqb b 0 e)

cell-byte : (b : ℕ) (bs : List ℕ) → (b ≡ 0 → ⊥) → cell (b ∷ bs) ≡ b ∷ cell bs
unfolding cell
cell-byte b bs e = ap (λ (t : Bool). cond t [] (b ∷ cell bs)) (ne_eqb b 0 e)

cell-nil : cell [] ≡ []
unfolding cell
cell-nil = refl

pub cell_record : (r t : List ℕ) → plain r ≡ true → cell (r ++ (0 ∷ t)) ≡ r
cell_record [] t h = cell-end 0 t refl
cell_record (b ∷ r) t h = cell-byte b (r ++ (0 ∷ t)) (plain-head b r h) ∙ ap (λ (l : List ℕ). b ∷ l) (cell_record r t (plain-tail b r h))

-- the key of what stands before an end is the word
pub key-cell : (l : List ℕ) → key (cell l) ≡ word l
key-cell [] = ap key cell-nil ∙ key-nil ∙ sym word-nil
key-cell (b ∷ bs) =
    by_test (eqb b 0)
    (λ e. let z = eqb-true b 0 e in
    ap key (cell-end b bs z) ∙ key-nil ∙ sym (word_end b bs (λ y. omega arith) z))
    (λ e. let z = eqb-false b 0 e in
    ap key (cell-byte b bs z)
    ∙ by_test (eqb b 10)
    (λ f. key-stop b (cell bs) (eqb-true b 10 f) ∙ sym (word-stop b bs (eqb-true b 10 f)))
    (λ f. let n = eqb-false b 10 f in key-byte b (cell bs) n ∙ ap (λ (l : List ℕ). b ∷ l) (key-cell bs) ∙ sym (word_byte b bs n z)))
