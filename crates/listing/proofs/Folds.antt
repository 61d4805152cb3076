-- What so many numbers from one on give, put together one after the other.
-- Assumes nothing.
use mathlib.Core.Path.{◌≡◌, refl, sym, ap, ap₂, ◌∙◌}
use mathlib.Core.List.{List, [], ◌∷◌, ◌++◌, append_assoc}
use Prim.Native.Nat.{ℕ, zero, suc, ◌+◌, ◌-◌, ◌*◌, ◌≤◌, ◌<◌}
use native.Mathlib.Nat.{suc-mul}
use native.Mathlib.Omega.{arith}
use lib.ListN.{length, length-append}
use Rattle.ground.specs.Lists.{tabulate}

module _ {A : Type 0} (op : A → A → A) (e : A) where
  unfoldable pub over : (ℕ → A) → ℕ → ℕ → A
  over g i zero = e
  over g i (suc n) = op (g i) (over g (suc i) n)

  pub over-next : (g : ℕ → A) (n i : ℕ) → i < n → over g i (n - i) ≡ op (g i) (over g (i + 1) (n - (i + 1)))
  unfolding over
  over-next g n i h =
      let u : n - i ≡ suc (n - (i + 1)) = omega arith in
      let v : suc i ≡ i + 1 = omega arith in
      ap (λ (k : ℕ). over g i k) u ∙ ap (λ (j : ℕ). op (g i) (over g j (n - (i + 1)))) v

  pub over-end : (g : ℕ → A) (n i : ℕ) → n ≤ i → over g i (n - i) ≡ e
  unfolding over
  over-end g n i h = let u : n - i ≡ 0 = omega arith in ap (λ (k : ℕ). over g i k) u

  -- two that give the same, from two numbers on
  pub over_as : (g h : ℕ → A) (n i j : ℕ) → ((k : ℕ) → k < n → g (i + k) ≡ h (j + k)) → over g i n ≡ over h j n
  unfolding over
  over_as g h zero i j s = refl
  over_as g h (suc n) i j s =
      let u : i ≡ i + 0 = omega arith in
      let v : j + 0 ≡ j = omega arith in
      ap₂ op (ap g u ∙ s 0 (omega arith) ∙ ap h v)
      (over_as g h n (suc i) (suc j)
      (λ k b. let p : suc i + k ≡ i + suc k = omega arith in let q : j + suc k ≡ suc j + k = omega arith in ap g p ∙ s (suc k) (omega arith) ∙ ap h q))

  -- the first ones, then the others
  module _ (unit : (a : A) → op e a ≡ a) (assoc : (a b c : A) → op (op a b) c ≡ op a (op b c)) where
    over-both : (g : ℕ → A) (n m i : ℕ) → over g i (n + m) ≡ op (over g i n) (over g (i + n) m)
    unfolding over
    over-both g zero m i =
        let u : 0 + m ≡ m = omega arith in
        let v : i ≡ i + 0 = omega arith in
        ap (λ (k : ℕ). over g i k) u ∙ ap (λ (j : ℕ). over g j m) v ∙ sym (unit (over g (i + 0) m))
    over-both g (suc n) m i =
        let u : suc n + m ≡ suc (n + m) = omega arith in
        let v : suc i + n ≡ i + suc n = omega arith in
        ap (λ (k : ℕ). over g i k) u
        ∙ ap (op (g i)) (over-both g n m (suc i) ∙ ap (λ (j : ℕ). op (over g (suc i) n) (over g j m)) v)
        ∙ sym (assoc (g i) (over g (suc i) n) (over g (i + suc n) m))

    pub over-parts : (g f h : ℕ → A) (n m : ℕ) → ((k : ℕ) → k < n → g k ≡ f k) → ((k : ℕ) → k < m → g (n + k) ≡ h k) → over g 0 (n + m) ≡ op (over f 0 n) (over h 0 m)
    over-parts g f h n m s t =
        over-both g n m 0
        ∙ ap₂ op
        (over_as g f n 0 0 (λ k b. let u : 0 + k ≡ k = omega arith in ap g u ∙ s k b ∙ ap f (sym u)))
        (over_as g h m (0 + n) 0 (λ k b. let u : 0 + n + k ≡ n + k = omega arith in let v : k ≡ 0 + k = omega arith in ap g u ∙ t k b ∙ ap h v))

  -- a table's rows, taken one after the other
  pub rows-over : {R : Type 0} (F : ℕ → List R → A) (h : ℕ → R → A) → ((i : ℕ) → F i [] ≡ e) → ((i : ℕ) (r : R) (rs : List R) → F i (r ∷ rs) ≡ op (h i r) (F (suc i) rs)) →
      (f : ℕ → R) (i n : ℕ) → F i (tabulate f i n) ≡ over (λ j. h j (f j)) i n
  unfolding over tabulate
  rows-over F h s t f i zero = s i
  rows-over F h s t f i (suc n) = t i (f i) (tabulate f (suc i) n) ∙ ap (op (h i (f i))) (rows-over F h s t f (suc i) n)

abbrev pub texts : (ℕ → List ℕ) → ℕ → ℕ → List ℕ
texts = over (λ a b. a ++ b) []

abbrev pub sums : (ℕ → ℕ) → ℕ → ℕ → ℕ
sums = over (λ a b. a + b) 0

pub texts-parts : (g f h : ℕ → List ℕ) (n m : ℕ) → ((k : ℕ) → k < n → g k ≡ f k) → ((k : ℕ) → k < m → g (n + k) ≡ h k) → texts g 0 (n + m) ≡ texts f 0 n ++ texts h 0 m
texts-parts = over-parts (λ a b. a ++ b) [] (λ a. refl) append_assoc

pub sums-parts : (g f h : ℕ → ℕ) (n m : ℕ) → ((k : ℕ) → k < n → g k ≡ f k) → ((k : ℕ) → k < m → g (n + k) ≡ h k) → sums g 0 (n + m) ≡ sums f 0 n + sums h 0 m
sums-parts = over-parts (λ a b. a + b) 0 (λ a. omega arith) (λ a b c. omega arith)

pub sums_none : (i n : ℕ) → sums (λ j. 0) i n ≡ 0
unfolding over
sums_none i zero = refl
sums_none i (suc n) = let p = sums_none (suc i) n in omega arith

pub length-texts : (g : ℕ → List ℕ) (i n : ℕ) → length (texts g i n) ≡ sums (λ j. length (g j)) i n
unfolding over
length-texts g i zero = refl
length-texts g i (suc n) = length-append (g i) (texts g (suc i) n) ∙ ap (λ (k : ℕ). length (g i) + k) (length-texts g (suc i) n)

-- so many, each at most so large
pub sums-most : (g : ℕ → ℕ) (most i n : ℕ) → ((k : ℕ) → g k ≤ most) → sums g i n ≤ n * most
unfolding over
sums-most g most i zero h = omega arith
sums-most g most i (suc n) h = let p = h i in let q = sums-most g most (suc i) n h in omega (arith, suc-mul n most)
