-- Bytes stored one by one from a place on: what holds after so many; and the loop of draw.
-- Assumes nothing.
use mathlib.Core.Path.{◌≡◌, refl, ap, sym, ◌∙◌}
use mathlib.Core.List.{List, [], ◌∷◌, ◌++◌}
use Prim.Native.Nat.{ℕ, suc, ◌+◌, ◌≤◌, ◌<◌}
use native.Mathlib.Omega.{arith}
use native.Mathlib.Nat.{add-zero, le_antisymm}
use native.Mathlib.Numerals.{add-one}
use lib.ListN.{length, get_or, take, drop, set, length-set, length-drop, take-append-drop}
use lib.Seq.{sets, sets-eq, take-suc, take-add, get_or-drop, length-take-le}
use Rattle.ground.proofs.Lists.{drop-sets}
use Rattle.lent.specs.Put.{Puts}

sets-snoc : (l xs : List ℕ) (w b : ℕ) → sets l w (xs ++ (b ∷ [])) ≡ set (sets l w xs) (w + length xs) b
sets-snoc l [] w b = ap (λ (k : ℕ). set l k b) (sym (add-zero w))
sets-snoc l (x ∷ xs) w b =
    sets-snoc (set l w x) xs (suc w) b
    ∙ (let e : suc w + length xs ≡ w + length (x ∷ xs) = omega arith in ap (λ (k : ℕ). set (sets (set l w x) (suc w) xs) k b) e)

-- the first n bytes of a source are stored from w on
pub record Moving (src s₀ s : List ℕ) (w n : ℕ) : Type 0 where
  pub within : n ≤ length src
  pub long : length s ≡ length s₀
  pub holds : s ≡ sets s₀ w (take n src)

-- nothing is stored yet
pub moving_start : (src s : List ℕ) (w : ℕ) → Moving src s s w 0
moving_start src s w = record { within = omega arith; long = refl; holds = refl }

-- one more
pub moving_next : (src s₀ s : List ℕ) (w n b : ℕ) → Moving src s₀ s w n → n < length src → b ≡ get_or src n 0 → Moving src s₀ (set s (w + n) b) w (n + 1)
moving_next src s₀ s w n b h l e = record {
  within = omega arith;
  long = length-set s (w + n) b ∙ h.long;
  holds =
      ap (λ (x : List ℕ). set x (w + n) b) h.holds ∙ ap (λ (v : ℕ). set (sets s₀ w (take n src)) (w + n) v) e
      ∙ ap (λ (k : ℕ). set (sets s₀ w (take n src)) (w + k) (get_or src n 0)) (sym (length-take-le n src (omega arith)))
      ∙ sym (sets-snoc s₀ (take n src) w (get_or src n 0))
      ∙ ap (sets s₀ w) (sym (ap (λ (k : ℕ). take k src) (add-one n) ∙ take-suc src n 0 l));
}

-- what is ahead is as it was
pub ahead : (src s₀ s : List ℕ) (w n m : ℕ) → Moving src s₀ s w n → w + n ≤ m → get_or s m 0 ≡ get_or s₀ m 0
ahead src s₀ s w n m h l =
    let e : drop m s ≡ drop m s₀ = ap (drop m) h.holds ∙ drop-sets (take n src) s₀ w m (omega (arith, length-take-le n src h.within)) in
    ap (λ (k : ℕ). get_or s k 0) (sym (add-zero m)) ∙ sym (get_or-drop m s 0 0) ∙ ap (λ (x : List ℕ). get_or x 0 0) e ∙ get_or-drop m s₀ 0 0 ∙ ap (λ (k : ℕ). get_or s₀ k 0) (add-zero m)

-- ---- the loop of draw

pub record Drawing (s₀ : List ℕ) (w j n : ℕ) (s : List ℕ) (i : ℕ) : Type 0 where
  pub before : w ≤ j
  pub room : j + n ≤ length s₀
  pub within : i ≤ n
  pub long : length s ≡ length s₀
  pub moved : Moving (drop j s₀) s₀ s w i

pub drawing_start : (s : List ℕ) (w j n : ℕ) → (w ≤ j) × (j + n ≤ length s) → Drawing s w j n s 0
drawing_start s w j n h = record { before = h.0; room = h.1; within = omega arith; long = refl; moved = moving_start (drop j s) s w }

pub drawing_next : (s₀ : List ℕ) (w j n : ℕ) (s : List ℕ) (i : ℕ) → Drawing s₀ w j n s i → i < n → Drawing s₀ w j n (set s (w + i) (get_or s (j + i) 0)) (i + 1)
drawing_next s₀ w j n s i h l =
    let b = h.before in
    let r = h.room in
    record {
      before = b;
      room = r;
      within = omega arith;
      long = length-set s (w + i) (get_or s (j + i) 0) ∙ h.long;
      moved = moving_next (drop j s₀) s₀ s w i (get_or s (j + i) 0) h.moved (omega (arith, length-drop j s₀)) (ahead (drop j s₀) s₀ s w i (j + i) h.moved (omega arith) ∙ sym (get_or-drop j s₀ i 0));
    }

pub drawing_end : (s₀ : List ℕ) (w j n : ℕ) (s : List ℕ) (i : ℕ) → Drawing s₀ w j n s i → n ≤ i → Puts s₀ s w (take n (drop j s₀)) (w + n)
drawing_end s₀ w j n s i h l =
    let r = h.room in
    let e : i ≡ n = le_antisymm h.within l in
    record {
      after = ap (λ (k : ℕ). w + k) (sym (length-take-le n (drop j s₀) (omega (arith, length-drop j s₀))));
      holds = h.moved.holds ∙ ap (λ (k : ℕ). sets s₀ w (take k (drop j s₀))) e;
    }

pub drawing_none : (s : List ℕ) (w j n : ℕ) → (w ≤ j) × (j + n ≤ length s) → w ≡ j → Puts s s w (take n (drop j s)) (w + n)
drawing_none s w j n h e =
    let r = h.1 in
    let q : length (take n (drop j s)) ≡ n = length-take-le n (drop j s) (omega (arith, length-drop j s)) in
    record {
      after = ap (λ (k : ℕ). w + k) (sym q);
      holds = sym (sets-eq (take n (drop j s)) s w (omega arith)
          ∙ ap (λ (k : ℕ). take w s ++ take n (drop j s) ++ drop (w + k) s) q
          ∙ ap (λ (k : ℕ). take w s ++ take n (drop k s) ++ drop (w + n) s) (sym e)
          ∙ ap (λ (x : List ℕ). x ++ drop (w + n) s) (sym (take-add w n s))
          ∙ take-append-drop (w + n) s);
    }
