-- A run in order as the rest of a set's text: a comma for each end, and a brace for the last.
-- Assumes nothing.
use mathlib.Core.Path.{◌≡◌, refl, sym, ap, ◌∙◌, subst}
use mathlib.Core.Bool.{true}
use mathlib.Core.List.{List, [], ◌∷◌, ◌++◌, append_assoc}
use Prim.Native.Nat.{ℕ, ◌+◌, ◌-◌, ◌<◌}
use native.Mathlib.Omega.{arith}
use lib.ListN.{length, take, set, replicate, length-append, length-set}
use lib.Seq.{take_at, set_at}
use Rattle.ground.specs.Bytes.{bytes}
use Rattle.ground.specs.Lists.{all, joined}
use Rattle.ground.proofs.Tests.{by_test, both_left, both_right}
use Rattle.moves.specs.Replace.{replacement, replaced}
use Rattle.moves.proofs.Replaces.{replaced-append, replaced-none}
use Rattle.order.specs.Order.{before, insert, arranged}
use Rattle.order.proofs.Arranges.{all-arranged}
use Rattle.runs.specs.Run.{end, key, run, plain, Arranges}
use Rattle.runs.specs.Arrange.{ArrangedAs}
use Rattle.runs.proofs.Runs.{run-nil, run_none}
use Rattle.value_text.specs.Closed.{closed, Closed, Closes}

-- the first record of a run, with another byte behind it
pub replaced-first : (to : ℕ) (r : List ℕ) (rs : List (List ℕ)) → all plain (r ∷ rs) ≡ true → replaced end to (run (r ∷ rs)) ≡ r ++ (to ∷ replaced end to (run rs))
unfolding replaced replacement all run
replaced-first to r rs h =
    replaced-append end to r (end ∷ run rs) ∙ ap (λ (t : List ℕ). t ++ (to ∷ replaced end to (run rs))) (replaced-none end to r (both_left (plain r) (all plain rs) h))

-- the records of a run, with a comma behind each
replaced-run : (r : List ℕ) (rs : List (List ℕ)) → all plain (r ∷ rs) ≡ true → replaced end 44 (run (r ∷ rs)) ≡ joined (bytes ",") (r ∷ rs) ++ (44 ∷ [])
unfolding replaced joined all run
replaced-run r [] h = replaced-first 44 r [] h
replaced-run r (s ∷ rs) h =
    replaced-first 44 r (s ∷ rs) h
    ∙ ap (λ (t : List ℕ). r ++ (44 ∷ t)) (replaced-run s rs (both_right (plain r) (all plain (s ∷ rs)) h))
    ∙ sym (append_assoc r (44 ∷ joined (bytes ",") (s ∷ rs)) (44 ∷ []))

-- as long as the run
pub length-closed : (r : List ℕ) (rs : List (List ℕ)) → length (closed (r ∷ rs)) ≡ length (run (r ∷ rs))
unfolding joined run
length-closed r [] = length-append r (bytes "}") ∙ sym (length-append r (end ∷ []))
length-closed r (s ∷ rs) =
    let e = length-closed s rs in
    let l : length (closed (s ∷ rs)) ≡ length (joined (bytes ",") (s ∷ rs)) + 1 = length-append (joined (bytes ",") (s ∷ rs)) (bytes "}") in
    omega (arith, length-append (joined (bytes ",") (r ∷ s ∷ rs)) (bytes "}"), length-append r (44 ∷ joined (bytes ",") (s ∷ rs)), length-append r (end ∷ run (s ∷ rs)))

-- the brace on the last comma
brace : (j z : List ℕ) (n : ℕ) → n ≡ length j + 1 → take n (set (j ++ (44 ∷ []) ++ z) (n - 1) 125) ≡ j ++ bytes "}"
brace j z n e =
    let k : length j ≡ n - 1 = omega arith in
    let l : length (j ++ bytes "}") ≡ n = length-append j (bytes "}") ∙ sym e in
    ap (take n) (ap (λ (t : List ℕ). set t (n - 1) 125) (append_assoc j (44 ∷ []) z) ∙ set_at j 44 z 125 (n - 1) k ∙ sym (append_assoc j (bytes "}") z))
    ∙ take_at (j ++ bytes "}") z n l

some-insert : (x : List ℕ) (ys : List (List ℕ)) → insert key true x ys ≡ [] → ⊥
unfolding insert
some-insert x [] e = let z : ◌≡◌ {A = ℕ} 0 1 = cc in absurd (omega arith)
some-insert x (y ∷ ys) e =
    by_test (before (key x) (key y))
    (λ h. let g : ◌≡◌ {A = List (List ℕ)} (x ∷ y ∷ ys) [] = rw h at e in let z : ◌≡◌ {A = ℕ} 0 1 = cc in absurd (omega arith))
    (λ h. by_test (before (key y) (key x))
    (λ k. let g : ◌≡◌ {A = List (List ℕ)} (y ∷ insert key true x ys) [] = rw (h, k) at e in let z : ◌≡◌ {A = ℕ} 0 1 = cc in absurd (omega arith))
    (λ k. let g : ◌≡◌ {A = List (List ℕ)} (y ∷ ys) [] = rw (h, k) at e in let z : ◌≡◌ {A = ℕ} 0 1 = cc in absurd (omega arith)))

-- a store keeps the length
pub close-long : (part mid entry : List ℕ) (i b : ℕ) → length part ≡ length mid → length mid ≡ length entry → length (set part i b) ≡ length entry
close-long part mid entry i b e f = length-set part i b ∙ e ∙ f

module _ (entry mid : List ℕ) (count : ℕ) (h : ArrangedAs true entry mid count) where
  -- a run of a record is not empty once it is in order
  pub closes-none : (exit : List ℕ) (r : ℕ) → count ≡ 0 → Closes entry exit r
  unfolding arranged
  closes-none exit r e x xs p g =
      let a = h (x ∷ xs) p g in
      absurd (some-insert x (arranged key true xs) (run_none (arranged key true (x ∷ xs)) (sym a.long ∙ e)))

  -- it is no longer than it was
  pub closes-long : (exit : List ℕ) (r : ℕ) → length mid ≡ length entry → length mid < count → Closes entry exit r
  closes-long exit r l k x xs p g =
      let a = h (x ∷ xs) p g in
      let m = ap length a.bytes in
      let n = length-append (run (arranged key true (x ∷ xs))) (replicate (length entry - count) 0) in
      let o = a.long in
      absurd (omega arith)

  pub closes-run : (count ≡ 0 → ⊥) → (part : List ℕ) → part ≡ replaced end 44 mid → Closes entry (set part (count - 1) 125) count
  closes-run some part s x xs p g = go (arranged key true (x ∷ xs)) refl
    where
      a : Arranges true (x ∷ xs) entry mid count
      a = h (x ∷ xs) p g

      go : (rs : List (List ℕ)) → arranged key true (x ∷ xs) ≡ rs → Closed (x ∷ xs) (set part (count - 1) 125) count
      go [] e = absurd (some (a.long ∙ ap (λ (t : List (List ℕ)). length (run t)) e ∙ ap length run-nil))
      go (r ∷ rs) e =
          let q : all plain (r ∷ rs) ≡ true = subst (λ (t : List (List ℕ)). all plain t ≡ true) e (all-arranged key true plain (x ∷ xs) p) in
          let n : count ≡ length (closed (r ∷ rs)) = a.long ∙ ap (λ (t : List (List ℕ)). length (run t)) e ∙ sym (length-closed r rs) in
          let m : part ≡ joined (bytes ",") (r ∷ rs) ++ (44 ∷ []) ++ replaced end 44 (replicate (length entry - count) 0) =
          s ∙ ap (replaced end 44) a.bytes ∙ replaced-append end 44 (run (arranged key true (x ∷ xs))) (replicate (length entry - count) 0)
          ∙ ap (λ (t : List (List ℕ)). replaced end 44 (run t) ++ replaced end 44 (replicate (length entry - count) 0)) e
          ∙ ap (λ (t : List ℕ). t ++ replaced end 44 (replicate (length entry - count) 0)) (replaced-run r rs q) in
          let w : count ≡ length (joined (bytes ",") (r ∷ rs)) + 1 = n ∙ length-append (joined (bytes ",") (r ∷ rs)) (bytes "}") in
          record {
            long = n ∙ ap (λ (t : List (List ℕ)). length (closed t)) (sym e);
            front =
                ap (λ (t : List ℕ). take count (set t (count - 1) 125)) m
                ∙ brace (joined (bytes ",") (r ∷ rs)) (replaced end 44 (replicate (length entry - count) 0)) count w
                ∙ ap (λ (t : List (List ℕ)). closed t) (sym e);
          }
