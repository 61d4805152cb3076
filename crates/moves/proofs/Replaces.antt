-- One byte in place of another: lengths, parts, bytes that have none of it, and the loop of replace.
-- Assumes nothing.
use mathlib.Core.Path.{◌≡◌, refl, sym, ap, ◌∙◌}
use mathlib.Core.Bool.{true, not, true≢false}
use mathlib.Core.List.{List, [], ◌∷◌, ◌++◌, append_assoc, append-nil}
use Prim.Native.Nat.{ℕ, suc, ◌+◌, ◌≤◌, ◌<◌}
use native.Mathlib.Numerals.{add-one}
use native.Mathlib.Omega.{arith}
use lib.Dec.{eqb}
use lib.ListN.{length, get_or, take, drop, set, length-set}
use lib.Seq.{drop-length, take-suc, take_all, set_at, get_or_at, length-take-le}
use borrow.Author.Tests.{eq-eqb, ne_eqb}
use Rattle.ground.specs.Lists.{all}
use Rattle.ground.proofs.Lists.{at_place}
use Rattle.ground.proofs.Tests.{by_test}
use Rattle.moves.specs.Replace.{replacement, replaced}

pub replacement-from : (from to b : ℕ) → b ≡ from → to ≡ replacement from to b
unfolding replacement
replacement-from from to b e = rw (eq-eqb b from e)

pub replacement-other : (from to b : ℕ) → (b ≡ from → ⊥) → b ≡ replacement from to b
unfolding replacement
replacement-other from to b h = rw (ne_eqb b from h)

module _ (from to : ℕ) where
  pub length-replaced : (s : List ℕ) → length (replaced from to s) ≡ length s
  unfolding replaced
  length-replaced [] = refl
  length-replaced (b ∷ bs) = ap suc (length-replaced bs)

  pub replaced-append : (s t : List ℕ) → replaced from to (s ++ t) ≡ replaced from to s ++ replaced from to t
  unfolding replaced
  replaced-append [] t = refl
  replaced-append (b ∷ bs) t = ap (λ (x : List ℕ). replacement from to b ∷ x) (replaced-append bs t)

  -- bytes without it stay
  pub replaced-none : (s : List ℕ) → all (λ b. not (eqb b from)) s ≡ true → replaced from to s ≡ s
  unfolding replaced replacement all
  replaced-none [] h = refl
  replaced-none (b ∷ bs) h =
      by_test (eqb b from)
      (λ e. absurd (true≢false (sym (rw e at h))))
      (λ e. rw e (ap (λ (t : List ℕ). b ∷ t) (replaced-none bs (rw e at h))))

  -- what is passed is replaced, and the rest is as it was
  pub record Replacing (entry out : List ℕ) (i : ℕ) : Type 0 where
    pub within : i ≤ length entry
    pub long : length out ≡ length entry
    pub holds : out ≡ replaced from to (take i entry) ++ drop i entry

  pub replacing_start : (entry : List ℕ) → Replacing entry entry 0
  unfolding replaced
  replacing_start entry = record { within = omega arith; long = refl; holds = refl }

  pub replacing_step : (entry out : List ℕ) (i : ℕ) → Replacing entry out i → i < length out → (b : ℕ) → b ≡ replacement from to (get_or out i 0) → Replacing entry (set out i b) (i + 1)
  unfolding replaced
  replacing_step entry out i so less b e =
      let l : i < length entry = omega (arith, so.long) in
      let front = replaced from to (take i entry) in
      let n : length front ≡ i = length-replaced (take i entry) ∙ length-take-le i entry (omega arith) in
      let h : out ≡ front ++ (get_or entry i 0 ∷ drop (i + 1) entry) = so.holds ∙ ap (λ (t : List ℕ). front ++ t) (at_place entry i l) in
      let g : get_or out i 0 ≡ get_or entry i 0 = ap (λ (t : List ℕ). get_or t i 0) h ∙ get_or_at front (get_or entry i 0) (drop (i + 1) entry) 0 i n in
      let s : replaced from to (take (i + 1) entry) ≡ front ++ (b ∷ []) =
      ap (λ (k : ℕ). replaced from to (take k entry)) (add-one i) ∙ ap (replaced from to) (take-suc entry i 0 l) ∙ replaced-append (take i entry) (get_or entry i 0 ∷ [])
      ∙ ap (λ (x : ℕ). front ++ (x ∷ [])) (sym (e ∙ ap (replacement from to) g)) in
      record {
        within = omega arith;
        long = length-set out i b ∙ so.long;
        holds =
            ap (λ (t : List ℕ). set t i b) h
            ∙ set_at front (get_or entry i 0) (drop (i + 1) entry) b i n
            ∙ sym (append_assoc front (b ∷ []) (drop (i + 1) entry))
            ∙ ap (λ (t : List ℕ). t ++ drop (i + 1) entry) (sym s);
      }

  pub replacing_end : (entry out : List ℕ) (i : ℕ) → Replacing entry out i → length out ≤ i → out ≡ replaced from to entry
  replacing_end entry out i so h =
      let e : i ≡ length entry = omega (arith, so.within, so.long) in
      so.holds ∙ ap (λ (k : ℕ). replaced from to (take k entry) ++ drop k entry) e
      ∙ ap (λ (t : List ℕ). replaced from to t ++ drop (length entry) entry) (take_all (length entry) entry (omega arith))
      ∙ ap (λ (t : List ℕ). replaced from to entry ++ t) (drop-length entry) ∙ append-nil (replaced from to entry)
