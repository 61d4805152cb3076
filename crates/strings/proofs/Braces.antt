-- Digits up to a closing brace, one after the other: what is left decides as the whole did.
-- Assumes nothing.
use Rattle.std.proofs.Common.{None, Option, Some}
use mathlib.Core.Path.{◌≡◌, refl, sym, ap, ◌∙◌, subst}
use mathlib.Core.Bool.{cond, ◌&&◌}
use mathlib.Core.List.{List, [], ◌∷◌}
use Prim.Native.Nat.{ℕ, suc, ◌+◌, ◌*◌, ◌^◌, ◌≤◌, ◌<◌}
use native.Mathlib.Nat.{zero-add}
use native.Mathlib.Omega.{arith}
use lib.Dec.{leb}
use lib.ListN.{length, get_or, drop, drop_of_length-le}
use lib.Pow.{pow_mono, pow-add}
use borrow.Author.Tests.{lt-ltb, le-ltb, le-leb, lt-leb, ne_eqb}
use Rattle.ground.proofs.Lists.{at_place}
use Rattle.ground.proofs.Tests.{and-false, by_order}
use Rattle.words.specs.Radix.{worth}
use Rattle.words.specs.Run.{from}
use Rattle.strings.specs.Escape.{hex_run, starts_by, braced}
use Rattle.strings.specs.declared.escape.Braced.{Braced}

-- the answer for bytes after k digits that stood for v
pub braced_after : ℕ → ℕ → List ℕ → Option Braced
braced_after k v s =
    cond (leb (k + length (hex_run s)) 6 && starts_by 125 (drop (length (hex_run s)) s))
    (Some (record { value = from 16 v (hex_run s); digits = k + length (hex_run s) }))
    None

after_none : (s : List ℕ) → braced_after 0 0 s ≡ braced s
unfolding braced_after braced
after_none s = rw (zero-add (length (hex_run s)))

after-end : (k v : ℕ) → braced_after k v [] ≡ None
unfolding braced_after hex_run
after-end k v = rw (and-false (leb (k + 0) 6))

pub no_digit : (b : ℕ) (bs : List ℕ) → 16 ≤ worth b → hex_run (b ∷ bs) ≡ []
unfolding hex_run
no_digit b bs h = rw (le-ltb (worth b) 16 h)

pub a-digit : (b : ℕ) (bs : List ℕ) → worth b < 16 → hex_run (b ∷ bs) ≡ b ∷ hex_run bs
unfolding hex_run
a-digit b bs h = rw (lt-ltb (worth b) 16 h)

brace-worth : worth 125 ≡ 16
unfolding worth
brace-worth = refl

after-brace : (k v : ℕ) (bs : List ℕ) → k ≤ 6 → braced_after k v (125 ∷ bs) ≡ Some (record { value = v; digits = k })
unfolding braced_after from
after-brace k v bs h =
    let z : k + 0 ≡ k = omega arith in
    rw (no_digit 125 bs (subst (λ (n : ℕ). 16 ≤ n) (sym brace-worth) (omega arith)))
    (rw z (rw (le-leb k 6 h)))

after-other : (k v b : ℕ) (bs : List ℕ) → (b ≡ 125 → ⊥) → 16 ≤ worth b → braced_after k v (b ∷ bs) ≡ None
unfolding braced_after
after-other k v b bs h w = rw (no_digit b bs w) (rw (ne_eqb b 125 h) (rw (and-false (leb (k + 0) 6))))

after-many : (k v b : ℕ) (bs : List ℕ) → 6 ≤ k → worth b < 16 → braced_after k v (b ∷ bs) ≡ None
unfolding braced_after
after-many k v b bs h w =
    let l : 6 < k + suc (length (hex_run bs)) = omega arith in
    rw (a-digit b bs w) (rw (lt-leb _ 6 l))

after-full : (k v b : ℕ) (bs : List ℕ) → 6 ≤ k → (b ≡ 125 → ⊥) → braced_after k v (b ∷ bs) ≡ None
after-full k v b bs h e = by_order (worth b) 16 (after-many k v b bs h) (after-other k v b bs e)

after-digit : (k v b : ℕ) (bs : List ℕ) → worth b < 16 → braced_after k v (b ∷ bs) ≡ braced_after (k + 1) (v * 16 + worth b) bs
unfolding braced_after from
after-digit k v b bs w =
    let e : k + suc (length (hex_run bs)) ≡ k + 1 + length (hex_run bs) = omega arith in
    rw (a-digit b bs w) (rw e)

-- the loop: k digits were passed, and stood for v
pub record Passing (s : List ℕ) (start v k at : ℕ) : Type 0 where
  pub few : k ≤ 6
  pub place : at ≡ start + k
  pub inside : at ≤ length s
  pub small : v < 2 ^ (4 * k)
  pub rest : braced_after k v (drop at s) ≡ braced (drop start s)

pub passing_start : (s : List ℕ) (start : ℕ) → start ≤ length s → Passing s start 0 0 start
passing_start s start h = record { few = omega arith; place = omega arith; inside = h; small = omega arith; rest = after_none (drop start s) }

pub passing_end : (s : List ℕ) (start v k at : ℕ) → Passing s start v k at → length s ≤ at → None ≡ braced (drop start s)
passing_end s start v k at so h =
    sym (after-end k v) ∙ subst (λ (t : List ℕ). braced_after k v t ≡ braced (drop start s)) (drop_of_length-le s h) so.rest

module _ (s : List ℕ) (start v k at : ℕ) (so : Passing s start v k at) (less : at < length s) where
  at_byte : braced_after k v (get_or s at 0 ∷ drop (at + 1) s) ≡ braced (drop start s)
  at_byte = subst (λ (t : List ℕ). braced_after k v t ≡ braced (drop start s)) (at_place s at less) so.rest

  pub passing_brace : get_or s at 0 ≡ 125 → (Some (record { value = v; digits = k })) ≡ braced (drop start s)
  passing_brace e =
      sym (after-brace k v (drop (at + 1) s) so.few)
      ∙ subst (λ (b : ℕ). braced_after k v (b ∷ drop (at + 1) s) ≡ braced (drop start s)) e at_byte

  module _ (other : get_or s at 0 ≡ 125 → ⊥) where
    pub passing_full : 6 ≤ k → None ≡ braced (drop start s)
    passing_full h = sym (after-full k v (get_or s at 0) (drop (at + 1) s) h other) ∙ at_byte

    module _ (d : ℕ) (is : d ≡ worth (get_or s at 0)) where
      pub passing_other : 16 ≤ d → None ≡ braced (drop start s)
      passing_other h = sym (after-other k v (get_or s at 0) (drop (at + 1) s) other (omega arith)) ∙ at_byte

      module _ (room : k < 6) where
        pub value-small : v < 2 ^ 20
        value-small =
            let p : 2 ^ (4 * k) ≤ 2 ^ 20 = pow_mono {i = 4 * k} {j = 20} (omega arith) in
            omega (arith, so.small)

        pub passing_step : d < 16 → Passing s start (v * 16 + d) (k + 1) (at + 1)
        passing_step h = record {
          few = omega arith;
          place = omega (arith, so.place);
          inside = omega arith;
          small =
              let e : 4 * (k + 1) ≡ 4 * k + 4 = omega arith in
              let p : 2 ^ (4 * (k + 1)) ≡ 2 ^ (4 * k) * 16 = ap (λ (n : ℕ). 2 ^ n) e ∙ pow-add 2 (4 * k) 4 in
              omega (arith, so.small);
          rest =
              ap (λ (x : ℕ). braced_after (k + 1) (v * 16 + x) (drop (at + 1) s)) is
              ∙ sym (after-digit k v (get_or s at 0) (drop (at + 1) s) (omega arith)) ∙ at_byte;
        }
