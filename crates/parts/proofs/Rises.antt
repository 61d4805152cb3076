-- Ends that rise: what they say of each part, and how the check finds them.
-- Assumes nothing.
use Rattle.std.proofs.Common.{None, Some}
use mathlib.Core.Path.{◌≡◌, refl, sym, ap, ◌∙◌}
use mathlib.Core.Bool.{Bool, true, false, cond, ◌&&◌}
use mathlib.Core.List.{List, [], ◌∷◌}
use Prim.Native.Nat.{ℕ, suc, ◌+◌, ◌%◌, ◌≤◌, ◌<◌}
use native.Mathlib.Numerals.{add-one}
use native.Mathlib.Omega.{arith}
use lib.Dec.{leb, eqb}
use lib.ListN.{length, get_or, drop, drop_of_length-le}
use lib.Seq.{drop-cons}
use borrow.Author.Tests.{le-leb, lt-leb, ne_eqb, eqb-true}
use Rattle.ground.proofs.Tests.{by_order, and-false}
use Rattle.parts.specs.Parts.{rise, last_from, risen, pairs_risen}

pub record Rising (start size end : ℕ) (ends : List ℕ) : Type 0 where
  pub up : start ≤ end
  pub within : end ≤ size
  pub rest : rise end size ends ≡ true

false_true : {P : Type 0} → false ≡ true → P
false_true e = let z : ◌≡◌ {A = ℕ} 0 1 = cc in absurd (omega arith)

pub rises : (start size end : ℕ) (ends : List ℕ) → rise start size (end ∷ ends) ≡ true → Rising start size end ends
unfolding rise
rises start size end ends h =
    by_order end start
    (λ below. false_true (sym (ap (λ (b : Bool). b && leb end size && rise end size ends) (lt-leb start end below)) ∙ h))
    (λ up.
    let k : (leb end size && rise end size ends) ≡ true = sym (ap (λ (b : Bool). b && leb end size && rise end size ends) (le-leb start end up)) ∙ h in
    by_order size end
    (λ past. false_true (sym (ap (λ (b : Bool). b && rise end size ends) (lt-leb end size past)) ∙ k))
    (λ within. record { up = up; within = within; rest = sym (ap (λ (b : Bool). b && rise end size ends) (le-leb end size within)) ∙ k }))

-- the check: from the last end on, the rest decides
pub record Checking (size : ℕ) (ends : List ℕ) (last at : ℕ) : Type 0 where
  pub within : at ≤ length ends
  pub same : rise 0 size ends ≡ rise last size (drop at ends)
  pub end : last_from 0 ends ≡ last_from last (drop at ends)

module _ (size : ℕ) (ends : List ℕ) (last at : ℕ) (so : Checking size ends last at) (less : at < length ends) where
  next : drop at ends ≡ get_or ends at 0 ∷ drop (suc at) ends
  next = drop-cons ends at 0 less

  same_next : rise 0 size ends ≡ (leb last (get_or ends at 0) && leb (get_or ends at 0) size && rise (get_or ends at 0) size (drop (suc at) ends))
  unfolding rise
  same_next = so.same ∙ ap (rise last size) next

  fallen : rise 0 size ends ≡ false → None ≡ risen size ends
  fallen h = sym (ap (λ (b : Bool). cond b (Some (last_from 0 ends)) None) h)

  pub checking_fall : get_or ends at 0 < last → None ≡ risen size ends
  checking_fall below = fallen (same_next ∙ (rw (lt-leb last (get_or ends at 0) below) refl))

  pub checking_past : last ≤ get_or ends at 0 → size < get_or ends at 0 → None ≡ risen size ends
  checking_past up past = fallen (same_next ∙ (rw (le-leb last (get_or ends at 0) up) (rw (lt-leb (get_or ends at 0) size past) refl)))

  pub checking_step : last ≤ get_or ends at 0 → get_or ends at 0 ≤ size → Checking size ends (get_or ends at 0) (at + 1)
  checking_step up within = record {
    within = omega (arith, so.within);
    same = rw (add-one at) (same_next ∙ (rw (le-leb last (get_or ends at 0) up) (rw (le-leb (get_or ends at 0) size within) refl)));
    end = rw (add-one at) (so.end ∙ ap (last_from last) next);
  }

pub checking_end : (size : ℕ) (ends : List ℕ) (last at : ℕ) → Checking size ends last at → length ends ≤ at → Some last ≡ risen size ends
unfolding rise
checking_end size ends last at so past =
    let none : drop at ends ≡ [] = drop_of_length-le ends {i = at} past in
    sym
    (ap (λ (b : Bool). cond b (Some (last_from 0 ends)) None) (so.same ∙ ap (rise last size) none)
    ∙ ap Some (so.end ∙ ap (last_from last) none))

-- what an answer tells
pub risen-rise : (t : Bool) (last n : ℕ) → Some n ≡ cond t (Some last) None → (t ≡ true) × (n ≡ last)
risen-rise true last n e = (refl, cc)
risen-rise false last n e = let z : ◌≡◌ {A = ℕ} 0 1 = cc in absurd (omega arith)

pub risen_fall : (t : Bool) (last : ℕ) → None ≡ cond t (Some last) None → t ≡ false
risen_fall true last e = let z : ◌≡◌ {A = ℕ} 0 1 = cc in absurd (omega arith)
risen_fall false last e = refl

-- pairs are two ends each
pub odd_falls : (size : ℕ) (ends : List ℕ) → length ends % 2 ≡ 1 → None ≡ pairs_risen size ends
odd_falls size ends odd =
    let e : eqb (length ends % 2) 0 ≡ false = ne_eqb (length ends % 2) 0 (λ h. omega (arith, h, odd)) in
    sym (ap (λ (b : Bool). cond (rise 0 size ends && b) (Some (last_from 0 ends)) None) e ∙ ap (λ (b : Bool). cond b (Some (last_from 0 ends)) None) (and-false (rise 0 size ends)))

pub even-of : (ends : List ℕ) → eqb (length ends % 2) 0 ≡ true → length ends % 2 ≡ 0
even-of ends e = eqb-true (length ends % 2) 0 e

pub first_false : (a b : Bool) → a ≡ false → (a && b) ≡ false
first_false a b p = ap (λ (t : Bool). t && b) p

pub second_false : (a b : Bool) → b ≡ false → (a && b) ≡ false
second_false a b p = ap (λ (t : Bool). a && t) p ∙ and-false a
