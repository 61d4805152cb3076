-- The literal decoder and the record walk: one law for each way out.
-- Assumes nothing.
use Rattle.std.proofs.Common.{Option, Err, Ok, Result}
use Rattle.sorts.specs.Result.{◌>>=◌}
use Rattle.literals.proofs.Answers.{refused-told}
use mathlib.Core.Path.{◌≡◌, refl, sym, ap, ◌∙◌, subst}
use mathlib.Core.List.{List}
use Prim.Native.Nat.{ℕ, zero, suc, ◌-◌, ◌<◌}
use native.Mathlib.Omega.{arith}
use Rattle.refusals.specs.declared.Refusal.TheVariants.{TooNested}
use Rattle.tables.specs.Layout.{Lent, tables_of}
use Rattle.literals.specs.declared.form.Then.{Then}
use Rattle.literals.specs.declared.plan.Plan.{Plan}
use Rattle.means.specs.Literal.{Lit, read, read_with, union_lit}
use Rattle.literals.specs.Answer.{answer}
use Rattle.literals.specs.Parts.{Finishes, UnionOf}
use Rattle.literals.specs.Plan.{Means, Given, PlansAt, DecodesAt, FieldsAt}
use Rattle.literals.specs.declared.answer.Literal.{Literal}
use Rattle.refusals.specs.declared.Refusal.{Refusal}

module _ (sorts fields members names ws ts : List ℕ) (i : ℕ) (expected : Option ℕ) (allow : ℕ) where
  pub literal_nested : allow ≡ 0 → DecodesAt sorts fields members names ws ts i expected allow (Err TooNested)
  unfolding read_with
  literal_nested z l g t s = ap (λ (a : ℕ). answer (read (tables_of l) a expected t)) (sym z)

  module _ (there : allow ≡ 0 → ⊥) (below : ℕ) (less : below ≡ allow - 1) (p : Result Plan Refusal) (planned : PlansAt sorts fields members names ws ts i expected below p) where
    up : suc below ≡ allow
    up = let h : 0 < allow = nonzero allow there in omega arith
      where
        nonzero : (n : ℕ) → (n ≡ 0 → ⊥) → 0 < n
        nonzero zero h = absurd (h refl)
        nonzero (suc n) h = omega arith

    -- as the plan means, so the literal answers
    by_plan : (r : Result Literal Refusal) → ((l : Lent) → Given sorts fields members names l → (m : Result Lit Refusal) → Means (tables_of l) fields ws ts expected below p m → r ≡ answer m) → DecodesAt sorts fields members names ws ts i expected allow r
    by_plan r k l g t s =
        subst (λ (a : ℕ). r ≡ answer (read (tables_of l) a expected t)) up (k l g (read (tables_of l) (suc below) expected t) (planned l g t s))

    pub literal-refused : (z : Refusal) → p ≡ Err z → DecodesAt sorts fields members names ws ts i expected allow (Err z)
    literal-refused z e = by_plan (Err z) (λ l g m h. subst (λ (x : Result Plan Refusal). Means (tables_of l) fields ws ts expected below x m) e h)

    pub literal-done : (a : Literal) → p ≡ Ok (Plan.Done a) → DecodesAt sorts fields members names ws ts i expected allow (Ok a)
    literal-done a e = by_plan (Ok a) (λ l g m h. subst (λ (x : Result Plan Refusal). Means (tables_of l) fields ws ts expected below x m) e h)

    pub literal-one : (value : ℕ) (inside : Option ℕ) (step : Then) → p ≡ Ok (Plan.One value inside step) → (inner : Result Literal Refusal) → DecodesAt sorts fields members names ws ts value inside below inner → (r : Result Literal Refusal) → Finishes sorts inner step r → DecodesAt sorts fields members names ws ts i expected allow r
    literal-one value inside step e inner d r k = by_plan r (λ l g m h.
        let w = subst (λ (x : Result Plan Refusal). Means (tables_of l) fields ws ts expected below x m) e h in
        k l g.sorts-are (read (tables_of l) below inside w.0) (d l g w.0 w.1) ∙ ap answer (sym w.2))

    -- the first of the two was not read
    pub literal_left : (left right : ℕ) → p ≡ Ok (Plan.Two left right) → (a : Result Literal Refusal) → DecodesAt sorts fields members names ws ts left expected below a → (z : Refusal) → a ≡ Err z → DecodesAt sorts fields members names ws ts i expected allow (Err z)
    unfolding ◌>>=◌
    literal_left left right e a d z f = by_plan (Err z) (λ l g m h.
        let w = subst (λ (x : Result Plan Refusal). Means (tables_of l) fields ws ts expected below x m) e h in
        sym (ap answer w.4 ∙ ap (λ (x : Result Lit Refusal). answer (x >>= λ j. read (tables_of l) below expected w.1 >>= λ k. union_lit j k)) (refused-told (read (tables_of l) below expected w.0) a z f (d l g w.0 w.2))))

    pub literal-two : (left right : ℕ) → p ≡ Ok (Plan.Two left right) → (a b : Result Literal Refusal) → DecodesAt sorts fields members names ws ts left expected below a → DecodesAt sorts fields members names ws ts right expected below b → (r : Result Literal Refusal) → UnionOf a b r → DecodesAt sorts fields members names ws ts i expected allow r
    literal-two left right e a b d f r k = by_plan r (λ l g m h.
        let w = subst (λ (x : Result Plan Refusal). Means (tables_of l) fields ws ts expected below x m) e h in
        k (read (tables_of l) below expected w.0) (read (tables_of l) below expected w.1) (d l g w.0 w.2) (f l g w.1 w.3) ∙ ap answer (sym w.4))

    pub literal_record : (row node first many : ℕ) → p ≡ Ok (Plan.Record row node first many) → (r : Result Literal Refusal) → FieldsAt sorts fields members names ws ts row node first many below r → DecodesAt sorts fields members names ws ts i expected allow r
    literal_record row node first many e r k = by_plan r (λ l g m h.
        let w = subst (λ (x : Result Plan Refusal). Means (tables_of l) fields ws ts expected below x m) e h in
        k l g w.0 w.1 w.2 ∙ ap answer (sym w.3))
