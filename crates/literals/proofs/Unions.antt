-- The union of two literals: of one sort (16), both sets (28).
-- Assumes nothing.
use Rattle.std.proofs.Common.{None, Option, Some, Err, Ok, Result}
use mathlib.Core.Path.{◌≡◌, refl, sym, ap, ◌∙◌, subst}
use mathlib.Core.Bool.{not, Bool, true, false, true≢false}
use Prim.Native.Nat.{ℕ}
use lib.Dec.{eqb}
use borrow.Author.Tests.{eq-eqb, ne_eqb}
use Rattle.refusals.specs.declared.Refusal.{Refusal}
use Rattle.refusals.specs.declared.Refusal.TheVariants.{UnmatchedType, SetUnionNonLiterals}
use Rattle.sorts.specs.Result.{◌>>=◌, unless}
use Rattle.values.specs.Value.{Values, v_set, union as both}
use Rattle.values.specs.Holds.{held}
use Rattle.values.proofs.Holds.{held-set}
use Rattle.means.specs.Literal.{Lit, lit, union_lit}
use Rattle.literals.specs.Answer.{answer, need, some?}
use Rattle.literals.specs.Parts.{UnionNeed, UnionOf}
use Rattle.literals.proofs.Answers.{value-told, refused-told}
use Rattle.literals.specs.declared.answer.Literal.{Literal}

-- what a test of `!` tells
pub unset : (b : Bool) → not b ≡ true → b ≡ false
unset true e = absurd (true≢false (sym e))
unset false e = refl

pub set_so : (b : Bool) → not b ≡ false → b ≡ true
set_so true e = refl
set_so false e = absurd (true≢false e)

-- what a set holds
none-held : (o : Option Values) → some? o ≡ false → o ≡ None
none-held None e = refl
none-held (Some vs) e = absurd (true≢false e)

all_held : (o : Option Values) → some? o ≡ true → (vs : Values) × (o ≡ Some vs)
all_held None e = absurd (true≢false (sym e))
all_held (Some vs) e = (vs, refl)

-- two literals of one sort, by what they hold
module _ (l n : Lit) where
  rows_differ : eqb l.row n.row ≡ false → union_lit l n ≡ Err UnmatchedType
  unfolding unless
  rows_differ e = rw e

  module _ (e : eqb l.row n.row ≡ true) where
    first-other : held l.value ≡ None → union_lit l n ≡ Err SetUnionNonLiterals
    unfolding unless ◌>>=◌
    first-other g = rw (e, g)

    module _ (vs : Values) (g : held l.value ≡ Some vs) where
      second-other : held n.value ≡ None → union_lit l n ≡ Err SetUnionNonLiterals
      unfolding unless ◌>>=◌
      second-other k = rw (e, g, k)

      two-sets : (ws : Values) → held n.value ≡ Some ws → union_lit l n ≡ Ok (lit l.row (v_set (both vs ws)))
      unfolding unless ◌>>=◌
      two-sets ws k = rw (e, g, k)

module _ (row long other more : ℕ) (is_set another : Bool) where
  abbrev Joins : Result Literal Refusal → Type 0
  Joins r = UnionOf (Ok (record { row = row; need = long; is_set = is_set })) (Ok (record { row = other; need = more; is_set = another })) r

  -- both were read
  joins-by : (r : Result Literal Refusal) → ((l n : Lit) → row ≡ l.row → other ≡ n.row → long ≡ need l.value → more ≡ need n.value → is_set ≡ some? (held l.value) → another ≡ some? (held n.value) → r ≡ answer (union_lit l n)) → Joins r
  unfolding ◌>>=◌
  joins-by r f m k h g =
      let w = value-told m (Ok (record { row = row; need = long; is_set = is_set })) row long is_set refl h in
      let x = value-told k (Ok (record { row = other; need = more; is_set = another })) other more another refl g in
      f w.one x.one w.sort x.sort w.size x.size w.holds x.holds
      ∙ sym (ap (λ (y : Result Lit Refusal). answer (y >>= λ l. k >>= λ n. union_lit l n)) w.read
      ∙ ap (λ (y : Result Lit Refusal). answer (y >>= λ n. union_lit w.one n)) x.read)

  pub join_rows : (row ≡ other → ⊥) → Joins (Err UnmatchedType)
  join_rows d = joins-by (Err UnmatchedType) (λ l n i j a b c e.
      sym (ap answer (rows_differ l n (ne_eqb l.row n.row (λ z. d (i ∙ z ∙ sym j))))))

  module _ (d : row ≡ other) where
    one-row : (l n : Lit) → row ≡ l.row → other ≡ n.row → eqb l.row n.row ≡ true
    one-row l n i j = eq-eqb l.row n.row (sym i ∙ d ∙ j)

    pub join_first : is_set ≡ false → Joins (Err SetUnionNonLiterals)
    join_first s = joins-by (Err SetUnionNonLiterals) (λ l n i j a b c e.
        sym (ap answer (first-other l n (one-row l n i j) (none-held (held l.value) (sym c ∙ s)))))

    pub join_second : is_set ≡ true → another ≡ false → Joins (Err SetUnionNonLiterals)
    join_second s t = joins-by (Err SetUnionNonLiterals) (λ l n i j a b c e.
        let u = all_held (held l.value) (sym c ∙ s) in
        sym (ap answer (second-other l n (one-row l n i j) u.0 u.1 (none-held (held n.value) (sym e ∙ t)))))

    pub join_sets : is_set ≡ true → another ≡ true → (size : ℕ) → UnionNeed long more size → Joins (Ok (record { row = row; need = size; is_set = is_set }))
    join_sets s t size f = subst (λ (b : Bool). Joins (Ok (record { row = row; need = size; is_set = b }))) (sym s) (joins-by (Ok (record { row = row; need = size; is_set = true })) (λ l n i j a b c e.
        let u = all_held (held l.value) (sym c ∙ s) in
        let y = all_held (held n.value) (sym e ∙ t) in
        let p : long ≡ need (v_set u.0) = a ∙ ap need (held-set l.value u.0 u.1) in
        let q : more ≡ need (v_set y.0) = b ∙ ap need (held-set n.value y.0 y.1) in
        ap (λ (k : ℕ). (Ok (record { row = k; need = size; is_set = true }))) i
        ∙ ap (λ (k : ℕ). (Ok (record { row = l.row; need = k; is_set = true }))) (f u.0 y.0 p q)
        ∙ sym (ap answer (two-sets l n (one-row l n i j) u.0 u.1 y.0 y.1))))

-- the second was not read
module _ (a b : Result Literal Refusal) (it : Literal) (e : a ≡ Ok it) where
  pub union_right : (z : Refusal) → b ≡ Err z → UnionOf a b (Err z)
  unfolding ◌>>=◌
  union_right z f m k h g =
      let w = value-told m a it.row it.need it.is_set e h in
      sym (ap (λ (x : Result Lit Refusal). answer (x >>= λ l. k >>= λ n. union_lit l n)) w.read
      ∙ ap (λ (x : Result Lit Refusal). answer (x >>= λ n. union_lit w.one n)) (refused-told k b z f g))

-- both were read
pub unions_of : (a b : Result Literal Refusal) (it other : Literal) (r : Result Literal Refusal) → a ≡ Ok it → b ≡ Ok other → UnionOf (Ok it) (Ok other) r → UnionOf a b r
unions_of a b it other r e f h = subst (λ (x : Result Literal Refusal). UnionOf x b r) (sym e) (subst (λ (x : Result Literal Refusal). UnionOf (Ok it) x r) (sym f) h)
