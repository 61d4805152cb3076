-- Literals that were read, measured: one law for each way out.
-- Assumes nothing.
use Rattle.std.proofs.Common.{Err, Ok, Result}
use mathlib.Core.Path.{◌≡◌, sym, ap, ◌∙◌}
use mathlib.Core.Bool.{Bool, true, false}
use mathlib.Core.List.{[], ◌++◌}
use Prim.Native.Nat.{ℕ, min, ◌+◌}
use native.Mathlib.Omega.{arith}
use lib.Dec.{eqb}
use lib.ListN.{length, length-append}
use borrow.Author.Tests.{eq-eqb, ne_eqb}
use Rattle.refusals.specs.declared.Refusal.{Refusal}
use Rattle.refusals.specs.declared.Refusal.TheVariants.{UnmatchedType}
use Rattle.sorts.specs.Result.{◌>>=◌, unless}
use Rattle.values.specs.Text.{text}
use Rattle.values.specs.Value.{Value}
use Rattle.means.specs.Literal.{Lit}
use Rattle.literals.specs.Answer.{capped, answer}
use Rattle.literals.proofs.Answers.{value-told, refused-told}
use Rattle.model.specs.Model.{Arm, arm_of}
use Rattle.model.specs.Listing.{line}
use Rattle.model.proofs.Lengths.{length-line}
use Rattle.definitions.specs.Measure.{value_size, arm_size, measured, declared_as, ValueOf, ArmOf}
use Rattle.literals.specs.declared.answer.Literal.{Literal}

-- a literal of a row
module _ (a : Result Literal Refusal) (wanted : ℕ) where
  abbrev Of : Result Lit Refusal → Result Value Refusal
  Of m = m >>= λ l. unless (eqb l.row wanted) UnmatchedType (Ok l.value)

  module _ (row long : ℕ) (is_set : Bool) (e : a ≡ Ok (record { row = row; need = long; is_set = is_set })) where
    pub value-other : (row ≡ wanted → ⊥) → ValueOf a wanted (Err UnmatchedType)
    unfolding ◌>>=◌ unless
    value-other d m h =
        let w = value-told m a row long is_set e h in
        let g : eqb w.one.row wanted ≡ false = ne_eqb w.one.row wanted (λ z. d (w.sort ∙ z)) in
        sym (ap (λ (x : Result Lit Refusal). measured value_size (Of x)) w.read ∙ ap (λ (b : Bool). measured value_size (unless b UnmatchedType (Ok w.one.value))) g)

    pub value_same : row ≡ wanted → ValueOf a wanted (Ok long)
    unfolding ◌>>=◌ unless
    value_same d m h =
        let w = value-told m a row long is_set e h in
        let g : eqb w.one.row wanted ≡ true = eq-eqb w.one.row wanted (sym w.sort ∙ d) in
        ap Ok w.size
        ∙ sym (ap (λ (x : Result Lit Refusal). measured value_size (Of x)) w.read ∙ ap (λ (b : Bool). measured value_size (unless b UnmatchedType (Ok w.one.value))) g)

  pub value-refused : (z : Refusal) → a ≡ Err z → ValueOf a wanted (Err z)
  unfolding ◌>>=◌
  value-refused z e m h = sym (ap (λ (x : Result Lit Refusal). measured value_size (Of x)) (refused-told m a z e h))

-- a key and a value
pub length-arm : (k v : Value) → arm_size (arm_of k v) ≡ length (text k) + length (text v) + 12
length-arm k v =
    let p = length-line "when" (text k) in
    let q = length-line "then" (text v) in
    omega (arith, length-append (line "when" (text k)) (line "then" (text v) ++ []), length-append (line "then" (text v)) [])

module _ (a b : Result Literal Refusal) (argument result : ℕ) where
  abbrev Both : Result Lit Refusal → Result Lit Refusal → Result Arm Refusal
  Both m k = m >>= λ l. k >>= λ n. unless (eqb l.row argument) UnmatchedType (unless (eqb n.row result) UnmatchedType (Ok (arm_of l.value n.value)))

  pub arm-first : (z : Refusal) → a ≡ Err z → ArmOf a b argument result (Err z)
  unfolding ◌>>=◌
  arm-first z e m k g h = sym (ap (λ (x : Result Lit Refusal). measured arm_size (Both x k)) (refused-told m a z e g))

  module _ (row long : ℕ) (is_set : Bool) (e : a ≡ Ok (record { row = row; need = long; is_set = is_set })) where
    pub arm-second : (z : Refusal) → b ≡ Err z → ArmOf a b argument result (Err z)
    unfolding ◌>>=◌
    arm-second z f m k g h =
        let w = value-told m a row long is_set e g in
        sym (ap (λ (x : Result Lit Refusal). measured arm_size (Both x k)) w.read ∙ ap (λ (x : Result Lit Refusal). measured arm_size (Both (Ok w.one) x)) (refused-told k b z f h))

    module _ (other more : ℕ) (also : Bool) (f : b ≡ Ok (record { row = other; need = more; is_set = also })) where
      read-both : (m k : Result Lit Refusal) (g : a ≡ answer m) (h : b ≡ answer k) →
          measured arm_size (Both m k) ≡ measured arm_size (Both (Ok (value-told m a row long is_set e g).one) (Ok (value-told k b other more also f h).one))
      read-both m k g h =
          ap (λ (x : Result Lit Refusal). measured arm_size (Both x k)) (value-told m a row long is_set e g).read
          ∙ ap (λ (x : Result Lit Refusal). measured arm_size (Both (Ok (value-told m a row long is_set e g).one) x)) (value-told k b other more also f h).read

      pub arm-key : (row ≡ argument → ⊥) → ArmOf a b argument result (Err UnmatchedType)
      unfolding ◌>>=◌ unless
      arm-key d m k g h =
          let w = value-told m a row long is_set e g in
          let v = value-told k b other more also f h in
          let c : eqb w.one.row argument ≡ false = ne_eqb w.one.row argument (λ z. d (w.sort ∙ z)) in
          sym (read-both m k g h ∙ ap (λ (t : Bool). measured arm_size (unless t UnmatchedType (unless (eqb v.one.row result) UnmatchedType (Ok (arm_of w.one.value v.one.value))))) c)

      module _ (here : row ≡ argument) where
        pub arm-value : (other ≡ result → ⊥) → ArmOf a b argument result (Err UnmatchedType)
        unfolding ◌>>=◌ unless
        arm-value d m k g h =
            let w = value-told m a row long is_set e g in
            let v = value-told k b other more also f h in
            let c : eqb w.one.row argument ≡ true = eq-eqb w.one.row argument (sym w.sort ∙ here) in
            let q : eqb v.one.row result ≡ false = ne_eqb v.one.row result (λ z. d (v.sort ∙ z)) in
            sym (read-both m k g h
            ∙ ap (λ (t : Bool). measured arm_size (unless t UnmatchedType (unless (eqb v.one.row result) UnmatchedType (Ok (arm_of w.one.value v.one.value))))) c
            ∙ ap (λ (t : Bool). measured arm_size (unless t UnmatchedType (Ok (arm_of w.one.value v.one.value)))) q)

        pub arm-both : other ≡ result → (r : ℕ) → r ≡ capped (capped (long + more) + 12) → ArmOf a b argument result (Ok r)
        unfolding ◌>>=◌ unless
        arm-both d r i m k g h =
            let w = value-told m a row long is_set e g in
            let v = value-told k b other more also f h in
            let c : eqb w.one.row argument ≡ true = eq-eqb w.one.row argument (sym w.sort ∙ here) in
            let q : eqb v.one.row result ≡ true = eq-eqb v.one.row result (sym v.sort ∙ d) in
            ap Ok (i ∙ sums long more (length (text w.one.value)) (length (text v.one.value)) (arm_size (arm_of w.one.value v.one.value)) w.size v.size (length-arm w.one.value v.one.value))
            ∙ sym (read-both m k g h
            ∙ ap (λ (t : Bool). measured arm_size (unless t UnmatchedType (unless (eqb v.one.row result) UnmatchedType (Ok (arm_of w.one.value v.one.value))))) c
            ∙ ap (λ (t : Bool). measured arm_size (unless t UnmatchedType (Ok (arm_of w.one.value v.one.value)))) q)
          where
            sums : (long more x y z : ℕ) → long ≡ min x 18446744073709551615 → more ≡ min y 18446744073709551615 → z ≡ x + y + 12 →
                min (min (long + more) 18446744073709551615 + 12) 18446744073709551615 ≡ min z 18446744073709551615
            sums long more x y z p q s = omega arith

-- the table's sort
module _ (m : Result ℕ Refusal) (row declared : ℕ) where
  pub declared_other : (n : ℕ) → m ≡ Ok n → (declared ≡ row → ⊥) → Err UnmatchedType ≡ declared_as m row declared
  declared_other n e d = rw (e, ne_eqb declared row d)
