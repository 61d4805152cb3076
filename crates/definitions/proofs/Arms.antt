-- An arm and a test of a body: one law for each way out.
-- Assumes nothing.
use Rattle.std.proofs.Common.{None, Option, Some, Err, Ok, Result}
use mathlib.Core.Path.{◌≡◌, refl, sym, ap, ◌∙◌, subst}
use mathlib.Core.Bool.{Bool, true, false}
use mathlib.Core.List.{List}
use Prim.Native.Nat.{ℕ, min, ◌+◌}
use native.Mathlib.Omega.{arith}
use lib.Dec.{eqb}
use lib.ListN.{length}
use Rattle.refusals.specs.declared.Refusal.TheVariants.{UnmatchedType, UnexpectedForm}
use Rattle.arena.specs.Tree.{Tree}
use Rattle.tables.specs.Layout.{tables_of}
use Rattle.sorts.specs.Result.{◌>>=◌, unless, found}
use Rattle.sorts.specs.Sort.{levels}
use Rattle.values.specs.Text.{text}
use Rattle.values.specs.Value.{v_bool}
use Rattle.means.specs.Literal.{Lit, read}
use Rattle.literals.specs.Plan.{DecodesAt}
use Rattle.commands.specs.Command.{key}
use Rattle.commands.specs.TestShows.{KeyShows, KeyAt}
use Rattle.model.specs.Model.{arm_of}
use Rattle.definitions.specs.Measure.{value_size, arm_size, measured, test_as, ValueOf, ArmOf, ArmAt, TestAt}
use Rattle.definitions.proofs.Measures.{length-arm}
use Rattle.literals.specs.declared.answer.Literal.{Literal}
use Rattle.refusals.specs.declared.Refusal.{Refusal}

module _ (sorts fields members names ws ts : List ℕ) (offset size argument test : ℕ) (q : Option ℕ) (h : KeyAt ws ts test offset size q) where
  module _ (result value : ℕ) where
    pub arm_shapeless : q ≡ None → ArmAt sorts fields members names ws ts offset size argument result test value (Err UnexpectedForm)
    unfolding ◌>>=◌
    arm_shapeless e l g x b c r s t =
        let w = subst (λ (y : Option ℕ). KeyShows ws ts y (key x b)) e (h x b r s) in
        sym (ap (λ (o : Option Tree). measured arm_size (found UnexpectedForm o >>= λ k. read (tables_of l) levels None k >>= λ m. read (tables_of l) levels (Some result) c >>= λ n. unless (eqb m.row argument) UnmatchedType (unless (eqb n.row result) UnmatchedType (Ok (arm_of m.value n.value))))) w)

    pub arm-keyed : (node : ℕ) → q ≡ Some node → (a b : Result Literal Refusal) → DecodesAt sorts fields members names ws ts node None levels a → DecodesAt sorts fields members names ws ts value (Some result) levels b →
        (r : Result ℕ Refusal) → ArmOf a b argument result r → ArmAt sorts fields members names ws ts offset size argument result test value r
    unfolding ◌>>=◌
    arm-keyed node e a b d f r k l g x u c z s t =
        let w = subst (λ (y : Option ℕ). KeyShows ws ts y (key x u)) e (h x u z s) in
        k (read (tables_of l) levels None w.0) (read (tables_of l) levels (Some result) c) (d l g w.0 w.2) (f l g c t)
        ∙ sym (ap (λ (o : Option Tree). measured arm_size (found UnexpectedForm o >>= λ k. read (tables_of l) levels None k >>= λ m. read (tables_of l) levels (Some result) c >>= λ n. unless (eqb m.row argument) UnmatchedType (unless (eqb n.row result) UnmatchedType (Ok (arm_of m.value n.value))))) w.1)

  pub test_shapeless : q ≡ None → TestAt sorts fields members names ws ts offset size argument test (Err UnexpectedForm)
  unfolding ◌>>=◌
  test_shapeless e l g x b r s =
      let w = subst (λ (y : Option ℕ). KeyShows ws ts y (key x b)) e (h x b r s) in
      sym (ap (λ (o : Option Tree). measured arm_size (found UnexpectedForm o >>= λ k. read (tables_of l) levels None k >>= λ m. unless (eqb m.row argument) UnmatchedType (Ok (arm_of m.value (v_bool true))))) w)

  -- a key with its value true is 16 bytes more
  tests_as : (m : Result Lit Refusal) → test_as (measured value_size (m >>= λ l. unless (eqb l.row argument) UnmatchedType (Ok l.value))) ≡ measured arm_size (m >>= λ l. unless (eqb l.row argument) UnmatchedType (Ok (arm_of l.value (v_bool true))))
  unfolding ◌>>=◌ unless text
  tests_as (Err r) = refl
  tests_as (Ok l) = go (eqb l.row argument)
    where
      sums : (x z : ℕ) → z ≡ x + 4 + 12 → min (min x 18446744073709551615 + 16) 18446744073709551615 ≡ min z 18446744073709551615
      sums x z e = omega arith

      go : (b : Bool) → test_as (measured value_size (unless b UnmatchedType (Ok l.value))) ≡ measured arm_size (unless b UnmatchedType (Ok (arm_of l.value (v_bool true))))
      go true = ap Ok (sums (length (text l.value)) (arm_size (arm_of l.value (v_bool true))) (length-arm l.value (v_bool true)))
      go false = refl

  pub test_keyed : (node : ℕ) → q ≡ Some node → (a : Result Literal Refusal) → DecodesAt sorts fields members names ws ts node None levels a → (m r : Result ℕ Refusal) → ValueOf a argument m → r ≡ test_as m → TestAt sorts fields members names ws ts offset size argument test r
  unfolding ◌>>=◌
  test_keyed node e a d m r k f l g x u z s =
      let w = subst (λ (y : Option ℕ). KeyShows ws ts y (key x u)) e (h x u z s) in
      f ∙ ap test_as (k (read (tables_of l) levels None w.0) (d l g w.0 w.2)) ∙ tests_as (read (tables_of l) levels None w.0)
      ∙ sym (ap (λ (o : Option Tree). measured arm_size (found UnexpectedForm o >>= λ k. read (tables_of l) levels None k >>= λ m. unless (eqb m.row argument) UnmatchedType (Ok (arm_of m.value (v_bool true))))) w.1)
