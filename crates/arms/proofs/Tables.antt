-- A table: the lines of its arms, and that of its default.
-- Assumes nothing.
use Rattle.std.proofs.Common.{None, Option, Some, Ok}
use mathlib.Core.Path.{◌≡◌, sym, subst}
use mathlib.Core.List.{List}
use Prim.Native.Nat.{ℕ}
use Rattle.ground.specs.Bytes.{bytes}
use Rattle.refusals.specs.declared.Refusal.TheVariants.{UnmatchedType}
use Rattle.lent.specs.Put.{Offers}
use Rattle.arena.specs.Tree.{Trees}
use Rattle.tables.specs.Layout.{tables_of}
use Rattle.sorts.specs.Sort.{levels}
use Rattle.values.specs.HasSort.{HasSort, Loose}
use Rattle.values.specs.Normal.{normal}
use Rattle.values.specs.Text.{text}
use Rattle.values.specs.Value.{Value}
use Rattle.well_sorted.proofs.Results.{passed}
use Rattle.value_text.specs.Laid.{Lays}
use Rattle.value_text.specs.Value.{WritesInside}
use Rattle.value_text.proofs.Lays.{lays_then, lays_put}
use Rattle.commands.specs.Command.{tests}
use Rattle.commands.specs.TestShows.{TestsShow, TestsAt}
use Rattle.model.specs.Model.{body_by}
use Rattle.model.specs.Listing.{line}
use Rattle.arms.specs.declared.chain.Chained.{Chained}
use Rattle.arms.specs.Walk.{WritesChain, WritesTests}
use Rattle.arms.specs.Settle.{Settles}
use Rattle.arms.specs.Table.{WritesElse, WritesTable}
use Rattle.arms.proofs.Disjuncts.{tests_else}
use Rattle.commands.specs.declared.test.Disjunction.{Disjunction}

module _ (sorts members names ws ts : List ℕ) where
  pub else_of : (i : ℕ) (a b c d : List ℕ) (place one two next : ℕ) → Offers a b place (bytes "else=") one → WritesInside sorts members names ws ts i levels b c one two → Offers c d two (bytes "\n") next →
      WritesElse sorts members names ws ts i a d place next
  else_of i a b c d place one two next first inside last l g t s e k m row hs = lays_then (lays_put first) (lays_then (inside l g t s e k m row hs) (lays_put last))

  module _ (offset size body : ℕ) (q : Option Disjunction) (k : TestsAt ws ts body q) where
    pub table-tests : (first many : ℕ) → q ≡ Some (record { first = first; count = many }) → (a b c d : List ℕ) (place behind next r : ℕ) → WritesTests sorts members names ws ts offset size first many a b place behind →
        Settles b c place behind next → Offers c d next (bytes "else=false\n") r → WritesTable sorts members names ws ts offset size body a d place r
    unfolding text normal
    table-tests first many n a b c d place behind next r laid settles last l g x t argument result table reads s e fits =
        let w = subst (λ (y : Option Disjunction). TestsShow ws ts y (tests t)) n (k t s) in
        let p = passed _ UnmatchedType _ table (subst (λ (o : Option Trees). body_by (tables_of l) x argument result t o ≡ Ok table) w.1 e) in
        lays_then
        (settles (tables_of l) argument result table fits a (laid l g x w.0 argument result table reads w.2 p.1 fits))
        (subst (λ (v : Value). Lays (line "else" (text v)) (line "else" (text (normal v))) c d next r) (tests_else (tables_of l) x argument result w.0 table p.1) (lays_put last))

    pub table-chain : q ≡ None → (a b c d : List ℕ) (place next r : ℕ) (chained : Chained) → WritesChain sorts members names ws ts offset size body a b place chained →
        Settles b c place chained.place next → WritesElse sorts members names ws ts chained.node c d next r → WritesTable sorts members names ws ts offset size body a d place r
    table-chain n a b c d place next r chained laid settles last l g x t argument result table reads s e fits =
        let w : tests t ≡ None = subst (λ (y : Option Disjunction). TestsShow ws ts y (tests t)) n (k t s) in
        let m = subst (λ (o : Option Trees). body_by (tables_of l) x argument result t o ≡ Ok table) w e in
        let z = laid l g x t argument result table reads s m fits in
        let v = z.default in
        lays_then
        (settles (tables_of l) argument result table fits a z.arms)
        (subst (λ (u : Value). Lays (line "else" (text u)) (line "else" (text (normal u))) c d next r) v.is
        (last l g v.tree v.stands (Some result) v.lit v.was result (subst (λ (u : Value). HasSort u Loose (tables_of l) result) (sym v.is) fits.default)))
