-- The tests of an `or` body, each laid as a record: what is left of them, and that all are laid once the rest is.
-- Assumes nothing.
use Rattle.std.proofs.Common.{None, Some, Ok}
use mathlib.Core.Path.{◌≡◌, refl, ap, ◌∙◌, subst}
use mathlib.Core.Bool.{true, false}
use mathlib.Core.List.{List, []}
use Prim.Native.Nat.{ℕ, ◌+◌, ◌-◌, ◌≤◌, ◌<◌}
use native.Mathlib.Omega.{arith}
use Rattle.refusals.specs.declared.Refusal.TheVariants.{UnmatchedType, UnexpectedForm}
use Rattle.arena.specs.Node.{after_at}
use Rattle.arena.specs.Tree.{Tree, Trees, nil, cons, count}
use Rattle.tables.specs.Layout.{Lent, tables_of}
use Rattle.tables.specs.Sort.{Tables}
use Rattle.shapes.specs.Shows.{StandingAll, Reads}
use Rattle.shapes.proofs.Stood.{first_of, others-of}
use Rattle.sorts.specs.Sort.{levels}
use Rattle.values.specs.Value.{v_bool}
use Rattle.means.specs.Literal.{Lit, read}
use Rattle.well_sorted.proofs.Results.{ok_same, went, passed, was-found}
use Rattle.value_text.specs.Value.{Given}
use Rattle.commands.specs.Command.{key}
use Rattle.model.specs.Model.{arm_of, Table, table_of, push, read_tests}
use Rattle.demand.specs.Fits.{TableFits}
use Rattle.arms.specs.Arm.{WritesTest}
use Rattle.arms.specs.Walk.{LaysArms, WritesTests}
use Rattle.arms.proofs.Rests.{Rest, rest-start, rest_end, key_fits, rest_more}

-- what tests with one more in front are read as
record Opened (T : Tables) (x : List ℕ) (argument result : ℕ) (b : Tree) (us : Trees) (table : Table) : Type 0 where
  node : Tree
  found : key x b ≡ Some node
  keyed : Lit
  keyed-was : read T levels None node ≡ Ok keyed
  below : Table
  below-was : read_tests T x argument result us ≡ Ok below
  is : push (arm_of keyed.value (v_bool true)) below ≡ table

opened : (T : Tables) (x : List ℕ) (argument result : ℕ) (b : Tree) (us : Trees) (table : Table) → read_tests T x argument result (cons b us) ≡ Ok table → Opened T x argument result b us table
unfolding read_tests
opened T x argument result b us table e =
    let a = went _ _ table e in
    let m = went _ _ table a.next in
    let p = passed _ UnmatchedType _ table m.next in
    let z = went _ _ table p.1 in
    record {
      node = a.got;
      found = was-found UnexpectedForm (key x b) a.got a.first;
      keyed = m.got;
      keyed-was = m.first;
      below = z.got;
      below-was = z.first;
      is = ok_same z.next;
    }

-- elsewhere the value is false
pub tests_else : (T : Tables) (x : List ℕ) (argument result : ℕ) (us : Trees) (table : Table) → read_tests T x argument result us ≡ Ok table → v_bool false ≡ table.«else»
unfolding read_tests
tests_else T x argument result nil table e = ap (λ (y : Table). y.«else») (ok_same e)
tests_else T x argument result (cons b us) table e =
    let o = opened T x argument result b us table e in
    tests_else T x argument result us o.below o.below-was ∙ ap (λ (y : Table). y.«else») o.is

pub record Going (T : Tables) (x ws ts : List ℕ) (argument result : ℕ) (table : Table) (entry : List ℕ) (place : ℕ) (out : List ℕ) (to at still : ℕ) : Type 0 where
  pub others : Trees
  pub there : StandingAll others ws ts at still
  pub left : Table
  pub reads : read_tests T x argument result others ≡ Ok left
  pub rest : Rest T argument result table entry place out to left

module _ (sorts members names ws ts : List ℕ) (offset size first many : ℕ) (entry : List ℕ) (place : ℕ) where
  abbrev pub GoingAt : List ℕ → ℕ → ℕ → ℕ → Type 0
  GoingAt out to at i =
      (l : Lent) → Given sorts members names l → (x : List ℕ) (us : Trees) (argument result : ℕ) (table : Table) → Reads x ts offset size → StandingAll us ws ts first many →
      read_tests (tables_of l) x argument result us ≡ Ok table → TableFits (tables_of l) argument result table →
      Going (tables_of l) x ws ts argument result table entry place out to at (many - i)

  pub tests-start : GoingAt entry place first 0
  tests-start l g x us argument result table r s e f =
      let n : many ≡ many - 0 = omega arith in
      record { others = us; there = subst (λ (j : ℕ). StandingAll us ws ts first j) n s; left = table; reads = e; rest = rest-start (tables_of l) argument result table entry place f }

  module _ (out : List ℕ) (to at i : ℕ) (h : GoingAt out to at i) where
    pub tests-end : many ≤ i → WritesTests sorts members names ws ts offset size first many entry out place to
    unfolding read_tests
    tests-end done l g x us argument result table r s e f = go (h l g x us argument result table r s e f) (h l g x us argument result table r s e f).others refl
      where
        go : (w : Going (tables_of l) x ws ts argument result table entry place out to at (many - i)) (os : Trees) → w.others ≡ os → LaysArms table.arms entry out place to
        go w (cons u os) o = let c = w.there.many-are in let z = ap count o in absurd (omega arith)
        go w nil o =
            let m : read_tests (tables_of l) x argument result nil ≡ Ok w.left = subst (λ (y : Trees). read_tests (tables_of l) x argument result y ≡ Ok w.left) o w.reads in
            let k : table_of [] (v_bool false) ≡ w.left = ok_same m in
            rest_end (tables_of l) argument result table entry place out to w.left w.rest (v_bool false) k

    module _ (more : i < many) (b : List ℕ) (next : ℕ) (laid : WritesTest sorts members names ws ts offset size at out b to next) (after : ℕ) (a : after ≡ after_at ws at) where
      pub tests-next : GoingAt b next after (i + 1)
      tests-next l g x us argument result table r s e f = go (h l g x us argument result table r s e f) (h l g x us argument result table r s e f).others refl
        where
          go : (w : Going (tables_of l) x ws ts argument result table entry place out to at (many - i)) (os : Trees) → w.others ≡ os → Going (tables_of l) x ws ts argument result table entry place b next after (many - (i + 1))
          go w nil o = let c = w.there.many-are in let z = ap count o in absurd (omega arith)
          go w (cons u os) o =
              let st : StandingAll (cons u os) ws ts at (many - i) = subst (λ (y : Trees). StandingAll y ws ts at (many - i)) o w.there in
              let p = opened (tables_of l) x argument result u os w.left (subst (λ (y : Trees). read_tests (tables_of l) x argument result y ≡ Ok w.left) o w.reads) in
              let one = arm_of p.keyed.value (v_bool true) in
              let keys = key_fits (tables_of l) argument result table entry place out to w.left w.rest one p.below p.is in
              let put = laid l g x u p.node p.keyed argument r (first_of ws ts u os at (many - i) st) p.found p.keyed-was keys in
              record {
                others = os;
                there = others-of ws ts u os at (many - i) st after (many - (i + 1)) a (omega arith);
                left = p.below;
                reads = p.below-was;
                rest = rest_more (tables_of l) argument result table entry place out to w.left w.rest one p.below p.is b next put;
              }
