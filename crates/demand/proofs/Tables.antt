-- The table of a body that is read: its keys have the argument's sort, its values and its default the result's.
-- Assumes nothing.
use Rattle.std.proofs.Common.{None, Option, Some, Ok}
use mathlib.Core.Path.{◌≡◌, refl, sym, subst}
use mathlib.Core.Bool.{true, false, true≢false}
use mathlib.Core.List.{List}
use Prim.Native.Nat.{ℕ}
use lib.Dec.{eqb}
use borrow.Author.Tests.{eqb-true}
use Rattle.ground.specs.Lists.{at}
use Rattle.refusals.specs.declared.Refusal.TheVariants.{UnmatchedType, UnexpectedForm}
use Rattle.arena.specs.Tree.{Tree, Trees, nil, cons}
use Rattle.order.specs.Every.{Every}
use Rattle.tables.specs.Rules.{lawful}
use Rattle.tables.specs.Sort.{Sort, bool, string, ext, bit_vec, option_of, set_of, entity_of, record_of, Tables}
use Rattle.sorts.specs.Sort.{levels}
use Rattle.values.specs.HasSort.{HasSort, Loose}
use Rattle.means.specs.Literal.{Lit, read}
use Rattle.well_sorted.specs.Octets.{Octets, OctetsAll}
use Rattle.well_sorted.proofs.Results.{ok_same, went, passed, was-found}
use Rattle.well_sorted.proofs.Fits.{read_fits}
use Rattle.commands.specs.Command.{Chain, default, arm, chain, tests, key}
use Rattle.commands.proofs.Shapes.{TestView, t-left, t-right, key-view, tests-view, ite, chain_by}
use Rattle.model.specs.Model.{Table, is_bool, read_chain, read_tests, body_by, read_body}
use Rattle.demand.specs.Fits.{TableFits}

-- the row is bool's
bool-row : (o : Option Sort) → is_bool o ≡ true → o ≡ Some bool
bool-row None e = absurd (true≢false (sym e))
bool-row (Some bool) e = refl
bool-row (Some string) e = absurd (true≢false (sym e))
bool-row (Some (ext x)) e = absurd (true≢false (sym e))
bool-row (Some (bit_vec w)) e = absurd (true≢false (sym e))
bool-row (Some (option_of q)) e = absurd (true≢false (sym e))
bool-row (Some (set_of q)) e = absurd (true≢false (sym e))
bool-row (Some (entity_of name)) e = absurd (true≢false (sym e))
bool-row (Some (record_of name fs)) e = absurd (true≢false (sym e))

key-octets : (x : List ℕ) (test k : Tree) → TestView x test k → Octets test → Octets k
key-octets x _ k t-left p = p.1.1.0
key-octets x _ k t-right p = p.1.0

module _ (T : Tables) (rules : lawful T ≡ true) where
  -- a literal of the row that is asked for
  pub read_at : (e : Option ℕ) (t : Tree) (l : Lit) (row : ℕ) → Octets t → read T levels e t ≡ Ok l → eqb l.row row ≡ true → HasSort l.value Loose T row
  read_at e t l row p m q = subst (λ (r : ℕ). HasSort l.value Loose T r) (eqb-true _ _ q) (read_fits T false rules levels e t l p m)

  module _ (x : List ℕ) (argument result : ℕ) where
    key-at : (test k : Tree) (l : Lit) → Octets test → key x test ≡ Some k → read T levels None k ≡ Ok l → eqb l.row argument ≡ true → HasSort l.value Loose T argument
    key-at test k l p e m q = read_at None k l argument (key-octets x test k (key-view x test k e) p) m q

    abbrev ChainFits : Tree → Chain → Type 0
    ChainFits t c = Octets t → (table : Table) → read_chain T x argument result c ≡ Ok table → TableFits T argument result table

    end_fits : (t : Tree) → ChainFits t (default t)
    unfolding read_chain
    end_fits t o table e =
        let w = went _ _ table e in
        let p = passed _ UnmatchedType _ table w.next in
        subst (TableFits T argument result) (ok_same p.1)
        (record { keys = Every.none; values = Every.none; default = read_at (Some result) t w.got result o w.first p.0 })

    arm-fits : (test value rest : Tree) → ChainFits rest (chain rest) → ChainFits (ite test value rest) (arm test value (chain rest))
    unfolding read_chain
    arm-fits test value rest ih o table e =
        let k = went _ _ table e in
        let m = went _ _ table k.next in
        let l = went _ _ table m.next in
        let p = passed _ UnmatchedType _ table l.next in
        let q = passed _ UnmatchedType _ table p.1 in
        let z = went _ _ table q.1 in
        let below = ih o.1.1.1.0 z.got z.first in
        subst (TableFits T argument result) (ok_same z.next)
        (record {
          keys = Every.also (key-at test k.got m.got o.1.0 (was-found UnexpectedForm (key x test) k.got k.first) m.first p.0) below.keys;
          values = Every.also (read_at (Some result) value l.got result o.1.1.0 l.first q.0) below.values;
          default = below.default;
        })

    tests-fit : at T.sorts result ≡ Some bool → (us : Trees) (t : Table) → OctetsAll us → read_tests T x argument result us ≡ Ok t → TableFits T argument result t
    unfolding read_tests
    tests-fit b nil t o e = subst (TableFits T argument result) (ok_same e) (record { keys = Every.none; values = Every.none; default = b })
    tests-fit b (cons test us) t o e =
        let k = went _ _ t e in
        let m = went _ _ t k.next in
        let p = passed _ UnmatchedType _ t m.next in
        let z = went _ _ t p.1 in
        let below = tests-fit b us z.got o.1 z.first in
        subst (TableFits T argument result) (ok_same z.next)
        (record {
          keys = Every.also (key-at test k.got m.got o.0 (was-found UnexpectedForm (key x test) k.got k.first) m.first p.0) below.keys;
          values = Every.also b below.values;
          default = below.default;
        })

    pub body-fits : (body : Tree) (t : Table) → Octets body → read_body T x argument result body ≡ Ok t → TableFits T argument result t
    body-fits body t o e = go (tests body) refl e
      where
        go : (u : Option Trees) → tests body ≡ u → body_by T x argument result body u ≡ Ok t → TableFits T argument result t
        go None h m = chain_by ChainFits end_fits arm-fits body o t m
        go (Some us) h m =
            let p = passed _ UnmatchedType _ t m in
            tests-fit (bool-row (at T.sorts result) p.0) us t (subst Octets (tests-view body us h) o).1 p.1
