-- Arms by repetition, each laid as a record: what is left of a body, and that all are laid once the rest is.
-- Assumes nothing.
use Rattle.std.proofs.Common.{None, Some, Option, Ok}
use mathlib.Core.Path.{◌≡◌, sym, subst}
use mathlib.Core.List.{List, []}
use Prim.Native.Nat.{ℕ, ◌≤◌}
use native.Mathlib.Omega.{arith}
use lib.ListN.{length}
use Rattle.refusals.specs.declared.Refusal.TheVariants.{UnmatchedType, UnexpectedForm}
use Rattle.arena.specs.Tree.{Tree}
use Rattle.tables.specs.Layout.{Lent, tables_of}
use Rattle.tables.specs.Sort.{Tables}
use Rattle.shapes.specs.Shows.{Standing, Reads}
use Rattle.sorts.specs.Sort.{levels}
use Rattle.means.specs.Literal.{Lit, read}
use Rattle.well_sorted.proofs.Results.{ok_same, went, passed, was-found}
use Rattle.value_text.specs.Value.{Given}
use Rattle.commands.specs.Command.{Chain, chain, default, arm, key}
use Rattle.commands.specs.LinkShows.{LinkShows, LinkAt}
use Rattle.commands.proofs.Links.{standing-within, shown-link}
use Rattle.model.specs.Model.{arm_of, Table, table_of, push, read_chain}
use Rattle.demand.specs.Fits.{TableFits}
use Rattle.arms.specs.declared.chain.Chained.{Chained}
use Rattle.arms.specs.Arm.{WritesArm}
use Rattle.arms.specs.Walk.{LaysArms, WritesChain}
use Rattle.arms.proofs.Rests.{Rest, rest-start, rest_end, rest_else, key_fits, value-fits, rest_more}
use Rattle.commands.specs.declared.chain.Link.{Link}

-- what a chain with one more arm in front is read as
record Opened (T : Tables) (x : List ℕ) (argument result : ℕ) (b c : Tree) (rest : Chain) (table : Table) : Type 0 where
  node : Tree
  found : key x b ≡ Some node
  keyed : Lit
  keyed-was : read T levels None node ≡ Ok keyed
  valued : Lit
  valued-was : read T levels (Some result) c ≡ Ok valued
  below : Table
  below-was : read_chain T x argument result rest ≡ Ok below
  is : push (arm_of keyed.value valued.value) below ≡ table

opened : (T : Tables) (x : List ℕ) (argument result : ℕ) (b c : Tree) (rest : Chain) (table : Table) → read_chain T x argument result (arm b c rest) ≡ Ok table → Opened T x argument result b c rest table
unfolding read_chain
opened T x argument result b c rest table e =
    let a = went _ _ table e in
    let m = went _ _ table a.next in
    let n = went _ _ table m.next in
    let p = passed _ UnmatchedType _ table n.next in
    let u = passed _ UnmatchedType _ table p.1 in
    let z = went _ _ table u.1 in
    record {
      node = a.got;
      found = was-found UnexpectedForm (key x b) a.got a.first;
      keyed = m.got;
      keyed-was = m.first;
      valued = n.got;
      valued-was = n.first;
      below = z.got;
      below-was = z.first;
      is = ok_same z.next;
    }

pub record Going (T : Tables) (x ws ts : List ℕ) (argument result : ℕ) (table : Table) (entry : List ℕ) (place : ℕ) (out : List ℕ) (to at : ℕ) : Type 0 where
  pub here : Tree
  pub there : Standing here ws ts at
  pub left : Table
  pub reads : read_chain T x argument result (chain here) ≡ Ok left
  pub rest : Rest T argument result table entry place out to left

module _ (sorts members names ws ts : List ℕ) (offset size body : ℕ) (entry : List ℕ) (place : ℕ) where
  abbrev pub GoingAt : List ℕ → ℕ → ℕ → Type 0
  GoingAt out to at =
      (l : Lent) → Given sorts members names l → (x : List ℕ) (t : Tree) (argument result : ℕ) (table : Table) → Reads x ts offset size → Standing t ws ts body →
      read_chain (tables_of l) x argument result (chain t) ≡ Ok table → TableFits (tables_of l) argument result table →
      Going (tables_of l) x ws ts argument result table entry place out to at

  pub chain-start : GoingAt entry place body
  chain-start l g x t argument result table r s e f = record { here = t; there = s; left = table; reads = e; rest = rest-start (tables_of l) argument result table entry place f }

  module _ (out : List ℕ) (to at : ℕ) (h : GoingAt out to at) where
    -- a tree stands within the words
    pub chain-past : length ws ≤ at → (exit : List ℕ) (c : Chained) → WritesChain sorts members names ws ts offset size body entry exit place c
    chain-past p exit c l g x t argument result table r s e f =
        let w = h l g x t argument result table r s e f in
        let z = standing-within w.here ws ts at w.there in
        absurd (omega arith)

    module _ (q : Option Link) (k : LinkAt ws ts at q) where
      pub chain-end : q ≡ None → (c : Chained) → c.node ≡ at → c.place ≡ to → WritesChain sorts members names ws ts offset size body entry out place c
      unfolding read_chain
      chain-end d c n p l g x t argument result table r s e f =
          let w = h l g x t argument result table r s e f in
          let z : chain w.here ≡ default w.here = shown-link ws ts at q None d k w.here w.there in
          let m : read_chain (tables_of l) x argument result (default w.here) ≡ Ok w.left = subst (λ (y : Chain). read_chain (tables_of l) x argument result y ≡ Ok w.left) z w.reads in
          let v = went _ _ w.left m in
          let u = passed _ UnmatchedType _ w.left v.next in
          let i : table_of [] v.got.value ≡ w.left = ok_same u.1 in
          record {
            arms =
                subst (λ (j : ℕ). LaysArms table.arms entry out place j) (sym p)
                (rest_end (tables_of l) argument result table entry place out to w.left w.rest v.got.value i);
            default = record {
              tree = w.here;
              stands = subst (λ (j : ℕ). Standing w.here ws ts j) (sym n) w.there;
              lit = v.got;
              was = v.first;
              is = rest_else (tables_of l) argument result table entry place out to w.left w.rest v.got.value i;
            };
          }

      module _ (test value rest : ℕ) (d : q ≡ Some (record { test = test; value = value; rest = rest })) where
        shown : (t : Tree) → Standing t ws ts at → LinkShows ws ts at (Some (record { test = test; value = value; rest = rest })) t
        shown t s = shown-link ws ts at q (Some (record { test = test; value = value; rest = rest })) d k t s

        -- what follows an arm stands behind it
        pub chain-behind : rest ≤ at → (exit : List ℕ) (c : Chained) → WritesChain sorts members names ws ts offset size body entry exit place c
        chain-behind p exit c l g x t argument result table r s e f =
            let w = h l g x t argument result table r s e f in
            let z = (shown w.here w.there).8 in
            absurd (omega arith)

        pub chain_next : (b : List ℕ) (next : ℕ) → WritesArm sorts members names ws ts offset size test value out b to next → GoingAt b next rest
        chain_next b next laid l g x t argument result table r s e f = go (h l g x t argument result table r s e f)
          where
            after : (w : Going (tables_of l) x ws ts argument result table entry place out to at) (u c d : Tree) → Standing u ws ts test → Standing c ws ts value → Standing d ws ts rest →
                Opened (tables_of l) x argument result u c (chain d) w.left → Going (tables_of l) x ws ts argument result table entry place b next rest
            after w u c d su sc sd o =
                let one = arm_of o.keyed.value o.valued.value in
                let keys = key_fits (tables_of l) argument result table entry place out to w.left w.rest one o.below o.is in
                let values = value-fits (tables_of l) argument result table entry place out to w.left w.rest one o.below o.is in
                let put = laid l g x u o.node o.keyed argument r su o.found o.keyed-was keys c (Some result) o.valued result sc o.valued-was values in
                record {
                  here = d;
                  there = sd;
                  left = o.below;
                  reads = o.below-was;
                  rest = rest_more (tables_of l) argument result table entry place out to w.left w.rest one o.below o.is b next put;
                }

            go : Going (tables_of l) x ws ts argument result table entry place out to at → Going (tables_of l) x ws ts argument result table entry place b next rest
            go w =
                let v = shown w.here w.there in
                after w v.0 v.1 v.2 v.5 v.6 v.7
                (opened (tables_of l) x argument result v.0 v.1 (chain v.2) w.left (subst (λ (y : Chain). read_chain (tables_of l) x argument result y ≡ Ok w.left) v.4 w.reads))
