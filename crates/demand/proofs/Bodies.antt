-- A body means, at an argument, what the first of its arms gives that tests it.
-- Assumes nothing.
use Rattle.std.proofs.Common.{None, Option, Some, Ok}
use mathlib.Core.Path.{◌≡◌, refl, ap, sym, ◌∙◌, subst}
use mathlib.Core.Bool.{Bool, true, false, cond, ◌||◌}
use mathlib.Core.List.{List, [], ◌∷◌}
use Prim.Native.Nat.{ℕ}
use Rattle.ground.specs.Bytes.{bytes}
use Rattle.refusals.specs.declared.Refusal.TheVariants.{UnmatchedType, UnexpectedForm}
use Rattle.arena.specs.Text.{same_text}
use Rattle.arena.specs.Tree.{Tree, Trees, symbol, app, nil, cons}
use Rattle.arena.proofs.Texts.{same_refl}
use Rattle.order.specs.Every.{Every}
use Rattle.tables.specs.Sort.{Tables}
use Rattle.sorts.specs.Sort.{levels}
use Rattle.values.specs.Normal.{normal}
use Rattle.values.specs.Value.{Value, v_bool}
use Rattle.means.specs.Literal.{Lit, read}
use Rattle.well_sorted.proofs.Results.{ok_same, went, passed, was-found}
use Rattle.commands.specs.Command.{Chain, default, arm, chain, tests, key}
use Rattle.commands.proofs.Shapes.{TestView, t-left, t-right, key-view, tests-view, ite, chain_by}
use Rattle.model.specs.Model.{Table, arm_of, table_of, push, read_chain, read_tests, body_by, read_body}
use Rattle.values.specs.Equal.{decided, equal}
use Rattle.values.specs.Operators.{either, equals}
use Rattle.demand.specs.Mention.{unbarred}
use Rattle.demand.specs.Meaning.{Meant, both, choice, any_of, meaning_with, meaning, meanings}
use Rattle.values.proofs.Decisions.{turned}
use Rattle.demand.proofs.Looks.{first_hit, Give}

-- L: a literal that is read means its value
module _ (T : Tables) (x : List ℕ) (v : Value) (L : (t : Tree) (e : Option ℕ) (l : Lit) → read T levels e t ≡ Ok l → meaning t T x v e ≡ Some (normal l.value)) where
  abbrev tested : Lit → Bool
  tested m = decided (equal (normal m.value) v)

  argument-means : meaning (symbol x) T x v None ≡ Some v
  unfolding meaning_with
  argument-means = rw (same_refl (unbarred x)) refl

  equal-at : (a b : Tree) → meaning (app (cons (symbol (bytes "=")) (cons a (cons b nil)))) T x v None ≡ both (λ y z. Some (equals y z)) (meaning a T x v None) (meaning b T x v None)
  unfolding meaning_with same_text
  equal-at a b = refl

  test_means : (test k : Tree) (m : Lit) → TestView x test k → read T levels None k ≡ Ok m → meaning test T x v None ≡ Some (v_bool (tested m))
  test_means _ k m t-left r =
      equal-at (symbol x) k ∙ rw (argument-means, L k None m r) (ap (λ (t : Bool). Some (v_bool t)) (turned v (normal m.value)))
  test_means _ k m t-right r = equal-at k (symbol x) ∙ rw (argument-means, L k None m r) refl

  -- a list of tests
  or_false : (h : Bool) → h ≡ (h || false)
  or_false true = refl
  or_false false = refl

  any-more : (m : Meant) (ms : List Meant) (h k : Bool) → m None ≡ Some (v_bool h) → any_of ms ≡ Some (v_bool k) → any_of (m ∷ ms) ≡ Some (v_bool (h || k))
  any-more m [] h k p q = let z : false ≡ k = cc in p ∙ ap (λ (b : Bool). Some (v_bool b)) (or_false h ∙ ap (λ (b : Bool). h || b) z)
  any-more m (n ∷ ms) h k p q = ap (λ (o : Option Value). both either o (any_of (n ∷ ms))) p ∙ ap (λ (o : Option Value). both either (Some (v_bool h)) o) q

  pub record AnyHit (us : Trees) (t : Table) : Type 0 where
    pub hit : Bool
    pub meant : any_of (meanings us T x v) ≡ Some (v_bool hit)
    pub given : first_hit t.arms (normal t.«else») v ≡ v_bool hit

  no_hit : AnyHit nil (table_of [] (v_bool false))
  unfolding meaning_with normal
  no_hit = record { hit = false; meant = refl; given = refl }

  hit-more : (h k : Bool) → cond h (v_bool true) (v_bool k) ≡ v_bool (h || k)
  hit-more true k = refl
  hit-more false k = refl

  one_hit : (test : Tree) (us : Trees) (m : Lit) (t : Table) → meaning test T x v None ≡ Some (v_bool (tested m)) → AnyHit us t →
      AnyHit (cons test us) (push (arm_of m.value (v_bool true)) t)
  unfolding meaning_with normal
  one_hit test us m t e h =
      record {
        hit = tested m || h.hit;
        meant = any-more (λ o. meaning test T x v o) (meanings us T x v) (tested m) h.hit e h.meant;
        given = ap (λ (w : Value). cond (tested m) (v_bool true) w) h.given ∙ hit-more (tested m) h.hit;
      }

  module _ (argument result : ℕ) where
    pub tests_mean : (us : Trees) (t : Table) → read_tests T x argument result us ≡ Ok t → AnyHit us t
    unfolding read_tests
    tests_mean nil t e = subst (AnyHit nil) (ok_same e) no_hit
    tests_mean (cons test us) t e =
        let k = went _ _ t e in
        let m = went _ _ t k.next in
        let p = passed _ UnmatchedType _ t m.next in
        let w = went _ _ t p.1 in
        subst (AnyHit (cons test us)) (ok_same w.next)
        (one_hit test us m.got w.got
        (test_means test k.got m.got (key-view x test k.got (was-found UnexpectedForm (key x test) k.got k.first)) m.first)
        (tests_mean us w.got w.first))

    -- an ite chain
    abbrev Meets : Tree → Chain → Type 0
    Meets t c = (table : Table) → read_chain T x argument result c ≡ Ok table → meaning t T x v (Some result) ≡ Some (first_hit table.arms (normal table.«else») v)

    abbrev Found : Tree → Table → Type 0
    Found t table = meaning t T x v (Some result) ≡ Some (first_hit table.arms (normal table.«else») v)

    end-meets : (t : Tree) → Meets t (default t)
    unfolding read_chain
    end-meets t table e =
        let w = went _ _ table e in
        let p = passed _ UnmatchedType _ table w.next in
        subst (Found t) (ok_same p.1) (L t (Some result) w.got w.first)

    ite-at : (test value rest : Tree) → meaning (ite test value rest) T x v (Some result) ≡ choice (meaning test T x v None) (meaning value T x v (Some result)) (meaning rest T x v (Some result))
    unfolding meaning_with same_text
    ite-at test value rest = refl

    chosen-hit : (h : Bool) (y z : Value) → choice (Some (v_bool h)) (Some y) (Some z) ≡ Some (cond h y z)
    chosen-hit h y z = refl

    arm-meets : (test value rest : Tree) → Meets rest (chain rest) → Meets (ite test value rest) (arm test value (chain rest))
    unfolding read_chain
    arm-meets test value rest ih table e =
        let k = went _ _ table e in
        let m = went _ _ table k.next in
        let l = went _ _ table m.next in
        let p = passed _ UnmatchedType _ table l.next in
        let q = passed _ UnmatchedType _ table p.1 in
        let z = went _ _ table q.1 in
        subst (Found (ite test value rest)) (ok_same z.next)
        (ite-at test value rest
        ∙ rw (
          test_means test k.got m.got (key-view x test k.got (was-found UnexpectedForm (key x test) k.got k.first)) m.first,
          L value (Some result) l.got l.first,
          ih z.got z.first,
        ) (chosen-hit (tested m.got) (normal l.got.value) (first_hit z.got.arms (normal z.got.«else») v)))

    chain-means : (t : Tree) → Meets t (chain t)
    chain-means t = chain_by Meets end-meets arm-meets t

    or_at : (us : Trees) (e : Option ℕ) → meaning (app (cons (symbol (bytes "or")) us)) T x v e ≡ any_of (meanings us T x v)
    unfolding meaning_with same_text
    or_at us e = refl

    pub body-first : (body : Tree) (table : Table) → read_body T x argument result body ≡ Ok table → Found body table
    body-first body table e = go (tests body) refl e
      where
        go : (o : Option Trees) → tests body ≡ o → body_by T x argument result body o ≡ Ok table → Found body table
        go None h m = chain-means body table m
        go (Some us) h m =
            let s = tests_mean us table (passed _ UnmatchedType _ table m).1 in
            ap (λ (t : Tree). meaning t T x v (Some result)) (tests-view body us h) ∙ or_at us (Some result) ∙ s.meant ∙ ap Some (sym s.given)

-- the arms of a list of tests all give true
pub tests_give : (T : Tables) (x : List ℕ) (argument result : ℕ) (us : Trees) (t : Table) → read_tests T x argument result us ≡ Ok t → Give (v_bool true) t.arms
unfolding read_tests normal
tests_give T x argument result nil t e = subst (λ (u : Table). Give (v_bool true) u.arms) (ok_same e) Every.none
tests_give T x argument result (cons test us) t e =
    let k = went _ _ t e in
    let m = went _ _ t k.next in
    let p = passed _ UnmatchedType _ t m.next in
    let w = went _ _ t p.1 in
    subst (λ (u : Table). Give (v_bool true) u.arms) (ok_same w.next) (Every.also refl (tests_give T x argument result us w.got w.first))
