-- How long a definition can be: 131,300 bytes a node of its command, or its pair, and two for each byte of the text there; and that its row is one of its table.
-- Assumes nothing.
use Rattle.std.proofs.Common.{None, Option, Some, Ok, Result}
use mathlib.Core.Path.{◌≡◌, refl, sym, ap, ◌∙◌, subst}
use mathlib.Core.Bool.{true, false}
use mathlib.Core.List.{List, [], ◌∷◌, ◌++◌}
use Prim.Native.Nat.{ℕ, ◌+◌, ◌≤◌}
use native.Mathlib.Omega.{arith}
use lib.ListN.{length, length-append}
use Rattle.ground.specs.Bytes.{bytes}
use Rattle.ground.specs.Lists.{at}
use Rattle.refusals.specs.declared.Refusal.TheVariants.{UnexpectedModel, UnmatchedType, UnexpectedForm}
use Rattle.arena.specs.Tree.{Tree, Trees, symbol, app, nil, cons}
use Rattle.arena.proofs.Layouts.{nodes-some}
use Rattle.tables.specs.Find.{variable_row, function_row}
use Rattle.tables.specs.Rules.{lawful}
use Rattle.tables.specs.Sort.{Variable, Function, Tables}
use Rattle.sorts.specs.Result.{◌>>=◌}
use Rattle.sorts.specs.Sort.{levels}
use Rattle.values.specs.Text.{text}
use Rattle.values.specs.Value.{Value, v_bool}
use Rattle.values.proofs.Lengths.{length_true, length_false}
use Rattle.means.specs.Literal.{Lit, read}
use Rattle.well_sorted.proofs.Finds.{at-within}
use Rattle.well_sorted.proofs.Results.{refuses, ok_same, went, passed, was-found}
use Rattle.well_sorted.proofs.Sizes.{room_by, rooms_by, rooms-cons, read_short}
use Rattle.commands.specs.declared.form.Form.{Form}
use Rattle.commands.specs.Pair.{Pair, pair}
use Rattle.commands.specs.Command.{Command, Chain, default, arm, chain, tests, key, command}
use Rattle.commands.proofs.Shapes.{PairView, p_pair, p_none, pair-view, define, CommandView, c_variable, c_function, c_misshapen, command-view, TestView, t-left, t-right, key-view, tests-view, ite, chain_by}
use Rattle.model.specs.Model.{Arm, arm_of, Table, push, Definition, is_variable, read_chain, read_tests, body_by, read_body, value_as, variable_value, function_table, on_row, read_command, read_pair, read_part}
use Rattle.model.specs.Listing.{line, arm_lines}
use Rattle.model.proofs.Lengths.{length-line}
use Rattle.definitions.specs.Measure.{value_size, table_size}
use Rattle.walk.specs.Noted.{size}
use Rattle.walk.specs.Placed.{Within}
use Rattle.refusals.specs.declared.Refusal.{Refusal}

abbrev room : Tree → ℕ
room t = room_by 131300 t

abbrev rooms : Trees → ℕ
rooms us = rooms_by 131300 us

-- an application has the room of its parts
key-room : (x : List ℕ) (test k : Tree) → TestView x test k → room k + 131300 ≤ room test
key-room x _ k t-left =
    let p = rooms-cons 131300 (symbol (bytes "=")) (cons (symbol x) (cons k nil)) in
    let q = rooms-cons 131300 (symbol x) (cons k nil) in
    let r = rooms-cons 131300 k nil in
    omega arith
key-room x _ k t-right =
    let p = rooms-cons 131300 (symbol (bytes "=")) (cons k (cons (symbol x) nil)) in
    let q = rooms-cons 131300 k (cons (symbol x) nil) in
    let r = rooms-cons 131300 (symbol x) nil in
    omega arith

ite-room : (test value rest : Tree) → room test + room value + room rest ≤ room (ite test value rest)
ite-room test value rest =
    let p = rooms-cons 131300 (symbol (bytes "ite")) (cons test (cons value (cons rest nil))) in
    let q = rooms-cons 131300 test (cons value (cons rest nil)) in
    let r = rooms-cons 131300 value (cons rest nil) in
    let s = rooms-cons 131300 rest nil in
    omega arith

or_room : (us : Trees) → 131300 + rooms us ≤ room (app (cons (symbol (bytes "or")) us))
or_room us = let p = rooms-cons 131300 (symbol (bytes "or")) us in omega arith

define-room : (name : List ℕ) (us : Trees) (sort body : Tree) → room body ≤ room (define name us sort body)
define-room name us sort body =
    let p = rooms-cons 131300 (symbol (bytes "define-fun")) (cons (symbol name) (cons (app us) (cons sort (cons body nil)))) in
    let q = rooms-cons 131300 (symbol name) (cons (app us) (cons sort (cons body nil))) in
    let r = rooms-cons 131300 (app us) (cons sort (cons body nil)) in
    let s = rooms-cons 131300 sort (cons body nil) in
    let t = rooms-cons 131300 body nil in
    omega arith

push-size : (a : Arm) (t : Table) → table_size (push a t) ≡ length (text a.«when») + length (text a.«then») + 12 + table_size t
push-size a t =
    let w = line "when" (text a.«when») in
    let h = line "then" (text a.«then») in
    let e = line "else" (text t.«else») in
    omega (
      arith,
      length-append (w ++ (h ++ arm_lines t.arms)) e,
      length-append w (h ++ arm_lines t.arms),
      length-append h (arm_lines t.arms),
      length-append (arm_lines t.arms) e,
      length-line "when" (text a.«when»),
      length-line "then" (text a.«then»),
    )

module _ (T : Tables) (rules : lawful T ≡ true) where
  literal-short : (e : Option ℕ) (t : Tree) (l : Lit) → read T levels e t ≡ Ok l → length (text l.value) + 100 ≤ room t
  literal-short e t l m = let h = read_short T false rules levels e t l m in let n = nodes-some t in omega arith

  module _ (x : List ℕ) (argument result : ℕ) where
    key-short : (test k : Tree) (l : Lit) → key x test ≡ Some k → read T levels None k ≡ Ok l → length (text l.value) + 100 ≤ room test
    key-short test k l e m = omega (arith, literal-short None k l m, key-room x test k (key-view x test k e))

    abbrev ChainShort : Tree → Chain → Type 0
    ChainShort t c = (table : Table) → read_chain T x argument result c ≡ Ok table → table_size table ≤ room t

    end_short : (t : Tree) → ChainShort t (default t)
    unfolding read_chain
    end_short t table e =
        let w = went _ _ table e in
        let p = passed _ UnmatchedType _ table w.next in
        subst (λ (u : Table). table_size u ≤ room t) (ok_same p.1) (omega (arith, literal-short (Some result) t w.got w.first, length-line "else" (text w.got.value)))

    arm-short : (test value rest : Tree) → ChainShort rest (chain rest) → ChainShort (ite test value rest) (arm test value (chain rest))
    unfolding read_chain
    arm-short test value rest ih table e =
        let k = went _ _ table e in
        let m = went _ _ table k.next in
        let l = went _ _ table m.next in
        let p = passed _ UnmatchedType _ table l.next in
        let q = passed _ UnmatchedType _ table p.1 in
        let z = went _ _ table q.1 in
        subst (λ (u : Table). table_size u ≤ room (ite test value rest)) (ok_same z.next)
        (omega (
          arith,
          ih z.got z.first,
          key-short test k.got m.got (was-found UnexpectedForm (key x test) k.got k.first) m.first,
          literal-short (Some result) value l.got l.first,
          push-size (arm_of m.got.value l.got.value) z.got,
          ite-room test value rest,
        ))

    tests-short : (us : Trees) (t : Table) → read_tests T x argument result us ≡ Ok t → table_size t ≤ 11 + rooms us
    unfolding read_tests
    tests-short nil t e = subst (λ (u : Table). table_size u ≤ 11) (ok_same e) (omega (arith, length-line "else" (text (v_bool false)), length_false))
    tests-short (cons test us) t e =
        let k = went _ _ t e in
        let m = went _ _ t k.next in
        let p = passed _ UnmatchedType _ t m.next in
        let z = went _ _ t p.1 in
        subst (λ (u : Table). table_size u ≤ 11 + rooms (cons test us)) (ok_same z.next)
        (omega (
          arith,
          tests-short us z.got z.first,
          key-short test k.got m.got (was-found UnexpectedForm (key x test) k.got k.first) m.first,
          push-size (arm_of m.got.value (v_bool true)) z.got,
          length_true,
          rooms-cons 131300 test us,
        ))

    body-short : (body : Tree) (t : Table) → read_body T x argument result body ≡ Ok t → table_size t ≤ room body
    body-short body t e = go (tests body) refl e
      where
        go : (u : Option Trees) → tests body ≡ u → body_by T x argument result body u ≡ Ok t → table_size t ≤ room body
        go None h m = chain_by ChainShort end_short arm-short body t m
        go (Some us) h m =
            let p = passed _ UnmatchedType _ t m in
            subst (λ (b : Tree). table_size t ≤ room b) (sym (tests-view body us h)) (omega (arith, tests-short us t p.1, or_room us))

  value-short : (row : ℕ) (t : Tree) (x : Value) → value_as T row t ≡ Ok x → value_size x ≤ room t
  value-short row t x e =
      let l = went _ _ x e in
      let p = passed _ UnmatchedType _ x l.next in
      subst (λ (y : Value). value_size y ≤ room t) (ok_same p.1) (omega (arith, literal-short (Some row) t l.got l.first))

  variable-short : (v : Variable) (sort t : Tree) (x : Value) → variable_value T v sort t ≡ Ok x → value_size x ≤ room t
  variable-short v sort t x e =
      let s = went _ _ x e in
      let l = went _ _ x s.next in
      let p = passed _ UnmatchedType _ x l.next in
      subst (λ (y : Value). value_size y ≤ room t) (ok_same p.1) (value-short s.got t l.got l.first)

  table-short : (f : Function) (x : List ℕ) (arg_sort sort body : Tree) (t : Table) → function_table T f x arg_sort sort body ≡ Ok t → table_size t ≤ room body
  table-short f x arg_sort sort body t e =
      let a = went _ _ t e in
      let r = went _ _ t a.next in
      let p = passed _ UnmatchedType _ t r.next in
      let q = passed _ UnmatchedType _ t p.1 in
      body-short x a.got r.got body t q.1

  -- a definition that a part gives: it is alone, its row is one of its table, and it is short
  pub record Given (t : Tree) (d : Definition) (ds : List Definition) : Type 0 where
    pub alone : ds ≡ []
    pub within : Within T d
    pub short : size d ≤ room t

  record Ruled {A : Type 0} (rows : List A) (rule : ℕ → A → Result Definition Refusal) (d : Definition) (ds : List Definition) : Type 0 where
    row : ℕ
    it : A
    there : at rows row ≡ Some it
    ruled : rule row it ≡ Ok d
    alone : ds ≡ []

  head-same : {A : Type 0} {a b : A} {as' bs : List A} → a ∷ as' ≡ b ∷ bs → a ≡ b
  head-same e = cc

  tail-same : {A : Type 0} {a b : A} {as' bs : List A} → a ∷ as' ≡ b ∷ bs → as' ≡ bs
  tail-same e = cc

  no_one : {A : Type 0} {a : A} {as' : List A} → [] ≡ a ∷ as' → ⊥
  no_one e = let z : ◌≡◌ {A = ℕ} 0 1 = cc in absurd (omega arith)

  on_row_lem : {A : Type 0} (rows : List A) (o : Option ℕ) (rule : ℕ → A → Result Definition Refusal) (d : Definition) (ds : List Definition) → on_row T rows o rule ≡ Ok (d ∷ ds) → Ruled rows rule d ds
  on_row_lem rows None rule d ds e = absurd (no_one (ok_same e))
  on_row_lem rows (Some j) rule d ds e =
      let a = went _ _ (d ∷ ds) e in
      let k = went _ _ (d ∷ ds) a.next in
      let s : k.got ∷ [] ≡ d ∷ ds = ok_same k.next in
      record {
        row = j;
        it = a.got;
        there = was-found UnexpectedModel (at rows j) a.got a.first;
        ruled = k.first ∙ ap Ok (head-same s);
        alone = sym (tail-same s);
      }

  -- what a variable's rule gives
  variable-given : (t : Tree) (rule : Variable → Result Value Refusal) → ((v : Variable) (x : Value) → rule v ≡ Ok x → value_size x ≤ room t) →
      (o : Option ℕ) (d : Definition) (ds : List Definition) → on_row T T.variables o (λ i v. rule v >>= λ x. Ok (is_variable i x)) ≡ Ok (d ∷ ds) → Given t d ds
  variable-given t rule short o d ds e =
      let r = on_row_lem T.variables o _ d ds e in
      let w = went _ _ d r.ruled in
      subst (λ (y : Definition). Given t y ds) (ok_same w.next)
      (record { alone = r.alone; within = at-within T.variables r.row r.it r.there; short = short r.it w.got w.first })

  command-given : (t : Tree) (c : Command) → CommandView t c → (d : Definition) (ds : List Definition) → read_command T c ≡ Ok (d ∷ ds) → Given t d ds
  command-given _ _ (c_variable {name = name} {sort = sort} {t = t}) d ds e =
      variable-given (define name nil sort t) (λ v. variable_value T v sort t) (λ v x h. omega (arith, variable-short v sort t x h, define-room name nil sort t)) (variable_row T name) d ds e
  command-given _ _ (c_function {name = name} {x = x} {arg_sort = arg_sort} {sort = sort} {body = body}) d ds e =
      let r = on_row_lem T.functions (function_row T name) _ d ds e in
      let w = went _ _ d r.ruled in
      let us = cons (app (cons (symbol x) (cons arg_sort nil))) nil in
      subst (λ (y : Definition). Given (define name us sort body) y ds) (ok_same w.next)
      (record {
        alone = r.alone;
        within = at-within T.functions r.row r.it r.there;
        short = omega (arith, table-short r.it x arg_sort sort body w.got w.first, define-room name us sort body);
      })
  command-given _ _ c_misshapen d ds e = refuses e

  pair-given : (t : Tree) (p : Option Pair) → PairView t p → (d : Definition) (ds : List Definition) → read_pair T p ≡ Ok (d ∷ ds) → Given t d ds
  pair-given _ _ (p_pair {name = name} {t = t}) d ds e =
      variable-given (app (cons (symbol name) (cons t nil))) (λ v. value_as T v.sort t)
      (λ v x h. omega (arith, value-short v.sort t x h, rooms-cons 131300 (symbol name) (cons t nil), rooms-cons 131300 t nil)) (variable_row T name) d ds e
  pair-given _ _ p_none d ds e = refuses e

  pub tree-given : (form : Form) (t : Tree) (d : Definition) (ds : List Definition) → read_part T form t ≡ Ok (d ∷ ds) → Given t d ds
  tree-given Form.Model t d ds e = command-given t (command t) (command-view t) d ds e
  tree-given Form.Values t d ds e = pair-given t (pair t) (pair-view t) d ds e
