-- What a command, or a pair, that defines a variable or a function was read as, and that the definition stands on it.
-- Assumes nothing.
use Rattle.std.proofs.Common.{None, Option, Some, Ok, Result, Err}
use mathlib.Core.Path.{◌≡◌, refl, sym, ap, ◌∙◌, subst}
use mathlib.Core.Bool.{true, false}
use mathlib.Core.List.{List, [], ◌∷◌, map}
use Prim.Native.Nat.{ℕ, ◌+◌, ◌-◌, ◌≤◌, ◌<◌}
use native.Mathlib.Omega.{arith}
use lib.ListN.{length, length-append}
use Rattle.ground.specs.Bytes.{bytes}
use Rattle.refusals.specs.declared.Refusal.{Refusal}
use Rattle.refusals.specs.declared.Refusal.TheVariants.{UnmatchedType}
use Rattle.order.specs.Every.{Every, none as no_more, also}
use Rattle.order.proofs.Everies.{every_append}
use Rattle.arena.specs.Stands.{TreeStands, StandAll}
use Rattle.arena.specs.Tree.{Tree, Trees, symbol, app, nil, cons, nodes, nodes_of, text as tree_text, texts as tree_texts, most_nodes, most_text}
use Rattle.arena.proofs.Layouts.{stands_lays}
use Rattle.tables.specs.Find.{variable_row, function_row}
use Rattle.tables.specs.Layout.{Lent, tables_of}
use Rattle.tables.specs.Rules.{lawful}
use Rattle.tables.specs.Sort.{Variable, Function, Tables}
use Rattle.shapes.specs.Shows.{Standing, StandingAll}
use Rattle.sorts.specs.Result.{◌>>=◌}
use Rattle.sorts.specs.Sort.{levels}
use Rattle.values.specs.Value.{Value}
use Rattle.means.specs.Literal.{Lit, read}
use Rattle.well_sorted.specs.Octets.{Octets, OctetsAll}
use Rattle.well_sorted.proofs.Fits.{read_fits}
use Rattle.well_sorted.proofs.Results.{refuses, ok_same, went, passed}
use Rattle.commands.specs.declared.command.CommandFound.{CommandFound}
use Rattle.commands.specs.declared.form.Form.{Form}
use Rattle.commands.specs.Pair.{Pair, pair}
use Rattle.commands.specs.Command.{Command, variable, function, misshapen, command}
use Rattle.commands.specs.CommandShows.{CommandShows, CommandAt}
use Rattle.commands.proofs.Shapes.{PairView, p_pair, pair-view, define, CommandView, c_variable, c_function, command-view}
use Rattle.model.specs.Model.{Table, Definition, is_variable, is_function, read_body, value_as, variable_value, function_table, on_row, read_command, read_pair, read_part}
use Rattle.demand.proofs.Tables.{body-fits}
use Rattle.walk.specs.Placed.{Placed, last_of, second_of, value_at, placed_at, placed}
use Rattle.walk.proofs.Sizes.{tree-given}
use Rattle.listing.specs.Grounds.{ValueStands, TableStands, Stands, Grounded}
use Rattle.listing.specs.Entries.{LaysBody, LaysFunction}
use Rattle.listing.specs.Stages.{Sure}

variable-octets : (t : Tree) (name : List ℕ) (sort value : Tree) → CommandView t (variable name sort value) → Octets t → Octets value
variable-octets _ name sort value c_variable o = o.1.1.1.1.0

function-octets : (t : Tree) (name x : List ℕ) (arg_sort sort body : Tree) → CommandView t (function name x arg_sort sort body) → Octets t → Octets body
function-octets _ name x arg_sort sort body c_function o = o.1.1.1.1.0

second-octets : (t : Tree) (p : Pair) → PairView t (Some p) → Octets t → Octets p.second
second-octets _ _ p_pair o = o.1.0

-- the row that a command, or a pair, was taken for
record Taken {A : Type 0} (rule : ℕ → A → Result Definition Refusal) (d : Definition) : Type 0 where
  row : ℕ
  of : A
  rules : rule row of ≡ Ok d

one_definition : {d e : Definition} → d ∷ [] ≡ e ∷ [] → d ≡ e
one_definition e = cc

no_definition : {R : Type 0} {d : Definition} → [] ≡ d ∷ [] → R
no_definition e = let z : ◌≡◌ {A = ℕ} 0 1 = cc in absurd (omega arith)

taken : (T : Tables) {A : Type 0} (rows : List A) (o : Option ℕ) (rule : ℕ → A → Result Definition Refusal) (d : Definition) → on_row T rows o rule ≡ Ok (d ∷ []) → Taken rule d
taken T rows None rule d e = no_definition (ok_same e)
taken T rows (Some j) rule d e =
    let a = went _ _ (d ∷ []) e in
    let k = went _ _ (d ∷ []) a.next in
    record { row = j; of = a.got; rules = subst (λ (x : Definition). rule j a.got ≡ Ok x) (one_definition (ok_same k.next)) k.first }

same-value : {i j : ℕ} {v w : Value} → is_variable i v ≡ is_variable j w → v ≡ w
same-value e = cc

same-table : {i j : ℕ} {t u : Table} → is_function i t ≡ is_function j u → t ≡ u
same-table e = cc

not-both : {R : Type 0} {i j : ℕ} {v : Value} {t : Table} → is_variable i v ≡ is_function j t → R
not-both e = let z : ◌≡◌ {A = ℕ} 0 1 = cc in absurd (omega arith)

module _ (T : Tables) where
  -- the value of a variable's command
  record ValueRead (v : Value) (t : Tree) : Type 0 where
    expected : Option ℕ
    lit : Lit
    first : read T levels expected t ≡ Ok lit
    same : lit.value ≡ v

  value_as_lem : (row : ℕ) (t : Tree) (v : Value) → value_as T row t ≡ Ok v → ValueRead v t
  value_as_lem row t v e =
      let l = went _ _ v e in
      let p = passed _ UnmatchedType _ v l.next in
      record { expected = Some row; lit = l.got; first = l.first; same = ok_same p.1 }

  variable_as : (sort t : Tree) (a : Variable) (v : Value) → variable_value T a sort t ≡ Ok v → ValueRead v t
  variable_as sort t a v e =
      let s = went _ _ v e in
      let l = went _ _ v s.next in
      let p = passed _ UnmatchedType _ v l.next in
      subst (λ (x : Value). ValueRead x t) (ok_same p.1) (value_as_lem s.got t l.got l.first)

  -- by the rule of a variable's row: a value, and no table
  module _ (o : Option ℕ) (rule : Variable → Result Value Refusal) where
    abbrev by_rule : Result (List Definition) Refusal
    by_rule = on_row T T.variables o (λ j a. rule a >>= λ x. Ok (is_variable j x))

    row_read : (t : Tree) → ((a : Variable) (v : Value) → rule a ≡ Ok v → ValueRead v t) → (i : ℕ) (v : Value) → by_rule ≡ Ok (is_variable i v ∷ []) → ValueRead v t
    row_read t f i v e =
        let k = taken T T.variables o (λ j a. rule a >>= λ x. Ok (is_variable j x)) (is_variable i v) e in
        let w = went _ _ (is_variable i v) k.rules in
        f k.of v (subst (λ (x : Value). rule k.of ≡ Ok x) (same-value (ok_same w.next)) w.first)

    row-no-function : {R : Type 0} (i : ℕ) (u : Table) → by_rule ≡ Ok (is_function i u ∷ []) → R
    row-no-function i u e =
        let k = taken T T.variables o (λ j a. rule a >>= λ x. Ok (is_variable j x)) (is_function i u) e in
        let w = went _ _ (is_function i u) k.rules in
        not-both (ok_same w.next)

  -- the table of a function's
  record TableRead (x : List ℕ) (t : Table) (body : Tree) : Type 0 where
    argument : ℕ
    result : ℕ
    reads : read_body T x argument result body ≡ Ok t

  table-read : (f : Function) (x : List ℕ) (arg_sort sort body : Tree) (t : Table) → function_table T f x arg_sort sort body ≡ Ok t → TableRead x t body
  table-read f x arg_sort sort body t e =
      let a = went _ _ t e in
      let r = went _ _ t a.next in
      let p = passed _ UnmatchedType _ t r.next in
      let q = passed _ UnmatchedType _ t p.1 in
      record { argument = a.got; result = r.got; reads = q.1 }

  function-read : (name x : List ℕ) (arg_sort sort body : Tree) (i : ℕ) (t : Table) → read_command T (function name x arg_sort sort body) ≡ Ok (is_function i t ∷ []) → TableRead x t body
  function-read name x arg_sort sort body i t e =
      let k = taken T T.functions (function_row T name) (λ j f. function_table T f x arg_sort sort body >>= λ u. Ok (is_function j u)) (is_function i t) e in
      let w = went _ _ (is_function i t) k.rules in
      table-read k.of x arg_sort sort body t (subst (λ (u : Table). function_table T k.of x arg_sort sort body ≡ Ok u) (same-table (ok_same w.next)) w.first)

  -- neither is the other's
  no-variable : {R : Type 0} (name x : List ℕ) (arg_sort sort body : Tree) (i : ℕ) (v : Value) → read_command T (function name x arg_sort sort body) ≡ Ok (is_variable i v ∷ []) → R
  no-variable name x arg_sort sort body i v e =
      let k = taken T T.functions (function_row T name) (λ j f. function_table T f x arg_sort sort body >>= λ u. Ok (is_function j u)) (is_variable i v) e in
      let w = went _ _ (is_variable i v) k.rules in
      not-both (sym (ok_same w.next))

  no-function : {R : Type 0} (name : List ℕ) (sort t : Tree) (i : ℕ) (u : Table) → read_command T (variable name sort t) ≡ Ok (is_function i u ∷ []) → R
  no-function name sort t i u e = row-no-function (variable_row T name) (λ a. variable_value T a sort t) i u e

-- the last of five parts, which ends where they do
last-of : (ws ts : List ℕ) (a b c d e : Tree) (i j x y value : ℕ) → StandAll (cons a (cons b (cons c (cons d (cons e nil))))) ws ts i j x y → value + nodes e ≡ j → Standing e ws ts value
last-of ws ts a b c d e i j x y value s h =
    let s5 = s.others.others.others.others in
    let at = s.others.others.others.mid in
    let from = s.others.others.others.off in
    let n = (stands_lays ws ts e at s5.mid from s5.off s5.first).next in
    let z = s5.others.next in
    let m : at ≡ value = omega arith in
    record { next = s5.mid; from = from; rest = s5.off; there = subst (λ (k : ℕ). TreeStands e ws ts k s5.mid from s5.off) m s5.first }

-- the second of two
second-of-two : (ws ts : List ℕ) (a t : Tree) (i j x y value : ℕ) → StandAll (cons a (cons t nil)) ws ts i j x y → value + nodes t ≡ j → Standing t ws ts value
second-of-two ws ts a t i j x y value s h =
    let s2 = s.others in
    let n = (stands_lays ws ts t s.mid s2.mid s.off s2.off s2.first).next in
    let z = s2.others.next in
    let m : s.mid ≡ value = omega arith in
    record { next = s2.mid; from = s.off; rest = s2.off; there = subst (λ (k : ℕ). TreeStands t ws ts k s2.mid s.off s2.off) m s2.first }

module _ (l : Lent) (ws ts : List ℕ) (rules : lawful (tables_of l) ≡ true) where
  -- what a part that was read stands on
  module _ (t : Tree) (i : ℕ) (s : Standing t ws ts i) (o : Octets t) where
    value-stands : (name : List ℕ) (sort v : Tree) → CommandView t (variable name sort v) → Standing v ws ts (i + nodes t - nodes v)
    value-stands name sort v w = go t w s
      where
        go : (u : Tree) → CommandView u (variable name sort v) → Standing u ws ts i → Standing v ws ts (i + nodes u - nodes v)
        go _ c_variable z =
            let n = (stands_lays ws ts (define name nil sort v) i z.next z.from z.rest z.there).next in
            last-of ws ts (symbol (bytes "define-fun")) (symbol name) (app nil) sort v (i + 1) z.next z.from z.rest _ z.there.children (omega arith)

    second-stands : (p : Pair) → PairView t (Some p) → Standing p.second ws ts (i + nodes t - nodes p.second)
    second-stands p w = go t p w s
      where
        go : (u : Tree) (p : Pair) → PairView u (Some p) → Standing u ws ts i → Standing p.second ws ts (i + nodes u - nodes p.second)
        go _ _ (p_pair {name = name} {t = v}) z =
            let n = (stands_lays ws ts (app (cons (symbol name) (cons v nil))) i z.next z.from z.rest z.there).next in
            second-of-two ws ts (symbol name) v (i + 1) z.next z.from z.rest _ z.there.children (omega arith)

    value_on : (v : Tree) (x : Value) (node : ℕ) → ValueRead (tables_of l) x v → Octets v → Standing v ws ts node → ValueStands l ws ts x node
    value_on v x node k p there =
        record {
          tree = v;
          there = there;
          expected = k.expected;
          lit = k.lit;
          reads = k.first;
          same = k.same;
          fits = read_fits (tables_of l) false rules levels k.expected v k.lit p k.first;
        }

    command-on : (c : Command) → command t ≡ c → (d : Definition) → read_command (tables_of l) c ≡ Ok (d ∷ []) → Stands l ws ts d i (i + nodes t - last_of c)
    command-on (variable name sort v) e (is_variable row x) r =
        let w = subst (CommandView t) e (command-view t) in
        value_on v x _ (row_read (tables_of l) (variable_row (tables_of l) name) (λ a. variable_value (tables_of l) a sort v) v (variable_as (tables_of l) sort v) row x r)
        (variable-octets t name sort v w o) (value-stands name sort v w)
    command-on (variable name sort v) e (is_function row x) r = no-function (tables_of l) name sort v row x r
    command-on (function name x arg_sort sort body) e (is_variable row v) r = no-variable (tables_of l) name x arg_sort sort body row v r
    command-on (function name x arg_sort sort body) e (is_function row u) r =
        record { tree = t; there = s; octets = o; reads = subst (λ (c : Command). read_command (tables_of l) c ≡ Ok (is_function row u ∷ [])) (sym e) r }
    command-on misshapen e d r = refuses r

    pair-on : (q : Option Pair) → pair t ≡ q → (d : Definition) → read_pair (tables_of l) q ≡ Ok (d ∷ []) → Stands l ws ts d i (i + nodes t - second_of q)
    pair-on None e d r = refuses r
    pair-on (Some p) e (is_variable row x) r =
        let w = subst (PairView t) e (pair-view t) in
        let T = tables_of l in
        value_on p.second x _ (row_read T (variable_row T p.name) (λ a. value_as T a.sort p.second) p.second (λ a v h. value_as_lem T a.sort p.second v h) row x r)
        (second-octets t p w o) (second-stands p w)
    pair-on (Some p) e (is_function row u) r =
        row-no-function (tables_of l) (variable_row (tables_of l) p.name) (λ a. value_as (tables_of l) a.sort p.second) row u r

    part-on : (form : Form) (d : Definition) → read_part (tables_of l) form t ≡ Ok (d ∷ []) → Stands l ws ts d i (value_at form t i)
    part-on Form.Model d r = command-on (command t) refl d r
    part-on Form.Values d r = pair-on (pair t) refl d r

    grounded-part : (form : Form) → 0 < i → nodes t ≤ most_nodes → length (tree_text t) ≤ most_text → (ds : List Definition) → read_part (tables_of l) form t ≡ Ok ds →
        Every (Grounded l ws ts) (map (placed_at i (value_at form t i)) ds)
    grounded-part form p few short [] e = no_more
    grounded-part form p few short (d ∷ ds) e =
        let g = tree-given (tables_of l) rules form t d ds e in
        let r : read_part (tables_of l) form t ≡ Ok (d ∷ []) = e ∙ ap (λ (es : List Definition). Ok (d ∷ es)) g.alone in
        let here : Grounded l ws ts (placed_at i (value_at form t i) d) = record { no_root = p; within = g.within; small = omega (arith, g.short); stands = part-on form d r } in
        also here
        (subst (λ (es : List Definition). Every (Grounded l ws ts) (map (placed_at i (value_at form t i)) es)) (sym g.alone) no_more)

  -- the parts, one behind the other
  grounded-stood : (form : Form) (us : Trees) (i j x y : ℕ) → StandAll us ws ts i j x y → 0 < i → OctetsAll us → nodes_of us ≤ most_nodes → length (tree_texts us) ≤ most_text →
      (ps : List Placed) → placed (tables_of l) form i us ≡ Ok ps → Every (Grounded l ws ts) ps
  unfolding placed
  grounded-stood form nil i j x y s p o few short ps e = subst (Every (Grounded l ws ts)) (ok_same e) no_more
  grounded-stood form (cons t us) i j x y s p o few short ps e =
      let a = went (read_part (tables_of l) form t) _ ps e in
      let b = went (placed (tables_of l) form (i + nodes t) us) _ ps a.next in
      let k = length-append (tree_text t) (tree_texts us) in
      let n = (stands_lays ws ts t i s.mid x s.off s.first).next in
      subst (Every (Grounded l ws ts)) (ok_same b.next)
      (every_append (Grounded l ws ts) (map (placed_at i (value_at form t i)) a.got) b.got
      (grounded-part t i (record { next = s.mid; from = x; rest = s.off; there = s.first }) o.0 form p (omega arith) (omega arith) a.got a.first)
      (grounded-stood form us (i + nodes t) j s.off y (subst (λ (m : ℕ). StandAll us ws ts m j s.off y) n s.others) (omega arith) o.1 (omega arith) (omega arith) b.got b.first))

pub parts-grounded : (form : Form) (l : Lent) (ws ts : List ℕ) (us : Trees) (many : ℕ) → StandingAll us ws ts 1 many → Sure l us → (ps : List Placed) → placed (tables_of l) form 1 us ≡ Ok ps → Every (Grounded l ws ts) ps
parts-grounded form l ws ts us many s sure ps e =
    grounded-stood l ws ts sure.rules form us 1 s.next s.from s.rest s.there (omega arith) sure.octets sure.few sure.short ps e

-- a function's lines, by the command at its node
module _ (l : Lent) (ws ts : List ℕ) (row node : ℕ) (found : Result CommandFound Refusal) (shows : CommandAt ws ts node found) (a b : List ℕ) (place r : ℕ) where
  shown : {t : Table} (p : TableStands l ws ts row t node) (f : Result CommandFound Refusal) → found ≡ f → CommandShows ws ts f (command p.tree)
  shown p f e = subst (λ (x : Result CommandFound Refusal). CommandShows ws ts x (command p.tree)) e (shows p.tree p.there)

  reads_as : {t : Table} (p : TableStands l ws ts row t node) (c : Command) → command p.tree ≡ c → read_command (tables_of l) c ≡ Ok (is_function row t ∷ [])
  reads_as {t} p c e = subst (λ (x : Command). read_command (tables_of l) x ≡ Ok (is_function row t ∷ [])) e p.reads

  pub by-body : (size offset arg_size arg_offset arg_sort sort body : ℕ) → found ≡ (Ok (CommandFound.Function size offset arg_size arg_offset arg_sort sort body)) →
      LaysBody l ws ts row arg_offset arg_size body a b place r → LaysFunction l ws ts row node a b place r
  by-body size offset arg_size arg_offset arg_sort sort body e f t rules p =
      let s = shown p (Ok (CommandFound.Function size offset arg_size arg_offset arg_sort sort body)) e in
      let c = function s.0 s.1 s.2 s.3 s.4 in
      let g : command p.tree ≡ c = s.5 in
      let k = function-read (tables_of l) s.0 s.1 s.2 s.3 s.4 row t (reads_as p c g) in
      let o = function-octets p.tree s.0 s.1 s.2 s.3 s.4 (subst (CommandView p.tree) g (command-view p.tree)) p.octets in
      f s.1 s.4 k.argument k.result t s.7 s.10 k.reads
      (body-fits (tables_of l) rules s.1 k.argument k.result s.4 t o k.reads)

  pub by-variable : (size offset sort value : ℕ) → found ≡ (Ok (CommandFound.Variable size offset sort value)) → LaysFunction l ws ts row node a b place r
  by-variable size offset sort value e t rules p =
      let s = shown p (Ok (CommandFound.Variable size offset sort value)) e in
      no-function (tables_of l) s.0 s.1 s.2 row t (reads_as p (variable s.0 s.1 s.2) s.3)

  pub by-refused : (why : Refusal) → found ≡ Err why → LaysFunction l ws ts row node a b place r
  by-refused why e t rules p = refuses (reads_as p misshapen (shown p (Err why) e).0)
