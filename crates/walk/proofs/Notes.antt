-- One command, or one pair: what is noted of it, by the row of its name.
-- Assumes nothing.
use Rattle.std.proofs.Common.{None, Option, Some, Result, Err, Ok}
use mathlib.Core.Path.{◌≡◌, refl, sym, ap, ap₂, ◌∙◌, subst}
use mathlib.Core.List.{List, [], ◌∷◌}
use Prim.Native.Nat.{ℕ, ◌+◌, ◌<◌}
use native.Mathlib.Omega.{arith}
use Rattle.ground.specs.Bytes.{bytes}
use Rattle.ground.specs.Lists.{at}
use Rattle.refusals.specs.declared.Refusal.{Refusal}
use Rattle.refusals.specs.declared.Refusal.TheVariants.{UnexpectedModel}
use Rattle.arena.specs.Node.{after_at}
use Rattle.arena.specs.Stands.{StandAll}
use Rattle.arena.specs.Text.{text_at}
use Rattle.arena.specs.Tree.{Tree, symbol, app, nil, cons, nodes}
use Rattle.arena.proofs.Layouts.{stands_lays, stands_after}
use Rattle.tables.specs.Find.{found as row_found, variable_row, function_row}
use Rattle.tables.specs.Layout.{Lent, count, word, tables_of, variable_at, function_at}
use Rattle.tables.specs.Sort.{Variable}
use Rattle.tables.specs.Lookup.{FindsVariable, FindsFunction}
use Rattle.tables.proofs.Rows.{variable-row, function-row, variable-within, function-within}
use Rattle.shapes.specs.Shows.{Standing, Reads}
use Rattle.sorts.specs.Result.{◌>>=◌, found}
use Rattle.values.specs.Value.{Value}
use Rattle.literals.specs.Plan.{Given}
use Rattle.commands.specs.declared.command.CommandFound.{CommandFound}
use Rattle.commands.specs.declared.form.Form.{Form}
use Rattle.commands.specs.Pair.{Pair, pair_of, pair}
use Rattle.commands.specs.PairShows.{PairShows, PairAt, SecondAt}
use Rattle.commands.specs.Command.{Command, variable, function, misshapen, command}
use Rattle.commands.specs.CommandShows.{CommandShows, CommandAt, LastAt, fifth}
use Rattle.commands.proofs.Shapes.{PairView, p_pair, p_none, pair-view, define, CommandView, c_variable, c_function, c_misshapen, command-view}
use Rattle.model.specs.Model.{Table, Definition, is_variable, is_function, value_as, variable_value, function_table, on_row, read_command, read_pair}
use Rattle.definitions.specs.Measure.{value_size, table_size, measured, ValueAt, VariableAt, FunctionAt}
use Rattle.walk.specs.declared.command.Noted.{Noted}
use Rattle.walk.specs.Placed.{last_of, second_of, value_at}
use Rattle.walk.specs.Noted.{noted, noted_as, NotesVariable, NotesFunction, NotesPair, NotesAt}
use Rattle.commands.specs.declared.pair.NamedPair.{NamedPair}

found-row : (o : Option ℕ) (row : ℕ) → Some row ≡ row_found o → o ≡ Some row
found-row None row e = let z : ◌≡◌ {A = ℕ} 0 1 = cc in absurd (omega arith)
found-row (Some i) row e = let z : row ≡ i = cc in ap Some (sym z)

found_none : (o : Option ℕ) → None ≡ row_found o → o ≡ None
found_none None e = refl
found_none (Some i) e = let z : ◌≡◌ {A = ℕ} 0 1 = cc in absurd (omega arith)

-- what is noted of a definition that was read
module _ (l : Lent) (row value : ℕ) where
  noted-value : (m : Result Value Refusal) → noted_as (measured value_size m) row value ≡ noted l ((m >>= λ x. Ok (is_variable row x)) >>= λ d. Ok (d ∷ [])) value
  unfolding ◌>>=◌
  noted-value (Ok v) = refl
  noted-value (Err r) = refl

  noted-table : (m : Result Table Refusal) → noted_as (measured table_size m) (count l.variables + row) value ≡ noted l ((m >>= λ t. Ok (is_function row t)) >>= λ d. Ok (d ∷ [])) value
  unfolding ◌>>=◌
  noted-table (Ok t) = refl
  noted-table (Err r) = refl

-- a row that is there
on_some : {A : Type 0} (l : Lent) (rows : List A) (i : ℕ) (a : A) (rule : ℕ → A → Result Definition Refusal) → at rows i ≡ Some a →
    on_row (tables_of l) rows (Some i) rule ≡ (rule i a >>= λ d. Ok (d ∷ []))
unfolding ◌>>=◌
on_some l rows i a rule e = ap (λ (o : Option _). found UnexpectedModel o >>= λ b. rule i b >>= λ d. Ok (d ∷ [])) e

given-itself : (l : Lent) → Given l.sorts l.fields l.members l.names l
given-itself l = record { sorts-are = refl; fields-are = refl; members-are = refl; names-are = refl }

-- a name in the variable table, by the rule of its row
module _ (l : Lent) (ws ts : List ℕ) (offset long : ℕ) (q : Option ℕ) (f : FindsVariable l.variables l.names (text_at ts offset long) q) where
  module _ (name : List ℕ) (r : Reads name ts offset long) (value : ℕ) (rule : Variable → Result Value Refusal) where
    asked : q ≡ row_found (variable_row (tables_of l) name)
    asked = f l refl refl ∙ ap (λ (s : List ℕ). row_found (variable_row (tables_of l) s)) r.bytes

    abbrev by_rule : Option ℕ → Result (List Definition) Refusal
    by_rule o = on_row (tables_of l) (tables_of l).variables o (λ i v. rule v >>= λ x. Ok (is_variable i x))

    unnamed : q ≡ None → (Ok None) ≡ noted l (by_rule (variable_row (tables_of l) name)) value
    unnamed e = sym (ap (λ (o : Option ℕ). noted l (by_rule o) value) (found_none (variable_row (tables_of l) name) (sym e ∙ asked)))

    ruled : (row : ℕ) → q ≡ Some row → (m : Result ℕ Refusal) → m ≡ measured value_size (rule (variable_at l row)) → (z : Result (Option Noted) Refusal) → z ≡ noted_as m row value →
        z ≡ noted l (by_rule (variable_row (tables_of l) name)) value
    ruled row e m g z k =
        let p : variable_row (tables_of l) name ≡ Some row = found-row (variable_row (tables_of l) name) row (sym e ∙ asked) in
        let i = variable-row l row (variable-within l row name p) in
        k ∙ ap (λ (y : Result ℕ Refusal). noted_as y row value) g ∙ noted-value l row value (rule (variable_at l row))
        ∙ sym (ap (λ (y : Result (List Definition) Refusal). noted l y value)
        (ap by_rule p ∙ on_some l (tables_of l).variables row (variable_at l row) (λ i v. rule v >>= λ x. Ok (is_variable i x)) i))

  module _ (sort value : ℕ) where
    pub variable-skipped : q ≡ None → NotesVariable l ws ts offset long sort value (Ok None)
    variable-skipped e name s t r a b = unnamed name r value (λ v. variable_value (tables_of l) v s t) e

    pub variable-defined : (row : ℕ) → q ≡ Some row → (declared : ℕ) → declared ≡ word l.variables row 2 →
        (m : Result ℕ Refusal) → VariableAt l.sorts l.fields l.members l.names ws ts declared sort value m →
        (z : Result (Option Noted) Refusal) → z ≡ noted_as m row value → NotesVariable l ws ts offset long sort value z
    variable-defined row e declared w m h z k name s t r a b =
        ruled name r value (λ v. variable_value (tables_of l) v s t) row e m
        (subst (λ (d : ℕ). m ≡ measured value_size (variable_value (tables_of l) (record { name = (variable_at l row).name; sort = d }) s t)) w (h l (given-itself l) (variable_at l row).name s t a b)) z k

  module _ (value : ℕ) where
    pub pair-skipped : q ≡ None → NotesPair l ws ts offset long value (Ok None)
    pair-skipped e name t r b = unnamed name r value (λ v. value_as (tables_of l) v.sort t) e

    pub pair-defined : (row : ℕ) → q ≡ Some row → (declared : ℕ) → declared ≡ word l.variables row 2 →
        (m : Result ℕ Refusal) → ValueAt l.sorts l.fields l.members l.names ws ts declared value m →
        (z : Result (Option Noted) Refusal) → z ≡ noted_as m row value → NotesPair l ws ts offset long value z
    pair-defined row e declared w m h z k name t r b =
        ruled name r value (λ v. value_as (tables_of l) v.sort t) row e m (subst (λ (d : ℕ). m ≡ measured value_size (value_as (tables_of l) d t)) w (h l (given-itself l) t b)) z k

module _ (l : Lent) (ws ts : List ℕ) (offset long : ℕ) (asked : List ℕ) (n : asked ≡ text_at ts offset long) (q : Option ℕ) where
  module _ (f : FindsFunction l.functions l.names asked q) where
    pub function-inside : (row : ℕ) → q ≡ Some row → row < count l.functions
    function-inside row e = function-within l row asked (found-row (function_row (tables_of l) asked) row (sym e ∙ f l refl refl))

    function-asked : (name : List ℕ) → Reads name ts offset long → q ≡ row_found (function_row (tables_of l) name)
    function-asked name r = f l refl refl ∙ ap (λ (s : List ℕ). row_found (function_row (tables_of l) s)) (n ∙ r.bytes)

    module _ (arg_offset arg_long arg_sort sort body : ℕ) where
      pub function-skipped : q ≡ None → NotesFunction l ws ts offset long arg_offset arg_long arg_sort sort body (Ok None)
      function-skipped e name x p s t r _ a b c =
          sym (ap (λ (o : Option ℕ). noted l (on_row (tables_of l) (tables_of l).functions o (λ i v. function_table (tables_of l) v x p s t >>= λ y. Ok (is_function i y))) body)
          (found_none (function_row (tables_of l) name) (sym e ∙ function-asked name r)))

      pub function-defined : (row : ℕ) → q ≡ Some row → (argument result : ℕ) → argument ≡ word l.functions row 2 → result ≡ word l.functions row 3 →
          (m : Result ℕ Refusal) → FunctionAt l.sorts l.fields l.members l.names ws ts argument result arg_offset arg_long arg_sort sort body m →
          (first : ℕ) → first ≡ count l.variables → (z : Result (Option Noted) Refusal) → z ≡ noted_as m (first + row) body → NotesFunction l ws ts offset long arg_offset arg_long arg_sort sort body z
      function-defined row e argument result w v m h first f z k name x p s t r u a b c =
          let o : function_row (tables_of l) name ≡ Some row = found-row (function_row (tables_of l) name) row (sym e ∙ function-asked name r) in
          let i = function-row l row (function-within l row name o) in
          let g0 = h l (given-itself l) (function_at l row).name x p s t u a b c in
          let g1 = subst (λ (d : ℕ). m ≡ measured table_size (function_table (tables_of l) (record { name = (function_at l row).name; argument = d; result = result }) x p s t)) w g0 in
          let g = subst (λ (d : ℕ). m ≡ measured table_size (function_table (tables_of l) (record { name = (function_at l row).name; argument = word l.functions row 2; result = d }) x p s t)) v g1 in
          k ∙ ap₂ (λ (j : ℕ) (y : Result ℕ Refusal). noted_as y (j + row) body) f g ∙ noted-table l row body (function_table (tables_of l) (function_at l row) x p s t)
          ∙ sym (ap (λ (y : Result (List Definition) Refusal). noted l y body)
          (ap (λ (o : Option ℕ). on_row (tables_of l) (tables_of l).functions o (λ i v. function_table (tables_of l) v x p s t >>= λ y. Ok (is_function i y))) o
          ∙ on_some l (tables_of l).functions row (function_at l row) (λ i v. function_table (tables_of l) v x p s t >>= λ y. Ok (is_function i y)) i))

-- a command's last part ends where the command does
fifth-ends : (ws ts : List ℕ) (a b c d e : Tree) (i j x y : ℕ) → StandAll (cons a (cons b (cons c (cons d (cons e nil))))) ws ts i j x y → fifth ws i + nodes e ≡ j
fifth-ends ws ts a b c d e i j x y s =
    let s2 = s.others in
    let s3 = s2.others in
    let s4 = s3.others in
    let s5 = s4.others in
    let p = stands_after ws ts a i s.mid x s.off s.first in
    let q = stands_after ws ts b s.mid s2.mid s.off s2.off s2.first in
    let r = stands_after ws ts c s2.mid s3.mid s2.off s3.off s3.first in
    let o = stands_after ws ts d s3.mid s4.mid s3.off s4.off s4.first in
    let f : s4.mid ≡ fifth ws i = o ∙ ap (after_at ws) (r ∙ ap (after_at ws) (q ∙ ap (after_at ws) p)) in
    let n = (stands_lays ws ts e s4.mid s5.mid s4.off s5.off s5.first).next in
    let z = s5.others.next in
    omega (arith, f, n, z)

last-ends : (ws ts : List ℕ) (i : ℕ) (t : Tree) (c : Command) → CommandView t c → (c ≡ misshapen → ⊥) → Standing t ws ts i → fifth ws (i + 1) + last_of c ≡ i + nodes t
last-ends ws ts i _ _ (c_variable {name = name} {sort = sort} {t = t}) m s =
    let e = fifth-ends ws ts (symbol (bytes "define-fun")) (symbol name) (app nil) sort t (i + 1) s.next s.from s.rest s.there.children in
    e ∙ (stands_lays ws ts (define name nil sort t) i s.next s.from s.rest s.there).next
last-ends ws ts i _ _ (c_function {name = name} {x = x} {arg_sort = arg_sort} {sort = sort} {body = body}) m s =
    let us = cons (app (cons (symbol x) (cons arg_sort nil))) nil in
    let e = fifth-ends ws ts (symbol (bytes "define-fun")) (symbol name) (app us) sort body (i + 1) s.next s.from s.rest s.there.children in
    e ∙ (stands_lays ws ts (define name us sort body) i s.next s.from s.rest s.there).next
last-ends ws ts i _ _ c_misshapen m s = absurd (m refl)

-- the command at a node, by its shape
module _ (l : Lent) (ws ts : List ℕ) (i : ℕ) (q : Result CommandFound Refusal) (h : CommandAt ws ts i q) where
  shown : (c : Result CommandFound Refusal) → q ≡ c → (t : Tree) → Standing t ws ts i → CommandShows ws ts c (command t)
  shown c e t s = subst (λ (y : Result CommandFound Refusal). CommandShows ws ts y (command t)) e (h t s)

  as_read : (t : Tree) (c : Command) → command t ≡ c → (value : ℕ) → noted l (read_command (tables_of l) c) value ≡ noted l (read_command (tables_of l) (command t)) value
  as_read t c e value = sym (ap (λ (y : Command). noted l (read_command (tables_of l) y) value) e)

  -- the node of the last part, and where the command says that it stands
  as_placed : (t : Tree) (c : Command) → command t ≡ c → (c ≡ misshapen → ⊥) → Standing t ws ts i → (value : ℕ) → value ≡ fifth ws (i + 1) → value ≡ value_at Form.Model t i
  as_placed t c e m s value f =
      let k = last-ends ws ts i t c (subst (CommandView t) e (command-view t)) m s in
      let z : last_of (command t) ≡ last_of c = ap last_of e in
      omega (arith, k, z, f)

  abbrev Told : Result CommandFound Refusal → Type 0
  Told c = LastAt (fifth ws (i + 1)) c

  pub command-variable : LastAt (fifth ws (i + 1)) q → (long offset sort value : ℕ) → q ≡ (Ok (CommandFound.Variable long offset sort value)) → (z : Result (Option Noted) Refusal) → NotesVariable l ws ts offset long sort value z → NotesAt Form.Model l ws ts i z
  command-variable f long offset sort value e z n t s =
      let w = shown (Ok (CommandFound.Variable long offset sort value)) e t s in
      let c = variable w.0 w.1 w.2 in
      n w.0 w.1 w.2 w.4 w.5 w.6 ∙ as_read t c w.3 value
      ∙ ap (noted l (read_command (tables_of l) (command t))) (as_placed t c w.3 (λ m. let y : ◌≡◌ {A = ℕ} 0 1 = cc in omega arith) s value (subst Told e f))

  pub command-function : LastAt (fifth ws (i + 1)) q → (long offset arg_long arg_offset arg_sort sort body : ℕ) → q ≡ (Ok (CommandFound.Function long offset arg_long arg_offset arg_sort sort body)) →
      (z : Result (Option Noted) Refusal) → NotesFunction l ws ts offset long arg_offset arg_long arg_sort sort body z → NotesAt Form.Model l ws ts i z
  command-function f long offset arg_long arg_offset arg_sort sort body e z n t s =
      let w = shown (Ok (CommandFound.Function long offset arg_long arg_offset arg_sort sort body)) e t s in
      let c = function w.0 w.1 w.2 w.3 w.4 in
      n w.0 w.1 w.2 w.3 w.4 w.6 w.7 w.8 w.9 w.10 ∙ as_read t c w.5 body
      ∙ ap (noted l (read_command (tables_of l) (command t))) (as_placed t c w.5 (λ m. let y : ◌≡◌ {A = ℕ} 0 1 = cc in omega arith) s body (subst Told e f))

  pub command-refused : (why : Refusal) → q ≡ Err why → NotesAt Form.Model l ws ts i (Err why)
  command-refused why e t s =
      let w = shown (Err why) e t s in
      ap Err w.1 ∙ as_read t misshapen w.0 (value_at Form.Model t i)

-- a pair's second ends where the pair does
second-ends : (ws ts : List ℕ) (a t : Tree) (i j x y : ℕ) → StandAll (cons a (cons t nil)) ws ts i j x y → after_at ws i + nodes t ≡ j
second-ends ws ts a t i j x y s =
    let s2 = s.others in
    let f = stands_after ws ts a i s.mid x s.off s.first in
    let n = (stands_lays ws ts t s.mid s2.mid s.off s2.off s2.first).next in
    let z = s2.others.next in
    omega (arith, f, n, z)

pair_ends : (ws ts : List ℕ) (i : ℕ) (t : Tree) (p : Option Pair) → PairView t p → (p ≡ None → ⊥) → Standing t ws ts i → after_at ws (i + 1) + second_of p ≡ i + nodes t
pair_ends ws ts i _ _ (p_pair {name = name} {t = t}) m s =
    second-ends ws ts (symbol name) t (i + 1) s.next s.from s.rest s.there.children
    ∙ (stands_lays ws ts (app (cons (symbol name) (cons t nil))) i s.next s.from s.rest s.there).next
pair_ends ws ts i _ _ p_none m s = absurd (m refl)

-- the pair at a node, by its shape
module _ (l : Lent) (ws ts : List ℕ) (i : ℕ) (q : Option NamedPair) (h : PairAt ws i q) where
  abbrev pair_read : Option Pair → ℕ → Result (Option Noted) Refusal
  pair_read p value = noted l (read_pair (tables_of l) p) value

  pub pair_found : SecondAt (after_at ws (i + 1)) q → (long offset value : ℕ) → q ≡ Some (record { size = long; offset = offset; second = value }) → (z : Result (Option Noted) Refusal) → NotesPair l ws ts offset long value z → NotesAt Form.Values l ws ts i z
  pair_found f long offset value e z n t s =
      let w = subst (λ (y : Option NamedPair). PairShows ws ts y (pair t)) e (h ts t s) in
      let g : value ≡ after_at ws (i + 1) = subst (SecondAt (after_at ws (i + 1))) e f in
      let k = pair_ends ws ts i t (Some (pair_of w.0 w.1)) (subst (PairView t) w.2 (pair-view t)) (λ m. let y : ◌≡◌ {A = ℕ} 0 1 = cc in omega arith) s in
      let c : second_of (pair t) ≡ nodes w.1 = ap second_of w.2 in
      let v : value ≡ value_at Form.Values t i = omega (arith, k, c, g) in
      n w.0 w.1 w.3 w.4 ∙ ap (λ (p : Option Pair). pair_read p value) (sym w.2) ∙ ap (pair_read (pair t)) v

  pub pair-none : q ≡ None → NotesAt Form.Values l ws ts i (Err UnexpectedModel)
  pair-none e t s = ap (λ (p : Option Pair). pair_read p (value_at Form.Values t i)) (sym (subst (λ (y : Option NamedPair). PairShows ws ts y (pair t)) e (h ts t s)))

-- by the form
pub part_as : (form like : Form) (l : Lent) (ws ts : List ℕ) (i : ℕ) (r : Result (Option Noted) Refusal) → form ≡ like → NotesAt like l ws ts i r → NotesAt form l ws ts i r
part_as form like l ws ts i r e h = subst (λ (f : Form). NotesAt f l ws ts i r) (sym e) h
