-- What a part of a reply defines, and the last definitions of many: values that are read from the last terms, and tables from the last bodies.
-- Assumes nothing.
use Rattle.std.proofs.Common.{None, Option, Some, Ok, Result}
use mathlib.Core.Path.{◌≡◌, refl, ap, ap₂, sym, ◌∙◌, subst}
use mathlib.Core.Bool.{true, cond}
use mathlib.Core.List.{List, [], ◌∷◌, ◌++◌}
use Prim.Native.Nat.{ℕ}
use lib.Dec.{eqb}
use borrow.Author.Tests.{eqb-true}
use Rattle.ground.specs.Lists.{at}
use Rattle.ground.proofs.Tests.{by_test}
use Rattle.refusals.specs.declared.Refusal.TheVariants.{UnexpectedModel, UnmatchedType}
use Rattle.arena.specs.Tree.{Tree, Trees, nil, cons}
use Rattle.tables.specs.Find.{variable_row, function_row}
use Rattle.tables.specs.Sort.{Variable, Function, Tables}
use Rattle.tables.proofs.Places.{some_one}
use Rattle.sorts.specs.Result.{◌>>=◌}
use Rattle.sorts.specs.Sort.{levels}
use Rattle.values.specs.Value.{Value}
use Rattle.means.specs.Literal.{Lit, read}
use Rattle.well_sorted.specs.Octets.{Octets, OctetsAll}
use Rattle.well_sorted.proofs.Results.{refuses, ok_same, went, passed, was-found}
use Rattle.commands.specs.declared.form.Form.{Form}
use Rattle.commands.specs.Pair.{Pair, pair}
use Rattle.commands.specs.Command.{Command, command}
use Rattle.commands.proofs.Shapes.{PairView, p_pair, p_none, pair-view, CommandView, c_variable, c_function, c_misshapen, command-view}
use Rattle.model.specs.Model.{Table, Definition, is_variable, is_function, read_body, value_as, variable_value, function_table, on_row, read_command, read_pair, read_part, read_parts, or_else, variable_in, function_in, last_variable, last_function}
use Rattle.model.proofs.Choices.{or_none, or_assoc}
use Rattle.demand.specs.Last.{Body, is_row, term_in, second_in, term_of, body_in, last_term_in, last_body_in}
use Rattle.refusals.specs.declared.Refusal.{Refusal}

-- a name that is in its table, or not
data OnRow {A : Type 0} (rows : List A) (rule : ℕ → A → Result Definition Refusal) : Option ℕ → List Definition → Type 0 where
  skipped : OnRow rows rule None []
  taken : {j : ℕ} (a : A) (d : Definition) → at rows j ≡ Some a → rule j a ≡ Ok d → OnRow rows rule (Some j) (d ∷ [])

on_row_lem : (T : Tables) {A : Type 0} (rows : List A) (o : Option ℕ) (rule : ℕ → A → Result Definition Refusal) (ds : List Definition) → on_row T rows o rule ≡ Ok ds → OnRow rows rule o ds
on_row_lem T rows None rule ds e = subst (OnRow rows rule None) (ok_same e) skipped
on_row_lem T rows (Some j) rule ds e =
    let a = went _ _ ds e in
    let d = went _ _ ds a.next in
    subst (OnRow rows rule (Some j)) (ok_same d.next) (taken a.got d.got (was-found UnexpectedModel (at rows j) a.got a.first) d.first)

-- the row of one number
one-row : {A : Type 0} (rows : List A) (i j : ℕ) (a b : A) → at rows i ≡ Some a → at rows j ≡ Some b → eqb i j ≡ true → b ≡ a
one-row rows i j a b p q h = some_one (sym q ∙ ap (λ (k : ℕ). at rows k) (sym (eqb-true i j h)) ∙ p)

-- last definitions
last-variable : (i : ℕ) (ds es : List Definition) → last_variable i (ds ++ es) ≡ or_else (last_variable i es) (last_variable i ds)
unfolding last_variable
last-variable i [] es = sym (or_none _)
last-variable i (d ∷ ds) es = ap (λ (o : Option Value). or_else o (variable_in i d)) (last-variable i ds es) ∙ or_assoc (last_variable i es) (last_variable i ds) (variable_in i d)

last-function : (i : ℕ) (ds es : List Definition) → last_function i (ds ++ es) ≡ or_else (last_function i es) (last_function i ds)
unfolding last_function
last-function i [] es = sym (or_none _)
last-function i (d ∷ ds) es = ap (λ (o : Option Table). or_else o (function_in i d)) (last-function i ds es) ∙ or_assoc (last_function i es) (last_function i ds) (function_in i d)

module _ (T : Tables) where
  -- a variable's value is that of its term
  module _ (i : ℕ) (x : Variable) (there : at T.variables i ≡ Some x) where
    pub data Reads : Option Value → Option Tree → Type 0 where
      no-term : Reads None None
      of-term : {t : Tree} (l : Lit) → Octets t → read T levels (Some x.sort) t ≡ Ok l → eqb l.row x.sort ≡ true → Reads (Some l.value) (Some t)

    reads_or : (a c : Option Value) (b d : Option Tree) → Reads a b → Reads c d → Reads (or_else a c) (or_else b d)
    reads_or _ c _ d no-term q = q
    reads_or _ c _ d (of-term l o e k) q = of-term l o e k

    no-variable : Reads (last_variable i []) None
    unfolding last_variable
    no-variable = no-term

    of_function : (j : ℕ) (t : Table) → Reads (last_variable i (is_function j t ∷ [])) None
    unfolding last_variable
    of_function j t = no-term

    one-variable : (j : ℕ) (v : Value) (t : Tree) → (eqb i j ≡ true → Reads (Some v) (Some t)) → Reads (last_variable i (is_variable j v ∷ [])) (cond (eqb i j) (Some t) None)
    unfolding last_variable
    one-variable j v t f = by_test (eqb i j) (λ h. rw h (f h)) (λ h. rw h no-term)

    value_read : (row : ℕ) (t : Tree) (v : Value) → row ≡ x.sort → Octets t → value_as T row t ≡ Ok v → Reads (Some v) (Some t)
    value_read row t v q o e =
        let l = went _ _ v e in
        let p = passed _ UnmatchedType _ v l.next in
        subst (λ (u : Value). Reads (Some u) (Some t)) (ok_same p.1)
        (of-term l.got o (subst (λ (n : ℕ). read T levels (Some n) t ≡ Ok l.got) q l.first) (subst (λ (n : ℕ). eqb l.got.row n ≡ true) q p.0))

    variable-read : (sort t : Tree) → Octets t → (y : Variable) (v : Value) → y ≡ x → variable_value T y sort t ≡ Ok v → Reads (Some v) (Some t)
    variable-read sort t o y v q e =
        let s = went _ _ v e in
        let l = went _ _ v s.next in
        let r = passed _ UnmatchedType _ v l.next in
        subst (λ (u : Value). Reads (Some u) (Some t)) (ok_same r.1)
        (value_read s.got t l.got (sym (eqb-true _ _ r.0) ∙ ap (λ (k : Variable). k.sort) q) o l.first)

    second-read : (t : Tree) → Octets t → (y : Variable) (v : Value) → y ≡ x → value_as T y.sort t ≡ Ok v → Reads (Some v) (Some t)
    second-read t o y v q e = value_read y.sort t v (ap (λ (k : Variable). k.sort) q) o e

    -- by the rule of a variable's row
    value_taken : (t : Tree) (rule : Variable → Result Value Refusal) → ((y : Variable) (v : Value) → y ≡ x → rule y ≡ Ok v → Reads (Some v) (Some t)) → (o : Option ℕ) (ds : List Definition) →
        OnRow T.variables (λ j y. rule y >>= λ v. Ok (is_variable j v)) o ds → Reads (last_variable i ds) (cond (is_row i o) (Some t) None)
    value_taken t rule f _ _ skipped = no-variable
    value_taken t rule f _ _ (taken {j = j} y d e m) =
        let w = went _ _ d m in
        subst (λ (k : Definition). Reads (last_variable i (k ∷ [])) (cond (eqb i j) (Some t) None)) (ok_same w.next)
        (one-variable j w.got t (λ h. f y w.got (one-row T.variables i j x y there e h) w.first))

    table_taken : (name : List ℕ) (arg_sort sort body : Tree) (o : Option ℕ) (ds : List Definition) →
        OnRow T.functions (λ j f. function_table T f name arg_sort sort body >>= λ t. Ok (is_function j t)) o ds → Reads (last_variable i ds) None
    table_taken name arg_sort sort body _ _ skipped = no-variable
    table_taken name arg_sort sort body _ _ (taken {j = j} f d e m) =
        let w = went _ _ d m in
        subst (λ (k : Definition). Reads (last_variable i (k ∷ [])) None) (ok_same w.next) (of_function j w.got)

    command-reads : (t : Tree) (c : Command) → CommandView t c → (ds : List Definition) → Octets t → read_command T c ≡ Ok ds → Reads (last_variable i ds) (term_in T i c)
    command-reads _ _ (c_variable {name = name} {sort = sort} {t = t}) ds o e =
        value_taken t (λ y. variable_value T y sort t) (variable-read sort t o.1.1.1.1.0) (variable_row T name) ds (on_row_lem T T.variables (variable_row T name) _ ds e)
    command-reads _ _ (c_function {name = name} {x = y} {arg_sort = arg_sort} {sort = sort} {body = body}) ds o e =
        table_taken y arg_sort sort body (function_row T name) ds (on_row_lem T T.functions (function_row T name) _ ds e)
    command-reads _ _ c_misshapen ds o e = refuses e

    pair_reads : (t : Tree) (p : Option Pair) → PairView t p → (ds : List Definition) → Octets t → read_pair T p ≡ Ok ds → Reads (last_variable i ds) (second_in T i p)
    pair_reads _ _ (p_pair {name = name} {t = t}) ds o e =
        value_taken t (λ y. value_as T y.sort t) (second-read t o.1.0) (variable_row T name) ds (on_row_lem T T.variables (variable_row T name) _ ds e)
    pair_reads _ _ p_none ds o e = refuses e

    part-reads : (form : Form) (t : Tree) (ds : List Definition) → Octets t → read_part T form t ≡ Ok ds → Reads (last_variable i ds) (term_of T i form t)
    part-reads Form.Model t ds o e = command-reads t (command t) (command-view t) ds o e
    part-reads Form.Values t ds o e = pair_reads t (pair t) (pair-view t) ds o e

    pub parts-read : (form : Form) (us : Trees) (ds : List Definition) → OctetsAll us → read_parts T form us ≡ Ok ds → Reads (last_variable i ds) (last_term_in T i form us)
    unfolding read_parts last_term_in
    parts-read form nil ds o e = subst (λ (k : List Definition). Reads (last_variable i k) None) (ok_same e) no-variable
    parts-read form (cons t us) ds o e =
        let a = went _ _ ds e in
        let b = went _ _ ds a.next in
        subst (λ (k : List Definition). Reads (last_variable i k) (or_else (last_term_in T i form us) (term_of T i form t))) (ok_same b.next)
        (rw (last-variable i a.got b.got)
        (reads_or (last_variable i b.got) (last_variable i a.got) (last_term_in T i form us) (term_of T i form t)
        (parts-read form us b.got o.1 b.first) (part-reads form t a.got o.0 a.first)))

  -- a function's table is that of its body
  module _ (i : ℕ) (f : Function) (there : at T.functions i ≡ Some f) where
    pub data Matches : Option Table → Option Body → Type 0 where
      no_body : Matches None None
      of-body : {t : Table} {b : Body} → Octets b.term → read_body T b.argument f.argument f.result b.term ≡ Ok t → Matches (Some t) (Some b)

    matches_or : (a c : Option Table) (b d : Option Body) → Matches a b → Matches c d → Matches (or_else a c) (or_else b d)
    matches_or _ c _ d no_body q = q
    matches_or _ c _ d (of-body o e) q = of-body o e

    no-function : Matches (last_function i []) None
    unfolding last_function
    no-function = no_body

    of-variable : (j : ℕ) (v : Value) → Matches (last_function i (is_variable j v ∷ [])) None
    unfolding last_function
    of-variable j v = no_body

    one_function : (j : ℕ) (t : Table) (b : Body) → (eqb i j ≡ true → Matches (Some t) (Some b)) → Matches (last_function i (is_function j t ∷ [])) (cond (eqb i j) (Some b) None)
    unfolding last_function
    one_function j t b g = by_test (eqb i j) (λ h. rw h (g h)) (λ h. rw h no_body)

    value_matches : (rule : Variable → Result Value Refusal) (o : Option ℕ) (ds : List Definition) → OnRow T.variables (λ j y. rule y >>= λ v. Ok (is_variable j v)) o ds → Matches (last_function i ds) None
    value_matches rule _ _ skipped = no-function
    value_matches rule _ _ (taken {j = j} y d e m) =
        let w = went _ _ d m in
        subst (λ (k : Definition). Matches (last_function i (k ∷ [])) None) (ok_same w.next) (of-variable j w.got)

    table-read : (g : Function) (x : List ℕ) (arg_sort sort body : Tree) (t : Table) → g ≡ f → function_table T g x arg_sort sort body ≡ Ok t →
        read_body T x f.argument f.result body ≡ Ok t
    table-read g x arg_sort sort body t q e =
        let a = went _ _ t e in
        let r = went _ _ t a.next in
        let p = passed _ UnmatchedType _ t r.next in
        let s = passed _ UnmatchedType _ t p.1 in
        ap₂ (λ (argument result : ℕ). read_body T x argument result body)
        (sym (eqb-true _ _ p.0 ∙ ap (λ (k : Function). k.argument) q))
        (sym (eqb-true _ _ s.0 ∙ ap (λ (k : Function). k.result) q))
        ∙ s.1

    table_matches : (x : List ℕ) (arg_sort sort body : Tree) (o : Option ℕ) (ds : List Definition) → Octets body →
        OnRow T.functions (λ j g. function_table T g x arg_sort sort body >>= λ t. Ok (is_function j t)) o ds →
        Matches (last_function i ds) (cond (is_row i o) (Some (record { argument = x; term = body })) None)
    table_matches x arg_sort sort body _ _ p skipped = no-function
    table_matches x arg_sort sort body _ _ p (taken {j = j} g d e m) =
        let w = went _ _ d m in
        subst (λ (k : Definition). Matches (last_function i (k ∷ [])) (cond (eqb i j) (Some (record { argument = x; term = body })) None)) (ok_same w.next)
        (one_function j w.got (record { argument = x; term = body }) (λ h.
        of-body p (table-read g x arg_sort sort body w.got (one-row T.functions i j f g there e h) w.first)))

    command_matches : (t : Tree) (c : Command) → CommandView t c → (ds : List Definition) → Octets t → read_command T c ≡ Ok ds → Matches (last_function i ds) (body_in T i c)
    command_matches _ _ (c_variable {name = name} {sort = sort} {t = t}) ds o e =
        value_matches (λ y. variable_value T y sort t) (variable_row T name) ds (on_row_lem T T.variables (variable_row T name) _ ds e)
    command_matches _ _ (c_function {name = name} {x = x} {arg_sort = arg_sort} {sort = sort} {body = body}) ds o e =
        table_matches x arg_sort sort body (function_row T name) ds o.1.1.1.1.0 (on_row_lem T T.functions (function_row T name) _ ds e)
    command_matches _ _ c_misshapen ds o e = refuses e

    pub commands_match : (us : Trees) (ds : List Definition) → OctetsAll us → read_parts T Form.Model us ≡ Ok ds → Matches (last_function i ds) (last_body_in T i us)
    unfolding read_parts last_body_in
    commands_match nil ds o e = subst (λ (k : List Definition). Matches (last_function i k) None) (ok_same e) no-function
    commands_match (cons t us) ds o e =
        let a = went _ _ ds e in
        let b = went _ _ ds a.next in
        subst (λ (k : List Definition). Matches (last_function i k) (or_else (last_body_in T i us) (body_in T i (command t)))) (ok_same b.next)
        (rw (last-function i a.got b.got)
        (matches_or (last_function i b.got) (last_function i a.got) (last_body_in T i us) (body_in T i (command t))
        (commands_match us b.got o.1 b.first) (command_matches t (command t) (command-view t) a.got o.0 a.first)))

  -- pairs define no function
  module _ (i : ℕ) where
    no_table : last_function i [] ≡ None
    unfolding last_function
    no_table = refl

    value_tableless : (j : ℕ) (v : Value) → last_function i (is_variable j v ∷ []) ≡ None
    unfolding last_function
    value_tableless j v = refl

    row_tableless : (rule : Variable → Result Value Refusal) (o : Option ℕ) (ds : List Definition) → OnRow T.variables (λ j y. rule y >>= λ v. Ok (is_variable j v)) o ds → last_function i ds ≡ None
    row_tableless rule _ _ skipped = no_table
    row_tableless rule _ _ (taken {j = j} y d e m) =
        let w = went _ _ d m in
        subst (λ (k : Definition). last_function i (k ∷ []) ≡ None) (ok_same w.next) (value_tableless j w.got)

    pair_tableless : (p : Option Pair) (ds : List Definition) → read_pair T p ≡ Ok ds → last_function i ds ≡ None
    pair_tableless None ds e = refuses e
    pair_tableless (Some p) ds e = row_tableless (λ y. value_as T y.sort p.second) (variable_row T p.name) ds (on_row_lem T T.variables (variable_row T p.name) _ ds e)

    pub pairs_tableless : (us : Trees) (ds : List Definition) → read_parts T Form.Values us ≡ Ok ds → last_function i ds ≡ None
    unfolding read_parts
    pairs_tableless nil ds e = subst (λ (k : List Definition). last_function i k ≡ None) (ok_same e) no_table
    pairs_tableless (cons t us) ds e =
        let a = went _ _ ds e in
        let b = went _ _ ds a.next in
        subst (λ (k : List Definition). last_function i k ≡ None) (ok_same b.next)
        (last-function i a.got b.got ∙ ap₂ (λ (x y : Option Table). or_else x y) (pairs_tableless us b.got b.first) (pair_tableless (pair t) a.got a.first))
