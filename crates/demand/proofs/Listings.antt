-- The bytes of a listing tell the definitions that they are of, where these have their sorts.
-- Assumes nothing.
use Rattle.std.proofs.Common.{Some}
use mathlib.Core.Path.{◌≡◌, refl, ap, ap₂, sym, ◌∙◌, subst}
use mathlib.Core.Bool.{true, ◌&&◌}
use mathlib.Core.List.{List, [], ◌∷◌, ◌++◌, append_assoc, append_cancel_left, head-eq_of_cons-eq, tail-eq_of_cons-eq}
use Prim.Native.Nat.{ℕ, suc}
use Prim.Native.String.{String}
use native.Mathlib.Omega.{arith}
use lib.Dec.{leb}
use lib.ListN.{length}
use Rattle.ground.specs.Bytes.{bytes}
use Rattle.ground.specs.Lists.{all, at}
use Rattle.ground.proofs.Tests.{both_left, both_right}
use Rattle.lexicon.specs.Symbol.{one_symbol}
use Rattle.decimals.specs.Decimal.{decimal}
use Rattle.order.specs.Every.{Every}
use Rattle.order.proofs.Everies.{every_map, all-every}
use Rattle.tables.specs.Rules.{name_limit, name_right, present, variable_right, function_right, lawful}
use Rattle.tables.specs.Sort.{Variable, Function, Tables}
use Rattle.tables.proofs.Lawful.{Lawful, lawful-parts}
use Rattle.values.specs.HasSort.{Ascending}
use Rattle.values.specs.Text.{text}
use Rattle.values.specs.Value.{Value}
use Rattle.values.proofs.Digits.{run_of, split-run, decimal-digits}
use Rattle.values.proofs.Tells.{tell}
use Rattle.model.specs.Model.{Arm, arm_of, Table, table_of, Definition, last_variable, last_function}
use Rattle.model.specs.Listing.{line, arm_lines, variable_lines, function_lines, variables_from, functions_from, variable_count, function_count, rendered}
use Rattle.demand.specs.Demand.{Sorted}
use Rattle.demand.specs.Alike.{Alike}
use Rattle.demand.proofs.Lines.{lineless, symbol-lineless, lines_from, Other, Begins, begins, tell-rows}

-- a line and what follows it
line-then : (word : String) (s z : List ℕ) → line word s ++ z ≡ bytes word ++ (61 ∷ (s ++ (10 ∷ z)))
line-then word s z = append_assoc (bytes word) (61 ∷ (s ++ bytes "\n")) z ∙ ap (λ (l : List ℕ). bytes word ++ (61 ∷ l)) (append_assoc s (bytes "\n") z)

cut_line : (word : String) (s t a b : List ℕ) → line word s ++ a ≡ line word t ++ b → s ++ (10 ∷ a) ≡ t ++ (10 ∷ b)
cut_line word s t a b e = tail-eq_of_cons-eq (append_cancel_left (bytes word) _ _ (sym (line-then word s a) ∙ e ∙ line-then word t b))

-- after a number
number-then : (word : String) (n m : ℕ) (a b : List ℕ) → line word (decimal n) ++ a ≡ line word (decimal m) ++ b → a ≡ b
number-then word n m a b e =
    tail-eq_of_cons-eq (split-run (decimal n) (decimal m) (10 ∷ a) (10 ∷ b) (run_of _ (decimal-digits n)) (run_of _ (decimal-digits m)) refl refl (cut_line word (decimal n) (decimal m) a b e)).1

module _ (T : Tables) where
  value_tells : (word : String) (v w : Value) (row : ℕ) (a b : List ℕ) → Sorted T row v → Sorted T row w → line word (text v) ++ a ≡ line word (text w) ++ b → (v ≡ w) × (a ≡ b)
  value_tells word v w row a b h k e =
      let q = tell Ascending Ascending T v w row (10 ∷ a) (10 ∷ b) h k refl refl (cut_line word (text v) (text w) a b e) in
      (q.0, tail-eq_of_cons-eq q.1)

  -- a variable's lines
  abbrev variable_more : Variable → Value → List ℕ → List ℕ
  variable_more x v z = line "sort" (decimal x.sort) ++ (line "value" (text v) ++ z)

  abbrev VariableFits : Variable → Value → Type 0
  VariableFits x v = Sorted T x.sort v

  variable-lines : (x : Variable) (v : Value) (z : List ℕ) → variable_lines x (Some v) ++ z ≡ 118 ∷ (bytes "ar=" ++ (x.name ++ (10 ∷ variable_more x v z)))
  variable-lines x v z =
      let sort = line "sort" (decimal x.sort) in
      append_assoc (line "var" x.name) (sort ++ line "value" (text v)) z
      ∙ line-then "var" x.name (sort ++ line "value" (text v) ++ z)
      ∙ ap (λ (l : List ℕ). bytes "var=" ++ (x.name ++ (10 ∷ l))) (append_assoc sort (line "value" (text v)) z)

  variable-tells : (x : Variable) (v w : Value) (z z' : List ℕ) → VariableFits x v → VariableFits x w → variable_more x v z ≡ variable_more x w z' → (v ≡ w) × (z ≡ z')
  variable-tells x v w z z' h k e = value_tells "value" v w x.sort z z' h k (append_cancel_left (line "sort" (decimal x.sort)) _ _ e)

  -- a function's lines
  pub record FunctionFits (f : Function) (t : Table) : Type 0 where
    pub keys : Every (λ (a : Arm). Sorted T f.argument a.«when») t.arms
    pub values : Every (λ (a : Arm). Sorted T f.result a.«then») t.arms
    pub default : Sorted T f.result t.«else»

  arm-lines : (a : Arm) (arms : List Arm) (z : List ℕ) → arm_lines (a ∷ arms) ++ z ≡ line "when" (text a.«when») ++ (line "then" (text a.«then») ++ (arm_lines arms ++ z))
  arm-lines a arms z =
      append_assoc (line "when" (text a.«when»)) (line "then" (text a.«then») ++ arm_lines arms) z
      ∙ ap (λ (l : List ℕ). line "when" (text a.«when») ++ l) (append_assoc (line "then" (text a.«then»)) (arm_lines arms) z)

  module _ (f : Function) (d e : Value) (z z' : List ℕ) (sorted : Sorted T f.result d) (sorted' : Sorted T f.result e) where
    abbrev KeysFit : List Arm → Type 0
    KeysFit arms = Every (λ (a : Arm). Sorted T f.argument a.«when») arms

    abbrev ValuesFit : List Arm → Type 0
    ValuesFit arms = Every (λ (a : Arm). Sorted T f.result a.«then») arms

    arms-tell : (as' bs : List Arm) → KeysFit as' → ValuesFit as' → KeysFit bs → ValuesFit bs →
        arm_lines as' ++ (line "else" (text d) ++ z) ≡ arm_lines bs ++ (line "else" (text e) ++ z') → (as' ≡ bs) × (d ≡ e) × (z ≡ z')
    arms-tell [] [] ka va kb vb q = let w = value_tells "else" d e f.result z z' sorted sorted' q in (refl, w.0, w.1)
    arms-tell [] (b ∷ bs) ka va kb vb q = let h = head-eq_of_cons-eq q in absurd (omega arith)
    arms-tell (a ∷ as') [] ka va kb vb q = let h = head-eq_of_cons-eq q in absurd (omega arith)
    arms-tell (a ∷ as') (b ∷ bs) (Every.also k ks) (Every.also v vs) (Every.also l ls) (Every.also w ws) q =
        let one = value_tells "when" a.«when» b.«when» f.argument _ _ k l (sym (arm-lines a as' (line "else" (text d) ++ z)) ∙ q ∙ arm-lines b bs (line "else" (text e) ++ z')) in
        let two = value_tells "then" a.«then» b.«then» f.result _ _ v w one.1 in
        let rest = arms-tell as' bs ks vs ls ws two.1 in
        (ap₂ {C = List Arm} (λ (x : Arm) (xs : List Arm). x ∷ xs) (ap₂ {C = Arm} arm_of one.0 two.0) rest.0, rest.1, rest.2)

  abbrev function_more : Function → Table → List ℕ → List ℕ
  function_more f t z = line "arg" (decimal f.argument) ++ (line "out" (decimal f.result) ++ (arm_lines t.arms ++ (line "else" (text t.«else») ++ z)))

  function-lines : (f : Function) (t : Table) (z : List ℕ) → function_lines f (Some t) ++ z ≡ 102 ∷ (bytes "un=" ++ (f.name ++ (10 ∷ function_more f t z)))
  function-lines f t z =
      let arg = line "arg" (decimal f.argument) in
      let out = line "out" (decimal f.result) in
      let end = line "else" (text t.«else») in
      append_assoc (line "fun" f.name) (arg ++ (out ++ (arm_lines t.arms ++ end))) z
      ∙ line-then "fun" f.name (arg ++ (out ++ (arm_lines t.arms ++ end)) ++ z)
      ∙ ap (λ (l : List ℕ). bytes "fun=" ++ (f.name ++ (10 ∷ l)))
      (append_assoc arg (out ++ (arm_lines t.arms ++ end)) z
      ∙ ap (λ (l : List ℕ). arg ++ l)
      (append_assoc out (arm_lines t.arms ++ end) z
      ∙ ap (λ (l : List ℕ). out ++ l) (append_assoc (arm_lines t.arms) end z)))

  function-tells : (f : Function) (t u : Table) (z z' : List ℕ) → FunctionFits f t → FunctionFits f u → function_more f t z ≡ function_more f u z' → (t ≡ u) × (z ≡ z')
  function-tells f t u z z' h k e =
      let q = append_cancel_left (line "out" (decimal f.result)) _ _ (append_cancel_left (line "arg" (decimal f.argument)) _ _ e) in
      let w = arms-tell f t.«else» u.«else» z z' h.default k.default t.arms u.arms h.keys h.values k.keys k.values q in
      (ap₂ {C = Table} table_of w.0 w.1, w.2)

  -- names stand in one line
  names-variables : (xs : List Variable) → all (variable_right T) xs ≡ true → Every (λ (x : Variable). lineless x.name ≡ true) xs
  names-variables xs h =
      every_map (λ (x : Variable). variable_right T x ≡ true) (λ (x : Variable). lineless x.name ≡ true)
      (λ x r. symbol-lineless x.name (both_right (leb (length x.name) name_limit) (one_symbol x.name) (both_left (name_right x.name) (present T x.sort) r)))
      xs (all-every (variable_right T) xs h)

  names-functions : (fs : List Function) → all (function_right T) fs ≡ true → Every (λ (f : Function). lineless f.name ≡ true) fs
  names-functions fs h =
      every_map (λ (f : Function). function_right T f ≡ true) (λ (f : Function). lineless f.name ≡ true)
      (λ f r. symbol-lineless f.name (both_right (leb (length f.name) name_limit) (one_symbol f.name)
      (both_left (name_right f.name) (present T f.argument) (both_left (name_right f.name && present T f.argument) (present T f.result) r))))
      fs (all-every (function_right T) fs h)

  -- the listing's lines as such
  variables-from : (ds : List Definition) (k : ℕ) (xs : List Variable) → variables_from ds k xs ≡ lines_from variable_lines (λ i. last_variable i ds) k xs
  variables-from ds k [] = refl
  variables-from ds k (x ∷ xs) = ap (λ (l : List ℕ). variable_lines x (last_variable k ds) ++ l) (variables-from ds (suc k) xs)

  functions-from : (ds : List Definition) (k : ℕ) (fs : List Function) → functions_from ds k fs ≡ lines_from function_lines (λ i. last_function i ds) k fs
  functions-from ds k [] = refl
  functions-from ds k (f ∷ fs) = ap (λ (l : List ℕ). function_lines f (last_function k ds) ++ l) (functions-from ds (suc k) fs)

  -- what all definitions fit
  pub record Fit (ds : List Definition) : Type 0 where
    pub variables : (i : ℕ) (x : Variable) (v : Value) → at T.variables i ≡ Some x → last_variable i ds ≡ Some v → VariableFits x v
    pub functions : (i : ℕ) (f : Function) (t : Table) → at T.functions i ≡ Some f → last_function i ds ≡ Some t → FunctionFits f t

  other-first : (z : List ℕ) → Begins 102 z → Other 118 z
  other-first [] h = tt
  other-first (b ∷ bs) h = λ q. omega (arith, h, q)

  functions-other : (ds : List Definition) → Other 118 (functions_from ds 0 T.functions)
  functions-other ds =
      subst (Other 118) (sym (functions-from ds 0 T.functions))
      (other-first (lines_from function_lines (λ i. last_function i ds) 0 T.functions) (begins 102 (bytes "un=") (λ f. f.name) function_lines function_more (λ f. refl) function-lines (λ i. last_function i ds) 0 T.functions))

  module _ (rules : lawful T ≡ true) (ds es : List Definition) (fit : Fit ds) (fit' : Fit es) where
    abbrev kept : Lawful T
    kept = lawful-parts T rules

    variables-tell : (z z' : List ℕ) → Other 118 z → Other 118 z' → variables_from ds 0 T.variables ++ z ≡ variables_from es 0 T.variables ++ z' →
        ((i : ℕ) (x : Variable) → at T.variables i ≡ Some x → last_variable i ds ≡ last_variable i es) × (z ≡ z')
    variables-tell z z' p p' e =
        tell-rows 118 (bytes "ar=") (λ x. x.name) variable_lines variable_more (λ x. refl) variable-lines VariableFits variable-tells
        (λ i. last_variable i ds) (λ i. last_variable i es) T.variables z z' fit.variables fit'.variables
        (names-variables T.variables kept.variables.each) kept.variables.apart p p'
        (sym (ap (λ (l : List ℕ). l ++ z) (variables-from ds 0 T.variables)) ∙ e ∙ ap (λ (l : List ℕ). l ++ z') (variables-from es 0 T.variables))

    functions-tell : functions_from ds 0 T.functions ≡ functions_from es 0 T.functions →
        (i : ℕ) (f : Function) → at T.functions i ≡ Some f → last_function i ds ≡ last_function i es
    functions-tell e =
        (tell-rows 102 (bytes "un=") (λ f. f.name) function_lines function_more (λ f. refl) function-lines FunctionFits function-tells
        (λ i. last_function i ds) (λ i. last_function i es) T.functions [] [] fit.functions fit'.functions
        (names-functions T.functions kept.functions.each) kept.functions.apart tt tt
        (ap (λ (l : List ℕ). l ++ []) (sym (functions-from ds 0 T.functions) ∙ e ∙ functions-from es 0 T.functions))).0

    -- definitions that fit, from their bytes
    pub rendered-tell : rendered ds T ≡ rendered es T → Alike T ds es
    unfolding rendered
    rendered-tell e =
        let one = number-then "vars" (variable_count ds 0 T.variables) (variable_count es 0 T.variables) _ _ e in
        let two = number-then "funs" (function_count ds 0 T.functions) (function_count es 0 T.functions) _ _ one in
        let v = variables-tell (functions_from ds 0 T.functions) (functions_from es 0 T.functions) (functions-other ds) (functions-other es) two in
        record { variables = v.0; functions = functions-tell v.1 }
