-- A refusal of the walk tells no need, and the need of a listing is below 2 ^ 56: so one word can tell a refusal's number and its detail.
-- Assumes nothing.
use Rattle.std.proofs.Common.{None, Option, Some, Err, Ok, Result}
use mathlib.Core.Path.{◌≡◌, refl, sym, ap, ◌∙◌, subst}
use mathlib.Core.Bool.{true, false}
use mathlib.Core.List.{List}
use Prim.Native.Nat.{ℕ, ◌*◌, ◌^◌, ◌≤◌, ◌<◌}
use native.Mathlib.Omega.{arith}
use lib.Dec.{eqb}
use lib.ListN.{length, length-append}
use Rattle.ground.specs.Lists.{at}
use Rattle.ground.proofs.Tests.{by_order}
use Rattle.refusals.specs.declared.Refusal.{Refusal}
use Rattle.refusals.specs.declared.Refusal.TheVariants.{UnexpectedModel, UnmatchedType, UnexpectedForm}
use Rattle.refusals.specs.Number.{detail_of}
use Rattle.lent.specs.Left.{Left, Leaves}
use Rattle.arena.specs.Arena.{Arena}
use Rattle.arena.specs.Tree.{Tree, Trees, bit_vec, numeral, string, symbol, app, nil, cons, count as many-of, nodes, text as tree_text}
use Rattle.arena.proofs.Arenas.{arena-stands}
use Rattle.order.specs.Every.{Every}
use Rattle.tables.specs.Find.{variable_row as variable_found, function_row as function_found}
use Rattle.tables.specs.Layout.{Lent, tables_of}
use Rattle.tables.specs.Check.{passes}
use Rattle.tables.specs.Rules.{lawful}
use Rattle.tables.specs.Sort.{Variable, Function, Tables}
use Rattle.shapes.specs.Shows.{StandingAll}
use Rattle.sorts.specs.Result.{◌>>=◌, found}
use Rattle.sorts.specs.Sort.{read_sort, levels}
use Rattle.means.specs.Literal.{read}
use Rattle.well_sorted.proofs.Plain.{Plain, plain_then, plain-unless, plain-found, sort-plain, read_plain}
use Rattle.well_sorted.proofs.Results.{refuses, ok_same}
use Rattle.commands.specs.declared.form.Form.{Form}
use Rattle.commands.specs.Pair.{Pair, pair}
use Rattle.commands.specs.Command.{Command, variable, function, misshapen, command, Chain, default, arm, chain, tests, key}
use Rattle.model.specs.Model.{Definition, is_bool, read_chain, read_tests, body_by, value_as, variable_value, function_table, on_row, read_command, read_pair, read_part, read_parts, read_reply}
use Rattle.model.specs.Listing.{variable_count, function_count, listing, need}
use Rattle.walk.specs.Placed.{Placed, its, placed}
use Rattle.walk.proofs.Places.{placed-read}
use Rattle.listing.specs.Lists.{left, Lists, bad-table, bad-arena, walked}
use Rattle.listing.specs.Line.{header}
use Rattle.listing.specs.Grounds.{Grounded}
use Rattle.listing.specs.Entries.{entries}
use Rattle.listing.proofs.Folds.{sums-most, length-texts}
use Rattle.listing.proofs.Readings.{parts-grounded}
use Rattle.listing.proofs.Rows.{many, many-few, entry_of, entries-are}
use Rattle.listing.proofs.Sizes.{header-small}
use Rattle.listing.proofs.Tallies.{most, entry-short}
use Rattle.listing.proofs.Wholes.{parts, fits, short, passes-rules, sure_of}

-- a refusal of the walk
module _ (T : Tables) where
  module _ (x : List ℕ) (argument result : ℕ) where
    chain-plain : (c : Chain) → Plain (read_chain T x argument result c)
    unfolding read_chain
    chain-plain (default t) = plain_then (read T levels (Some result) t) _ (read_plain T false levels (Some result) t) (λ l. plain-unless (eqb l.row result) UnmatchedType _ refl tt)
    chain-plain (arm test t rest) =
        plain_then (found UnexpectedForm (key x test)) _ (plain-found UnexpectedForm (key x test) refl)
        (λ k. plain_then (read T levels None k) _ (read_plain T false levels None k)
        (λ m. plain_then (read T levels (Some result) t) _ (read_plain T false levels (Some result) t)
        (λ l. plain-unless (eqb m.row argument) UnmatchedType _ refl
        (plain-unless (eqb l.row result) UnmatchedType _ refl
        (plain_then (read_chain T x argument result rest) _ (chain-plain rest) (λ table. tt))))))

    tests_plain : (us : Trees) → Plain (read_tests T x argument result us)
    unfolding read_tests
    tests_plain nil = tt
    tests_plain (cons test us) =
        plain_then (found UnexpectedForm (key x test)) _ (plain-found UnexpectedForm (key x test) refl)
        (λ k. plain_then (read T levels None k) _ (read_plain T false levels None k)
        (λ m. plain-unless (eqb m.row argument) UnmatchedType _ refl
        (plain_then (read_tests T x argument result us) _ (tests_plain us) (λ table. tt))))

    body-plain : (body : Tree) (o : Option Trees) → Plain (body_by T x argument result body o)
    body-plain body None = chain-plain (chain body)
    body-plain body (Some us) = plain-unless (is_bool (at T.sorts result)) UnmatchedType _ refl (tests_plain us)

  value-plain : (row : ℕ) (t : Tree) → Plain (value_as T row t)
  value-plain row t = plain_then (read T levels (Some row) t) _ (read_plain T false levels (Some row) t) (λ l. plain-unless (eqb l.row row) UnmatchedType _ refl tt)

  variable-plain : (v : Variable) (sort t : Tree) → Plain (variable_value T v sort t)
  variable-plain v sort t =
      plain_then (read_sort T levels sort) _ (sort-plain T levels sort)
      (λ row. plain_then (value_as T row t) _ (value-plain row t) (λ x. plain-unless (eqb v.sort row) UnmatchedType _ refl tt))

  table-plain : (f : Function) (x : List ℕ) (arg_sort sort body : Tree) → Plain (function_table T f x arg_sort sort body)
  table-plain f x arg_sort sort body =
      plain_then (read_sort T levels arg_sort) _ (sort-plain T levels arg_sort)
      (λ argument. plain_then (read_sort T levels sort) _ (sort-plain T levels sort)
      (λ result. plain-unless (eqb argument f.argument) UnmatchedType _ refl
      (plain-unless (eqb result f.result) UnmatchedType _ refl (body-plain x argument result body (tests body)))))

  on-row-plain : {A : Type 0} (rows : List A) (o : Option ℕ) (rule : ℕ → A → Result Definition Refusal) → ((i : ℕ) (a : A) → Plain (rule i a)) → Plain (on_row T rows o rule)
  on-row-plain rows None rule h = tt
  on-row-plain rows (Some i) rule h =
      plain_then (found UnexpectedModel (at rows i)) _ (plain-found UnexpectedModel (at rows i) refl) (λ a. plain_then (rule i a) _ (h i a) (λ d. tt))

  command-plain : (c : Command) → Plain (read_command T c)
  command-plain (variable name sort t) =
      on-row-plain T.variables (variable_found T name) _ (λ i v. plain_then (variable_value T v sort t) _ (variable-plain v sort t) (λ x. tt))
  command-plain (function name x arg_sort sort body) =
      on-row-plain T.functions (function_found T name) _ (λ i f. plain_then (function_table T f x arg_sort sort body) _ (table-plain f x arg_sort sort body) (λ table. tt))
  command-plain misshapen = refl

  pair-plain : (p : Option Pair) → Plain (read_pair T p)
  pair-plain None = refl
  pair-plain (Some p) =
      on-row-plain T.variables (variable_found T p.name) _ (λ i v. plain_then (value_as T v.sort p.second) _ (value-plain v.sort p.second) (λ x. tt))

  part-plain : (form : Form) (t : Tree) → Plain (read_part T form t)
  part-plain Form.Model t = command-plain (command t)
  part-plain Form.Values t = pair-plain (pair t)

  module _ (form : Form) where
    parts-plain : (us : Trees) → Plain (read_parts T form us)
    unfolding read_parts
    parts-plain nil = tt
    parts-plain (cons t us) = plain_then (read_part T form t) _ (part-plain form t) (λ ds. plain_then (read_parts T form us) _ (parts-plain us) (λ es. tt))

    reply_plain : (t : Tree) → Plain (read_reply T form t)
    unfolding read_reply
    reply_plain (bit_vec w n) = refl
    reply_plain (numeral n) = refl
    reply_plain (string s) = refl
    reply_plain (symbol s) = refl
    reply_plain (app us) = parts-plain us

-- the need of what stands in an arena
need-small : (l : Lent) (ws ts : List ℕ) → lawful (tables_of l) ≡ true → (ps : List Placed) → Every (Grounded l ws ts) ps → need (tables_of l) (its ps) < 2 ^ 56
unfolding need
need-small l ws ts rules ps gs =
    let v = variable_count (its ps) 0 (tables_of l).variables in
    let f = function_count (its ps) 0 (tables_of l).functions in
    let e = ap length (parts l (its ps) v f refl refl) in
    let g = ap length (entries-are l ws ts ps gs) in
    let k = sums-most (λ j. length (entry_of l ps j)) most 0 (many l) (λ j. entry-short l rules ws ts j ps gs) in
    let m = mul_mono (many l) (many-few l rules) in
    omega (arith, e, g, k, m, length-append (header v f) (entries l (its ps)), length-texts (entry_of l ps) 0 (many l), header-small v f)
  where
    mul_mono : (n : ℕ) → n ≤ 2048 → n * most ≤ 18014398509481984
    mul_mono n h = omega arith

reply_small : (form : Form) (l : Lent) (ws ts : List ℕ) → passes l ≡ true → (t : Tree) (ds : List Definition) → Arena ws ts t → read_reply (tables_of l) form t ≡ Ok ds → need (tables_of l) ds < 2 ^ 56
unfolding read_reply ◌>>=◌
reply_small form l ws ts p (bit_vec w n) ds a e = refuses e
reply_small form l ws ts p (numeral n) ds a e = refuses e
reply_small form l ws ts p (string r) ds a e = refuses e
reply_small form l ws ts p (symbol r) ds a e = refuses e
reply_small form l ws ts p (app us) ds a e = go (placed (tables_of l) form 1 us) refl
  where
    stood : StandingAll us ws ts 1 (many-of us)
    stood = let s = arena-stands ws ts (app us) a in record { next = nodes (app us); from = 0; rest = length (tree_text (app us)); there = s.children; many-are = refl }

    go : (m : Result (List Placed) Refusal) → placed (tables_of l) form 1 us ≡ m → need (tables_of l) ds < 2 ^ 56
    go (Ok ps) z =
        let k : Ok (its ps) ≡ Ok ds = sym (ap (λ (x : Result (List Placed) Refusal). x >>= λ qs. Ok (its qs)) z) ∙ placed-read (tables_of l) form 1 us ∙ e in
        subst (λ (es : List Definition). need (tables_of l) es < 2 ^ 56) (ok_same k) (need-small l ws ts (passes-rules l p) ps (parts-grounded form l ws ts us (many-of us) stood (sure_of l ws ts us p a) ps z))
    go (Err r) z = let k : Err r ≡ Ok ds = sym (ap (λ (x : Result (List Placed) Refusal). x >>= λ qs. Ok (its qs)) z) ∙ placed-read (tables_of l) form 1 us ∙ e in refuses k

-- what is told
told-so : {why : Refusal} {s : Result ℕ Refusal} → Err why ≡ s → (P : Result ℕ Refusal → Type 0) → P s → P (Err why)
told-so e P p = subst P (sym e) p

abbrev Told : Result ℕ Refusal → Type 0
Told (Ok n) = Unit {0}
Told (Err why) = detail_of why < 2 ^ 56

pub listing-told : (form : Form) (l : Lent) (ws ts entry : List ℕ) (why : Refusal) (exit : List ℕ) → Lists form l ws ts entry (Err why) exit → detail_of why < 2 ^ 56
listing-told form l ws ts entry why exit (bad-table p h) = told-so h.answers Told (omega arith)
listing-told form l ws ts entry why exit (bad-arena p f h) = told-so h.answers Told (omega arith)
listing-told form l ws ts entry why exit (walked p t a h) = go (read_reply (tables_of l) form t) refl h
  where
    go : (m : Result (List Definition) Refusal) → read_reply (tables_of l) form t ≡ m → Leaves (left (tables_of l) m entry) (Err why) exit → detail_of why < 2 ^ 56
    go (Ok ds) e k =
        let small = reply_small form l ws ts p t ds a e in
        told-so k.answers Told
        (by_order (length entry) (need (tables_of l) ds)
        (λ h. subst (λ (x : Left). Told x.answer) (sym (short (listing (tables_of l) ds) (need (tables_of l) ds) entry h)) small)
        (λ h. subst (λ (x : Left). Told x.answer) (sym (fits (listing (tables_of l) ds) (need (tables_of l) ds) entry h)) tt))
    go (Err r) e k =
        let q = subst Plain e (reply_plain (tables_of l) form t) in
        told-so k.answers Told (omega (arith, q))
