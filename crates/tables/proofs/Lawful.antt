-- What tables that pass the check are known to keep, table by table and row by row.
-- Assumes nothing.
use Rattle.std.proofs.Common.{Some, Err, Ok}
use mathlib.Core.Path.{◌≡◌, sym, ap, ◌∙◌}
use mathlib.Core.Bool.{Bool, true, ◌&&◌}
use mathlib.Core.List.{List, [], ◌∷◌}
use Prim.Native.Nat.{ℕ, zero, suc, ◌+◌, ◌≤◌}
use native.Mathlib.Nat.{add-zero, zero-add}
use native.Mathlib.Omega.{arith}
use lib.Dec.{leb}
use lib.ListN.{length}
use borrow.Author.Tests.{leb-true}
use Rattle.ground.specs.Lists.{all, at, distinct}
use Rattle.ground.proofs.Tests.{by_test, both_left, both_right}
use Rattle.refusals.specs.declared.Refusal.TheVariants.{BadTable}
use Rattle.arena.specs.Text.{same_text}
use Rattle.tables.specs.Sort.{Sort, Variable, Function, Member, Tables}
use Rattle.tables.specs.Layout.{Lent}
use Rattle.tables.specs.Rules.{row_limit, sort_right, sorts_right, same_sort, variable_right, function_right, member_right, table, lawful}
use Rattle.tables.specs.Check.{passes, checked}
use Rattle.tables.proofs.Places.{none-some, some_one}

-- a table in its parts
pub record Tabled {A : Type 0} (right : A → Bool) (same : A → A → Bool) (rows : List A) : Type 0 where
  pub few : length rows ≤ row_limit
  pub each : all right rows ≡ true
  pub apart : distinct same rows ≡ true

tabled : {A : Type 0} (right : A → Bool) (same : A → A → Bool) (rows : List A) → table right same rows ≡ true → Tabled right same rows
tabled right same rows e =
    let h = both_left (leb (length rows) row_limit && all right rows) (distinct same rows) e in
    record {
      few = leb-true (length rows) row_limit (both_left (leb (length rows) row_limit) (all right rows) h);
      each = both_right (leb (length rows) row_limit) (all right rows) h;
      apart = both_right (leb (length rows) row_limit && all right rows) (distinct same rows) e;
    }

pub record Lawful (t : Tables) : Type 0 where
  pub few : length t.sorts ≤ row_limit
  pub sorts : sorts_right 0 t.sorts ≡ true
  pub apart : distinct same_sort t.sorts ≡ true
  pub variables : Tabled (variable_right t) (λ v w. same_text v.name w.name) t.variables
  pub functions : Tabled (function_right t) (λ f g. same_text f.name g.name) t.functions
  pub members : Tabled (member_right t) (λ m n. same_text m.name n.name) t.members

module _ (t : Tables) where
  abbrev sorts-limited : Bool
  sorts-limited = leb (length t.sorts) row_limit

  abbrev sorts-first : Bool
  sorts-first = sorts-limited && sorts_right 0 t.sorts

  abbrev sorts-kept : Bool
  sorts-kept = sorts-first && distinct same_sort t.sorts

  abbrev variables-kept : Bool
  variables-kept = table (variable_right t) (λ v w. same_text v.name w.name) t.variables

  abbrev functions-kept : Bool
  functions-kept = table (function_right t) (λ f g. same_text f.name g.name) t.functions

  abbrev members_kept : Bool
  members_kept = table (member_right t) (λ m n. same_text m.name n.name) t.members

  pub lawful-parts : lawful t ≡ true → Lawful t
  unfolding lawful
  lawful-parts e =
      let e3 = both_left (sorts-kept && variables-kept && functions-kept) members_kept e in
      let e2 = both_left (sorts-kept && variables-kept) functions-kept e3 in
      let e1 = both_left sorts-kept variables-kept e2 in
      let e0 = both_left sorts-first (distinct same_sort t.sorts) e1 in
      record {
        few = leb-true (length t.sorts) row_limit (both_left sorts-limited (sorts_right 0 t.sorts) e0);
        sorts = both_right sorts-limited (sorts_right 0 t.sorts) e0;
        apart = both_right sorts-first (distinct same_sort t.sorts) e1;
        variables = tabled (variable_right t) (λ v w. same_text v.name w.name) t.variables (both_right sorts-kept variables-kept e2);
        functions = tabled (function_right t) (λ f g. same_text f.name g.name) t.functions (both_right (sorts-kept && variables-kept) functions-kept e3);
        members = tabled (member_right t) (λ m n. same_text m.name n.name) t.members (both_right (sorts-kept && variables-kept && functions-kept) members_kept e);
      }

-- the check's answer is yes of such tables alone
pub passed-passes : (l : Lent) → checked l ≡ (Ok tt) → passes l ≡ true
passed-passes l e =
    by_test (passes l) (λ h. h)
    (λ h. let g : Err BadTable ≡ (Ok tt) = rw h at e in let z : ◌≡◌ {A = ℕ} 0 1 = cc in absurd (omega arith))

-- of each row
pub all-at : {A : Type 0} (test : A → Bool) (xs : List A) (i : ℕ) (x : A) → all test xs ≡ true → at xs i ≡ Some x → test x ≡ true
unfolding all at
all-at test [] i x e h = absurd (none-some h)
all-at test (y ∷ ys) zero x e h = ap test (sym (some_one h)) ∙ both_left (test y) (all test ys) e
all-at test (y ∷ ys) (suc i) x e h = all-at test ys i x (both_right (test y) (all test ys) e) h

sorts-from : (k : ℕ) (ss : List Sort) (i : ℕ) (s : Sort) → sorts_right k ss ≡ true → at ss i ≡ Some s → sort_right (k + i) s ≡ true
unfolding sorts_right at
sorts-from k [] i s e h = absurd (none-some h)
sorts-from k (y ∷ ss) zero s e h =
    rw (add-zero k) (ap (λ (x : Sort). sort_right k x) (sym (some_one h)) ∙ both_left (sort_right k y) (sorts_right (suc k) ss) e)
sorts-from k (y ∷ ss) (suc i) s e h =
    let g : suc k + i ≡ k + suc i = omega arith in
    ap (λ (j : ℕ). sort_right j s) (sym g) ∙ sorts-from (suc k) ss i s (both_right (sort_right k y) (sorts_right (suc k) ss) e) h

module _ (t : Tables) (h : Lawful t) (i : ℕ) where
  pub sort-right : (s : Sort) → at t.sorts i ≡ Some s → sort_right i s ≡ true
  sort-right s g = ap (λ (j : ℕ). sort_right j s) (sym (zero-add i)) ∙ sorts-from 0 t.sorts i s h.sorts g

  pub variable-right : (v : Variable) → at t.variables i ≡ Some v → variable_right t v ≡ true
  variable-right v g = all-at (variable_right t) t.variables i v h.variables.each g

  pub function-right : (f : Function) → at t.functions i ≡ Some f → function_right t f ≡ true
  function-right f g = all-at (function_right t) t.functions i f h.functions.each g

  pub member_right_lem : (m : Member) → at t.members i ≡ Some m → member_right t m ≡ true
  member_right_lem m g = all-at (member_right t) t.members i m h.members.each g
