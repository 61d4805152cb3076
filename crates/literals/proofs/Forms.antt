-- Options and sets: the row inside, what is expected there, the empty ones, and what is made of the one literal inside.
-- Assumes nothing.
use Rattle.std.proofs.Common.{None, Option, Some, Err, Ok, Result}
use mathlib.Core.Path.{◌≡◌, refl, sym, ap, ◌∙◌, subst}
use mathlib.Core.Bool.{Bool, true, false}
use mathlib.Core.List.{List}
use Prim.Native.Nat.{ℕ, ◌+◌}
use native.Mathlib.Omega.{arith}
use Rattle.ground.specs.Lists.{at}
use Rattle.refusals.specs.declared.Refusal.{Refusal}
use Rattle.refusals.specs.declared.Refusal.TheVariants.{UnknownLiteral, InvalidOptionType, InvalidSetType}
use Rattle.tables.specs.declared.sort.SortRow.{SortRow}
use Rattle.tables.specs.declared.sort.Wanted.{Wanted}
use Rattle.tables.specs.Find.{found as found_as}
use Rattle.tables.specs.Layout.{Lent, tables_of}
use Rattle.tables.specs.Sort.{option_of, set_of}
use Rattle.tables.specs.View.{sort_row_at, meant}
use Rattle.tables.proofs.Sorts.{row-meant}
use Rattle.sorts.specs.Result.{◌>>=◌, found}
use Rattle.values.specs.Value.{v_none, v_some, v_set, v_nil, v_cons}
use Rattle.values.proofs.Lengths.{length_none, length_some, length-set}
use Rattle.forms.proofs.Leaves.{found-row, found_none}
use Rattle.literals.specs.declared.form.Form.{Form}
use Rattle.literals.specs.declared.form.Then.{Then}
use Rattle.means.specs.Literal.{Lit, lit, option_in, set_in, lit_of, expect_in, some_lit}
use Rattle.literals.specs.Answer.{answer, need, capped, ValueOf}
use Rattle.literals.specs.Parts.{inside_of, then_lit, bare_lit, option_row, set_row, bare_answer, InsideRow, Expects, BareOf, Finishes, Matches}
use Rattle.literals.proofs.Needs.{need-is, need-more, need-single}
use Rattle.literals.proofs.Answers.{same-value, Told, value-told, refused-told}
use Rattle.literals.specs.declared.answer.Literal.{Literal}

-- the words of a row, and the sort that it stands for
module _ (l : Lent) (i : ℕ) where
  option_meant : (s : SortRow) → option_row s ≡ option_in (meant l i s)
  option_meant SortRow.Bool = refl
  option_meant SortRow.String = refl
  option_meant SortRow.Decimal = refl
  option_meant SortRow.Datetime = refl
  option_meant SortRow.Duration = refl
  option_meant (SortRow.BitVec width) = refl
  option_meant (SortRow.Option row) = refl
  option_meant (SortRow.Set row) = refl
  option_meant SortRow.Entity = refl
  option_meant (SortRow.Record first size) = refl
  option_meant SortRow.NoRow = refl

  set-meant : (s : SortRow) → set_row s ≡ set_in (meant l i s)
  set-meant SortRow.Bool = refl
  set-meant SortRow.String = refl
  set-meant SortRow.Decimal = refl
  set-meant SortRow.Datetime = refl
  set-meant SortRow.Duration = refl
  set-meant (SortRow.BitVec width) = refl
  set-meant (SortRow.Option row) = refl
  set-meant (SortRow.Set row) = refl
  set-meant SortRow.Entity = refl
  set-meant (SortRow.Record first size) = refl
  set-meant SortRow.NoRow = refl

pub option_there : (s : SortRow) (row : ℕ) → s ≡ SortRow.Option row → Some row ≡ found_as (option_row s)
option_there s row e = ap (λ (x : SortRow). found_as (option_row x)) (sym e)

pub set_there : (s : SortRow) (row : ℕ) → s ≡ SortRow.Set row → Some row ≡ found_as (set_row s)
set_there s row e = ap (λ (x : SortRow). found_as (set_row x)) (sym e)

pub option_missing : (s : SortRow) → ((row : ℕ) → s ≡ SortRow.Option row → ⊥) → None ≡ found_as (option_row s)
option_missing SortRow.Bool h = refl
option_missing SortRow.String h = refl
option_missing SortRow.Decimal h = refl
option_missing SortRow.Datetime h = refl
option_missing SortRow.Duration h = refl
option_missing (SortRow.BitVec w) h = refl
option_missing (SortRow.Option row) h = absurd (h row refl)
option_missing (SortRow.Set row) h = refl
option_missing SortRow.Entity h = refl
option_missing (SortRow.Record first size) h = refl
option_missing SortRow.NoRow h = refl

pub set_missing : (s : SortRow) → ((row : ℕ) → s ≡ SortRow.Set row → ⊥) → None ≡ found_as (set_row s)
set_missing SortRow.Bool h = refl
set_missing SortRow.String h = refl
set_missing SortRow.Decimal h = refl
set_missing SortRow.Datetime h = refl
set_missing SortRow.Duration h = refl
set_missing (SortRow.BitVec w) h = refl
set_missing (SortRow.Option row) h = refl
set_missing (SortRow.Set row) h = absurd (h row refl)
set_missing SortRow.Entity h = refl
set_missing (SortRow.Record first size) h = refl
set_missing SortRow.NoRow h = refl

module _ (sorts : List ℕ) (row : ℕ) (form : Form) (s : SortRow) (e : s ≡ sort_row_at sorts row) (r : Option ℕ) where
  -- as the words are those of the row
  row_here : (l : Lent) → l.sorts ≡ sorts → meant l row s ≡ at (tables_of l).sorts row
  row_here l h = ap (λ (x : SortRow). meant l row x) (e ∙ ap (λ (ws : List ℕ). sort_row_at ws row) (sym h)) ∙ sym (row-meant l row)

  pub inside_option : form ≡ Form.Option → r ≡ found_as (option_row s) → InsideRow sorts row form r
  inside_option f k l h =
      k ∙ ap found_as (option_meant l row s ∙ ap option_in (row_here l h))
      ∙ ap (λ (x : Form). found_as (inside_of x (at (tables_of l).sorts row))) (sym f)

  pub inside-set : form ≡ Form.Set → r ≡ found_as (set_row s) → InsideRow sorts row form r
  inside-set f k l h =
      k ∙ ap found_as (set-meant l row s ∙ ap set_in (row_here l h))
      ∙ ap (λ (x : Form). found_as (inside_of x (at (tables_of l).sorts row))) (sym f)

-- what is expected inside
inner-found : (o : Option ℕ) (q : ℕ) → o ≡ Some q → (found UnknownLiteral o >>= λ i. Ok (Some i)) ≡ Ok (Some q)
unfolding ◌>>=◌
inner-found o q e = rw e

inner_missing : (o : Option ℕ) → o ≡ None → ◌≡◌ {A = Result (Option ℕ) Refusal} (found UnknownLiteral o >>= λ i. Ok (Some i)) (Err UnknownLiteral)
unfolding ◌>>=◌
inner_missing o e = rw e

module _ (sorts : List ℕ) (expected : Option ℕ) (form : Form) where
  abbrev in_sort : Lent → Option ℕ → Result (Option ℕ) Refusal
  in_sort l x = expect_in (tables_of l) (inside_of form) x

  pub expect_any : expected ≡ None → Expects sorts expected form (Ok None)
  expect_any e l h = sym (ap (in_sort l) e)

  module _ (row : ℕ) (e : expected ≡ Some row) (q : Option ℕ) (inside : InsideRow sorts row form q) where
    pub expect_row : (inner : ℕ) → q ≡ Some inner → Expects sorts expected form (Ok (Some inner))
    expect_row inner f l h = sym (
        ap (in_sort l) e
        ∙ inner-found (inside_of form (at (tables_of l).sorts row)) inner (found-row (inside_of form (at (tables_of l).sorts row)) q inner (inside l h) f))

    pub expect_none : q ≡ None → Expects sorts expected form (Err UnknownLiteral)
    expect_none f l h = sym (
        ap (in_sort l) e
        ∙ inner_missing (inside_of form (at (tables_of l).sorts row)) (found_none (inside_of form (at (tables_of l).sorts row)) q (inside l h) f))

-- none and the empty set, where the row is of the form
bare_option : (row : ℕ) (o : Option ℕ) → bare_answer Form.Option row (found_as o) ≡ answer (found InvalidOptionType o >>= λ q. Ok (lit row v_none))
unfolding ◌>>=◌
bare_option row None = refl
bare_option row (Some q) = same-value row 4 (need v_none) false false (need-is v_none 4 4 (omega arith) refl length_none) refl

bare_set : (row : ℕ) (o : Option ℕ) → bare_answer Form.Set row (found_as o) ≡ answer (found InvalidSetType o >>= λ q. Ok (lit row (v_set v_nil)))
unfolding ◌>>=◌
bare_set row None = refl
bare_set row (Some q) = same-value row 2 (need (v_set v_nil)) true true (need-is (v_set v_nil) 2 2 (omega arith) refl (length-set v_nil)) refl

pub bare-row : (form : Form) (row : ℕ) (inside : Option ℕ) (q : ℕ) → inside ≡ Some q → bare_answer form row (Some q) ≡ bare_answer form row inside
bare-row form row inside q e = ap (bare_answer form row) (sym e)

pub bare_missing : (form : Form) (row : ℕ) (inside : Option ℕ) → inside ≡ None → bare_answer form row None ≡ bare_answer form row inside
bare_missing form row inside e = ap (bare_answer form row) (sym e)

module _ (sorts : List ℕ) (row : ℕ) (form : Form) (q : Option ℕ) (inside : InsideRow sorts row form q) (r : Result Literal Refusal) where
  pub bare-none : form ≡ Form.Option → r ≡ bare_answer Form.Option row q → BareOf sorts row form r
  bare-none f k l h =
      let o = at (tables_of l).sorts row in
      let p : q ≡ found_as (option_in o) = inside l h ∙ ap (λ (x : Form). found_as (inside_of x o)) f in
      k ∙ ap (bare_answer Form.Option row) p ∙ bare_option row (option_in o) ∙ sym (ap (λ (x : Form). answer (bare_lit (tables_of l) x row)) f)

  pub bare-empty : form ≡ Form.Set → r ≡ bare_answer Form.Set row q → BareOf sorts row form r
  bare-empty f k l h =
      let o = at (tables_of l).sorts row in
      let p : q ≡ found_as (set_in o) = inside l h ∙ ap (λ (x : Form). found_as (inside_of x o)) f in
      k ∙ ap (bare_answer Form.Set row) p ∙ bare_set row (set_in o) ∙ sym (ap (λ (x : Form). answer (bare_lit (tables_of l) x row)) f)

-- what is made of the one literal inside
module _ (sorts : List ℕ) (a : Result Literal Refusal) (step : Then) where
  abbrev after : Lent → Then → Result Lit Refusal → Result Literal Refusal
  after l x m = answer (m >>= λ k. then_lit (tables_of l) x k)

  pub finish-refused : (z : Refusal) → a ≡ Err z → Finishes sorts a step (Err z)
  unfolding ◌>>=◌
  finish-refused z e l h m g = sym (ap (after l step) (refused-told m a z e g))

  module _ (row long : ℕ) (is_set : Bool) (e : a ≡ Ok (record { row = row; need = long; is_set = is_set })) (n : ℕ) (r : Result Literal Refusal) where
    -- the step, on what was read
    step-on : (l : Lent) (m : Result Lit Refusal) (x : Then) → step ≡ x → (w : Told m row long is_set) → answer (then_lit (tables_of l) x w.one) ≡ after l step m
    unfolding ◌>>=◌
    step-on l m x f w = sym (ap (after l step) w.read ∙ ap (λ (y : Then). answer (then_lit (tables_of l) y w.one)) f)

    -- some(a) of the literal's row
    some-value : n ≡ capped (long + 6) → ValueOf sorts (Wanted.Option row) n false r →
        (l : Lent) → l.sorts ≡ sorts → (m : Result Lit Refusal) (w : Told m row long is_set) → r ≡ answer (some_lit (tables_of l) w.one)
    some-value c k l h m w =
        k l h (v_some w.one.value) (need-more w.one.value (v_some w.one.value) n long 6 c w.size (length_some w.one.value)) refl
        ∙ ap (λ (i : ℕ). answer (lit_of (tables_of l) (option_of i) (v_some w.one.value))) w.sort

    pub finish-some : n ≡ capped (long + 6) → step ≡ Then.Some → ValueOf sorts (Wanted.Option row) n false r → Finishes sorts a step r
    finish-some c f k l h m g =
        let w = value-told m a row long is_set e g in
        some-value c k l h m w ∙ step-on l m Then.Some f w

    pub finish_as : n ≡ capped (long + 6) → (wanted : ℕ) → step ≡ Then.SomeAs wanted → ValueOf sorts (Wanted.Option row) n false r → (b : Result Literal Refusal) → Matches r wanted b → Finishes sorts a step b
    finish_as c wanted f k b t l h m g =
        let w = value-told m a row long is_set e g in
        t (some_lit (tables_of l) w.one) (some-value c k l h m w) ∙ step-on l m (Then.SomeAs wanted) f w

    pub finish-single : n ≡ capped (long + 2) → step ≡ Then.Singleton → ValueOf sorts (Wanted.Set row) n true r → Finishes sorts a step r
    finish-single c f k l h m g =
        let w = value-told m a row long is_set e g in
        k l h (v_set (v_cons w.one.value v_nil)) (need-single w.one.value n long c w.size) refl
        ∙ ap (λ (i : ℕ). answer (lit_of (tables_of l) (set_of i) (v_set (v_cons w.one.value v_nil)))) w.sort
        ∙ step-on l m Then.Singleton f w

pub finishes_of : (sorts : List ℕ) (a : Result Literal Refusal) (it : Literal) (step : Then) (r : Result Literal Refusal) → a ≡ Ok it → Finishes sorts (Ok it) step r → Finishes sorts a step r
finishes_of sorts a it step r e h = subst (λ (x : Result Literal Refusal). Finishes sorts x step r) (sym e) h
