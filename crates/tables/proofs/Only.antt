-- On tables that pass the check a row found has the name or the sort asked for, and no other row has it.
-- Assumes nothing.
use Rattle.std.proofs.Common.{Some}
use mathlib.Core.Path.{◌≡◌, sym, ap, ◌∙◌}
use mathlib.Core.Bool.{true}
use mathlib.Core.List.{List}
use Prim.Native.Nat.{ℕ}
use Rattle.ground.specs.Lists.{distinct, find, at}
use Rattle.arena.specs.Text.{same_text}
use Rattle.arena.proofs.Texts.{same_refl, same-equal}
use Rattle.tables.specs.Sort.{Sort, entity_of, Variable, Function, Member, Tables}
use Rattle.tables.specs.Rules.{identity}
use Rattle.tables.specs.Find.{sort_row, named_sort, variable_row, function_row, member_row}
use Rattle.tables.proofs.Places.{find-passes, find-only}
use Rattle.tables.proofs.Lawful.{Lawful}

-- what is known by a text: a name, or what tells a sort from the others
module _ {A : Type 0} (text : A → List ℕ) (asked : List ℕ) (xs : List A) (i : ℕ) (e : find (λ x. same_text asked (text x)) xs ≡ Some i) where
  joins : (x y : A) → same_text asked (text x) ≡ true → same_text asked (text y) ≡ true → same_text (text x) (text y) ≡ true
  joins x y p q =
      let g : text x ≡ text y = sym (same-equal asked (text x) p) ∙ same-equal asked (text y) q in
      ap (λ (s : List ℕ). same_text (text x) s) (sym g) ∙ same_refl (text x)

  pub text-only : distinct (λ x y. same_text (text x) (text y)) xs ≡ true → (j : ℕ) (y : A) → at xs j ≡ Some y → text y ≡ asked → i ≡ j
  text-only d j y h g =
      find-only (λ x. same_text asked (text x)) (λ x y. same_text (text x) (text y)) joins xs i j y d e h
      (ap (λ (s : List ℕ). same_text asked s) g ∙ same_refl asked)

  pub text-found : (x : A) × (at xs i ≡ Some x) × (text x ≡ asked)
  text-found =
      let f = find-passes (λ x. same_text asked (text x)) xs i e in
      (f.0, f.1, sym (same-equal asked (text f.0) f.2))

module _ (t : Tables) (i : ℕ) where
  module _ (s : Sort) (e : sort_row t s ≡ Some i) where
    pub sort-found : (r : Sort) × (at t.sorts i ≡ Some r) × (identity r ≡ identity s)
    unfolding sort_row
    sort-found = text-found identity (identity s) t.sorts i e

    pub sort-only : Lawful t → (j : ℕ) (r : Sort) → at t.sorts j ≡ Some r → identity r ≡ identity s → i ≡ j
    unfolding sort_row
    sort-only h j r g q = text-only identity (identity s) t.sorts i e h.apart j r g q

  module _ (name : List ℕ) where
    pub named-only : named_sort t name ≡ Some i → Lawful t → (j : ℕ) (r : Sort) → at t.sorts j ≡ Some r → identity r ≡ identity (entity_of name) → i ≡ j
    unfolding named_sort
    named-only e h j r g q = sort-only (entity_of name) e h j r g q

    pub variable-found : variable_row t name ≡ Some i → (v : Variable) × (at t.variables i ≡ Some v) × (v.name ≡ name)
    unfolding variable_row
    variable-found e = text-found (λ v. v.name) name t.variables i e

    pub variable-only : variable_row t name ≡ Some i → Lawful t → (j : ℕ) (v : Variable) → at t.variables j ≡ Some v → v.name ≡ name → i ≡ j
    unfolding variable_row
    variable-only e h j v g q = text-only (λ v. v.name) name t.variables i e h.variables.apart j v g q

    pub function-found : function_row t name ≡ Some i → (f : Function) × (at t.functions i ≡ Some f) × (f.name ≡ name)
    unfolding function_row
    function-found e = text-found (λ f. f.name) name t.functions i e

    pub function-only : function_row t name ≡ Some i → Lawful t → (j : ℕ) (f : Function) → at t.functions j ≡ Some f → f.name ≡ name → i ≡ j
    unfolding function_row
    function-only e h j f g q = text-only (λ f. f.name) name t.functions i e h.functions.apart j f g q

    pub member-found : member_row t name ≡ Some i → (m : Member) × (at t.members i ≡ Some m) × (m.name ≡ name)
    unfolding member_row
    member-found e = text-found (λ m. m.name) name t.members i e

    pub member-only : member_row t name ≡ Some i → Lawful t → (j : ℕ) (m : Member) → at t.members j ≡ Some m → m.name ≡ name → i ≡ j
    unfolding member_row
    member-only e h j m g q = text-only (λ m. m.name) name t.members i e h.members.apart j m g q
