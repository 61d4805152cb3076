-- What stands at a row that was found.
-- Assumes nothing.
use Rattle.std.proofs.Common.{Some, Ok}
use mathlib.Core.Path.{◌≡◌, refl, sym, ap, ◌∙◌}
use mathlib.Core.Bool.{Bool, true, false, cond, true≢false}
use mathlib.Core.List.{List, [], ◌∷◌}
use mathlib.Core.Logic.{◌⊎◌, inl, inr}
use Prim.Native.Nat.{ℕ, zero, suc, ◌<◌}
use native.Mathlib.Omega.{arith}
use lib.Dec.{eqb}
use lib.ListN.{length, get_or, drop}
use Rattle.ground.specs.Lists.{at}
use Rattle.tables.specs.Sort.{decimal, datetime, duration, Sort, bool, string, ext, bit_vec, option_of, set_of, entity_of, record_of, Tables}
use Rattle.tables.specs.Rules.{identity}
use Rattle.tables.specs.Find.{sort_row, named_sort}
use Rattle.tables.proofs.Places.{none-some}
use Rattle.tables.proofs.Only.{sort-found}
use Rattle.refusals.specs.declared.Refusal.TheVariants.{NoSortRow}
use Rattle.sorts.specs.Sort.{row_of}
use Rattle.well_sorted.proofs.Results.{was-found}

pub at-within : {A : Type 0} (xs : List A) (i : ℕ) (x : A) → at xs i ≡ Some x → i < length xs
unfolding at
at-within [] i x e = absurd (none-some e)
at-within (y ∷ ys) zero x e = omega arith
at-within (y ∷ ys) (suc i) x e = let h = at-within ys i x e in omega arith

-- what tells a row from the others, read back: the name alone of a row that has one
back : List ℕ → Sort
back w =
    let k = get_or w 0 0 in
    cond (eqb k 1) bool
    (cond (eqb k 2) string
    (cond (eqb k 3) (ext decimal)
    (cond (eqb k 4) (ext datetime)
    (cond (eqb k 5) (ext duration)
    (cond (eqb k 6) (bit_vec (get_or w 1 0))
    (cond (eqb k 7) (option_of (get_or w 1 0))
    (cond (eqb k 8) (set_of (get_or w 1 0))
    (entity_of (drop 1 w)))))))))

-- the row, or the entity of its name
abbrev plain : Sort → Sort
plain bool = bool
plain string = string
plain (ext e) = ext e
plain (bit_vec w) = bit_vec w
plain (option_of q) = option_of q
plain (set_of q) = set_of q
plain (entity_of name) = entity_of name
plain (record_of name fs) = entity_of name

backs : (s : Sort) → back (identity s) ≡ plain s
unfolding back
backs bool = refl
backs string = refl
backs (ext decimal) = refl
backs (ext datetime) = refl
backs (ext duration) = refl
backs (bit_vec w) = refl
backs (option_of q) = refl
backs (set_of q) = refl
backs (entity_of name) = refl
backs (record_of name fs) = refl

tells : (r s : Sort) → identity r ≡ identity s → plain r ≡ plain s
tells r s e = sym (backs r) ∙ ap back e ∙ backs s

abbrev pub nameless : Sort → Bool
nameless bool = true
nameless string = true
nameless (ext e) = true
nameless (bit_vec w) = true
nameless (option_of q) = true
nameless (set_of q) = true
nameless (entity_of name) = false
nameless (record_of name fs) = false

-- an entity or a record of the name
abbrev pub IsNamed : List ℕ → Sort → Type 0
IsNamed name s = (s ≡ entity_of name) ⊎ ((fs : List ℕ) × (s ≡ record_of name fs))

plain_self : (s : Sort) → nameless s ≡ true → plain s ≡ s
plain_self bool h = refl
plain_self string h = refl
plain_self (ext e) h = refl
plain_self (bit_vec w) h = refl
plain_self (option_of q) h = refl
plain_self (set_of q) h = refl
plain_self (entity_of name) h = absurd (true≢false (sym h))
plain_self (record_of name fs) h = absurd (true≢false (sym h))

same-plain : (r s : Sort) → nameless s ≡ true → plain r ≡ s → r ≡ s
same-plain bool s h e = e
same-plain string s h e = e
same-plain (ext x) s h e = e
same-plain (bit_vec w) s h e = e
same-plain (option_of q) s h e = e
same-plain (set_of q) s h e = e
same-plain (entity_of name) s h e = e
same-plain (record_of name fs) s h e = absurd (true≢false (sym (ap nameless e ∙ h)))

entity-name : (a b : List ℕ) → entity_of a ≡ entity_of b → a ≡ b
entity-name a b e = cc

same_name : (r : Sort) (name : List ℕ) → plain r ≡ entity_of name → IsNamed name r
same_name bool name e = inl e
same_name string name e = inl e
same_name (ext x) name e = inl e
same_name (bit_vec w) name e = inl e
same_name (option_of q) name e = inl e
same_name (set_of q) name e = inl e
same_name (entity_of a) name e = inl e
same_name (record_of a fs) name e = inr (fs, ap (λ (n : List ℕ). record_of n fs) (entity-name a name e))

module _ (T : Tables) (row : ℕ) where
  pub sort-is : (s : Sort) → nameless s ≡ true → sort_row T s ≡ Some row → at T.sorts row ≡ Some s
  sort-is s h e =
      let f = sort-found T row s e in
      f.1 ∙ ap (λ (r : Sort). Some r) (same-plain f.0 s h (tells f.0 s f.2 ∙ plain_self s h))

  pub named-is : (name : List ℕ) → named_sort T name ≡ Some row → (s : Sort) × (at T.sorts row ≡ Some s) × IsNamed name s
  unfolding named_sort
  named-is name e =
      let f = sort-found T row (entity_of name) e in
      (f.0, f.1, same_name f.0 name (tells f.0 (entity_of name) f.2))

  -- the row of a sort without a name
  pub row_is : (s : Sort) → nameless s ≡ true → row_of T s ≡ Ok row → at T.sorts row ≡ Some s
  row_is s h e = sort-is s h (was-found NoSortRow (sort_row T s) row e)
