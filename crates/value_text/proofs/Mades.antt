-- A name is an entity's or a record's: by its row, and no other row is a name's.
-- Assumes nothing.
use Rattle.std.proofs.Common.{None, Option, Some}
use mathlib.Core.Path.{◌≡◌, refl, sym, ap, ◌∙◌, subst}
use mathlib.Core.Bool.{Bool, true, false, true≢false}
use mathlib.Core.List.{List, [], ◌∷◌}
use mathlib.Core.Logic.{inl, inr}
use Prim.Native.Nat.{ℕ}
use native.Mathlib.Omega.{arith}
use types.Run.{OneOf, miss}
use denote.Enum.Declared.{tag_of}
use Rattle.ground.specs.Lists.{at}
use Rattle.tables.specs.declared.sort.SortRow.{SortRow}
use Rattle.tables.specs.Find.{named_sort}
use Rattle.tables.specs.Layout.{Lent, part, name_at, tables_of}
use Rattle.tables.specs.Lookup.{FindsNamed}
use Rattle.tables.specs.Sort.{Sort, bool, string, ext, bit_vec, option_of, set_of, entity_of, record_of}
use Rattle.tables.specs.View.{sort_row_at, meant}
use Rattle.tables.proofs.Sorts.{row-meant}
use Rattle.tables.specs.contracts.sort.SortRow as RowType
use Rattle.forms.proofs.Leaves.{found-row, found_none}
use Rattle.well_sorted.proofs.Finds.{IsNamed, named-is}
use Rattle.value_text.specs.declared.made.Made.{Made}
use Rattle.value_text.specs.Made.{RowIs, MadeRow, MadeOf}

abbrev named : Option Sort → Bool
named None = false
named (Some bool) = false
named (Some string) = false
named (Some (ext e)) = false
named (Some (bit_vec w)) = false
named (Some (option_of q)) = false
named (Some (set_of q)) = false
named (Some (entity_of name)) = true
named (Some (record_of name fs)) = true

is-named : (name : List ℕ) (s : Sort) → IsNamed name s → named (Some s) ≡ true
is-named name s (inl e) = ap (λ (x : Sort). named (Some x)) e
is-named name s (inr (fs, e)) = ap (λ (x : Sort). named (Some x)) e

abbrev nameless : SortRow → Bool
nameless SortRow.Bool = true
nameless SortRow.String = true
nameless SortRow.Decimal = true
nameless SortRow.Datetime = true
nameless SortRow.Duration = true
nameless (SortRow.BitVec width) = true
nameless (SortRow.Option row) = true
nameless (SortRow.Set row) = true
nameless SortRow.Entity = false
nameless (SortRow.Record first size) = false
nameless SortRow.NoRow = true

nameless_else : (s : SortRow) → OneOf (0 ∷ 1 ∷ 2 ∷ 3 ∷ 4 ∷ 5 ∷ 6 ∷ 7 ∷ 10 ∷ []) (tag_of RowType.the_type s) → nameless s ≡ true
nameless_else SortRow.Bool h = refl
nameless_else SortRow.String h = refl
nameless_else SortRow.Decimal h = refl
nameless_else SortRow.Datetime h = refl
nameless_else SortRow.Duration h = refl
nameless_else (SortRow.BitVec width) h = refl
nameless_else (SortRow.Option row) h = refl
nameless_else (SortRow.Set row) h = refl
nameless_else SortRow.Entity h = absurd (miss (0 ∷ 1 ∷ 2 ∷ 3 ∷ 4 ∷ 5 ∷ 6 ∷ 7 ∷ 10 ∷ []) 8 tt h)
nameless_else (SortRow.Record first size) h = absurd (miss (0 ∷ 1 ∷ 2 ∷ 3 ∷ 4 ∷ 5 ∷ 6 ∷ 7 ∷ 10 ∷ []) 9 tt h)
nameless_else SortRow.NoRow h = refl

meant-nameless : (l : Lent) (i : ℕ) (s : SortRow) → nameless s ≡ true → named (meant l i s) ≡ false
meant-nameless l i SortRow.Bool h = refl
meant-nameless l i SortRow.String h = refl
meant-nameless l i SortRow.Decimal h = refl
meant-nameless l i SortRow.Datetime h = refl
meant-nameless l i SortRow.Duration h = refl
meant-nameless l i (SortRow.BitVec width) h = refl
meant-nameless l i (SortRow.Option row) h = refl
meant-nameless l i (SortRow.Set row) h = refl
meant-nameless l i SortRow.Entity h = absurd (true≢false (sym h))
meant-nameless l i (SortRow.Record first size) h = absurd (true≢false (sym h))
meant-nameless l i SortRow.NoRow h = refl

module _ (sorts : List ℕ) (row : ℕ) (q : SortRow) (there : q ≡ sort_row_at sorts row) where
  meaning : (l : Lent) → l.sorts ≡ sorts → at (tables_of l).sorts row ≡ meant l row q
  meaning l e = row-meant l row ∙ ap (λ (ws : List ℕ). meant l row (sort_row_at ws row)) e ∙ ap (meant l row) (sym there)

  pub made-nameless : OneOf (0 ∷ 1 ∷ 2 ∷ 3 ∷ 4 ∷ 5 ∷ 6 ∷ 7 ∷ 10 ∷ []) (tag_of RowType.the_type q) → MadeRow sorts row Made.NoName
  made-nameless h l e name f =
      let n = named-is (tables_of l) row name f in
      absurd (true≢false (sym (is-named name n.0 n.2) ∙ ap named (sym n.1 ∙ meaning l e) ∙ meant-nameless l row q (nameless_else q h)))

  pub made-entity : q ≡ SortRow.Entity → MadeRow sorts row (Made.Entity row)
  made-entity h l e = (refl, (name_at l.names l.sorts row, meaning l e ∙ ap (meant l row) h))

  pub made_record : (first size : ℕ) → q ≡ SortRow.Record first size → MadeRow sorts row (Made.Record row)
  made_record first size h l e = (refl, (name_at l.names l.sorts row, (part l.fields first size, meaning l e ∙ ap (meant l row) h)))

module _ (sorts names name : List ℕ) (q : Option ℕ) (found : FindsNamed sorts names name q) where
  pub made_found : (row : ℕ) → q ≡ Some row → (r : Made) → MadeRow sorts row r → MadeOf sorts names name r
  made_found row e r h l s n i f =
      let o : Some row ≡ Some i = sym (found-row (named_sort (tables_of l) name) q row (found l s n) e) ∙ f in
      let z : row ≡ i = cc in
      subst (λ (j : ℕ). RowIs (tables_of l) j r) z (h l s)

  pub made_missing : q ≡ None → (r : Made) → MadeOf sorts names name r
  made_missing e r l s n i f =
      let o : None ≡ Some i = sym (found_none (named_sort (tables_of l) name) q (found l s n) e) ∙ f in
      let z : ◌≡◌ {A = ℕ} 0 1 = cc in
      absurd (omega arith)
