-- (NAME ..): an entity or a record by NAME's row, and no other row's name is read.
-- Assumes nothing.
use Rattle.std.proofs.Common.{None, Option, Some, Ok}
use mathlib.Core.Path.{◌≡◌, refl, sym, ap, ◌∙◌, subst}
use mathlib.Core.Bool.{true}
use mathlib.Core.List.{List, [], ◌∷◌}
use Prim.Native.Nat.{ℕ}
use native.Mathlib.Omega.{arith}
use types.Run.{OneOf, miss}
use denote.Enum.Declared.{tag_of}
use Rattle.ground.specs.Lists.{at}
use Rattle.refusals.specs.declared.Refusal.TheVariants.{UnknownLiteral, UnmatchedRecordType}
use Rattle.arena.specs.Text.{text_at}
use Rattle.arena.specs.Tree.{Trees, string as quoted, nil}
use Rattle.tables.specs.declared.sort.SortRow.{SortRow}
use Rattle.tables.specs.Find.{named_sort}
use Rattle.tables.specs.Layout.{Lent, part, tables_of}
use Rattle.tables.specs.Lookup.{FindsNamed}
use Rattle.tables.specs.Sort.{Sort}
use Rattle.tables.specs.View.{sort_row_at, meant}
use Rattle.tables.proofs.Sorts.{row-meant}
use Rattle.tables.specs.contracts.sort.SortRow as RowType
use Rattle.shapes.specs.Shows.{StandingAll}
use Rattle.shapes.proofs.Stood.{first_of}
use Rattle.sorts.specs.Sort.{read_sort}
use Rattle.values.specs.Value.{Value}
use Rattle.tables.proofs.Places.{some_one}
use Rattle.means.specs.Literal.{Lit, made_row, read_with}
use Rattle.well_sorted.proofs.Results.{refuses, ok_same, went, passed, was-found}
use Rattle.forms.specs.declared.form.Form.{Form}
use Rattle.forms.specs.Form.{Says, RowForm, MadeForm}
use Rattle.forms.specs.Leaf.{EntityForm}
use Rattle.forms.proofs.Arms.{is-entity, listed}
use Rattle.forms.proofs.Leaves.{found-row, found_none}
use Rattle.forms.proofs.Parts.{settled_in}

-- the arguments, where the row's sort is this
abbrev Made : Lent → ℕ → Trees → Lit → ℕ → Option Sort → Type 0
Made l below us k row o = made_row (tables_of l) (λ t. read_sort (tables_of l) below t) (λ e u. read_with (tables_of l) true below e u) row o us ≡ Ok k

module _ (sorts ws : List ℕ) (row first many : ℕ) (q : SortRow) (there : q ≡ sort_row_at sorts row) where
  meaning : (l : Lent) → l.sorts ≡ sorts → at (tables_of l).sorts row ≡ meant l row q
  meaning l e = row-meant l row ∙ ap (λ (ws : List ℕ). meant l row (sort_row_at ws row)) e ∙ ap (meant l row) (sym there)

  pub row-entity : q ≡ SortRow.Entity → (r : Form) → EntityForm ws row first r → RowForm sorts ws row first many r
  row-entity e r f l h us ts s ms names below i k m b st =
      let z = is-entity (tables_of l) below None k row us (subst (Made l below us k row) (meaning l h ∙ ap (meant l row) e) m) in
      let p = first_of ws ts (quoted z.0) nil first many (subst (λ (y : Trees). StandingAll y ws ts first many) z.1 s) in
      subst (λ (v : Value). Says (tables_of l) ms ws ts names below i s.next v r) (sym z.2) (f ts z.0 p names (tables_of l) ms ws below i s.next)

  pub row_record : (a size : ℕ) → q ≡ SortRow.Record a size → RowForm sorts ws row first many (Form.Record row first many)
  row_record a size e l h us ts s ms names below i k m b st =
      let z = passed _ UnmatchedRecordType _ k (subst (Made l below us k row) (meaning l h ∙ ap (meant l row) e) m) in
      let w = went _ _ k z.1 in
      record {
        trees = us;
        fields = w.got;
        there = s;
        behind = b;
        to_last = refl;
        reads = listed (tables_of l) below (part l.fields a size) us w.got z.0 w.first;
        settled = settled_in (tables_of l) ms ws ts i s.next first s.next st (omega arith) (omega arith);
        is = ap (λ (x : Lit). x.value) (sym (ok_same w.next));
      }

  pub row_other : OneOf (0 ∷ 1 ∷ 2 ∷ 3 ∷ 4 ∷ 5 ∷ 6 ∷ 7 ∷ 10 ∷ []) (tag_of RowType.the_type q) → RowForm sorts ws row first many Form.NoForm
  row_other o l h us ts s ms names below i k m b st = go q o (subst (Made l below us k row) (meaning l h) m)
    where
      go : (q : SortRow) → OneOf (0 ∷ 1 ∷ 2 ∷ 3 ∷ 4 ∷ 5 ∷ 6 ∷ 7 ∷ 10 ∷ []) (tag_of RowType.the_type q) → Made l below us k row (meant l row q) → ⊥
      go SortRow.Bool h m = refuses m
      go SortRow.String h m = refuses m
      go SortRow.Decimal h m = refuses m
      go SortRow.Datetime h m = refuses m
      go SortRow.Duration h m = refuses m
      go (SortRow.BitVec width) h m = refuses m
      go (SortRow.Option row) h m = refuses m
      go (SortRow.Set row) h m = refuses m
      go SortRow.Entity h m = miss (0 ∷ 1 ∷ 2 ∷ 3 ∷ 4 ∷ 5 ∷ 6 ∷ 7 ∷ 10 ∷ []) 8 tt h
      go (SortRow.Record first size) h m = miss (0 ∷ 1 ∷ 2 ∷ 3 ∷ 4 ∷ 5 ∷ 6 ∷ 7 ∷ 10 ∷ []) 9 tt h
      go SortRow.NoRow h m = refuses m

-- where NAME is the text there
module _ (sorts names ws ts : List ℕ) (offset size first many : ℕ) (slice : List ℕ) (is : slice ≡ text_at ts offset size) (q : Option ℕ) (found : FindsNamed sorts names slice q) where
  pub made_found : (row : ℕ) → q ≡ Some row → (r : Form) → RowForm sorts ws row first many r → MadeForm sorts names ws ts offset size first many r
  made_found row e r h l p n f us d s ms below i x k m b st =
      let w = went _ _ k m in
      let o = found-row (named_sort (tables_of l) slice) q row (found l p n) e in
      let z : w.got ≡ row = some_one (sym (was-found UnknownLiteral (named_sort (tables_of l) f) w.got w.first) ∙ ap (named_sort (tables_of l)) (sym d.bytes ∙ sym is) ∙ o) in
      h l p us ts s ms names below i k (subst (λ (j : ℕ). Made l below us k j (at (tables_of l).sorts j)) z w.next) b st

  pub made_missing : q ≡ None → MadeForm sorts names ws ts offset size first many Form.NoForm
  made_missing e l p n f us d s ms below i x k m b st =
      let w = went _ _ k m in
      let o = found_none (named_sort (tables_of l) slice) q (found l p n) e in
      let z : ◌≡◌ {A = Option ℕ} (Some w.got) None = sym (was-found UnknownLiteral (named_sort (tables_of l) f) w.got w.first) ∙ ap (named_sort (tables_of l)) (sym d.bytes ∙ sym is) ∙ o in
      let y : ◌≡◌ {A = ℕ} 0 1 = cc in
      absurd (omega arith)
