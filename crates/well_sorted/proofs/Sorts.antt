-- The row of a sort that is read is there.
-- Assumes nothing.
use Rattle.std.proofs.Common.{Some, Ok, Result}
use mathlib.Core.Path.{◌≡◌}
use mathlib.Core.Bool.{Bool, true, false, cond}
use mathlib.Core.List.{List}
use Prim.Native.Nat.{ℕ, zero, suc, ◌<◌}
use lib.ListN.{length}
use Rattle.ground.specs.Lists.{at}
use Rattle.refusals.specs.declared.Refusal.TheVariants.{IntegerOverflow, ZeroWidthBitVec, UnknownType, NoSortRow}
use Rattle.arena.specs.Tree.{Tree}
use Rattle.tables.specs.Sort.{decimal, datetime, duration, Sort, bool, string, ext, bit_vec, option_of, set_of, Tables}
use Rattle.tables.specs.Find.{sort_row, named_sort}
use Rattle.tables.proofs.Only.{sort-found}
use Rattle.shapes.specs.Shape.{is}
use Rattle.shapes.specs.SortShape.{SortShape, word, width_of, option_of as option_shape, set_of as set_shape, no_sort, sort_shape}
use Rattle.sorts.specs.Sort.{row_of, sort_word, sort_width, sort_of, read_sort}
use Rattle.well_sorted.proofs.Results.{refuses, went, passed, was-found}
use Rattle.well_sorted.proofs.Finds.{at-within, named-is}
use Rattle.refusals.specs.declared.Refusal.{Refusal}

abbrev pub There : Tables → ℕ → Type 0
There T row = (s : Sort) × (at T.sorts row ≡ Some s)

pub there-within : (T : Tables) (row : ℕ) → There T row → row < length T.sorts
there-within T row h = at-within T.sorts row h.0 h.1

module _ (T : Tables) (row : ℕ) where
  pub row-there : (s : Sort) → row_of T s ≡ Ok row → There T row
  row-there s e = let f = sort-found T row s (was-found NoSortRow (sort_row T s) row e) in (f.0, f.1)

  pub named-there : (name : List ℕ) → named_sort T name ≡ Some row → There T row
  named-there name e = let f = named-is T row name e in (f.0, f.1)

  chosen : (test : Bool) (m n : Result ℕ Refusal) → (m ≡ Ok row → There T row) → (n ≡ Ok row → There T row) → cond test m n ≡ Ok row → There T row
  chosen true m n f g e = f e
  chosen false m n f g e = g e

  word-there : (s : List ℕ) → sort_word T s ≡ Ok row → There T row
  word-there s =
      chosen (is s "Bool") _ _ (row-there bool)
      (chosen (is s "String") _ _ (row-there string)
      (chosen (is s "Decimal") _ _ (row-there (ext decimal))
      (chosen (is s "Datetime") _ _ (row-there (ext datetime))
      (chosen (is s "Duration") _ _ (row-there (ext duration))
      (λ e. named-there s (was-found UnknownType (named_sort T s) row e))))))

  width-there : (n : ℕ) → sort_width T n ≡ Ok row → There T row
  width-there n e = row-there (bit_vec n) (passed _ ZeroWidthBitVec _ row (passed _ IntegerOverflow _ row e).1).1

  shape-there : (below : Tree → Result ℕ Refusal) (s : SortShape) → sort_of T below s ≡ Ok row → There T row
  shape-there below (word s) e = word-there s e
  shape-there below (width_of n) e = width-there n e
  shape-there below (option_shape t) e = let w = went _ _ row e in row-there (option_of w.got) w.next
  shape-there below (set_shape t) e = let w = went _ _ row e in row-there (set_of w.got) w.next
  shape-there below no_sort e = refuses e

  pub sort-there : (allow : ℕ) (t : Tree) → read_sort T allow t ≡ Ok row → There T row
  unfolding read_sort
  sort-there zero t e = refuses e
  sort-there (suc a) t e = shape-there (λ u. read_sort T a u) (sort_shape t) e

  pub sort-within : (allow : ℕ) (t : Tree) → read_sort T allow t ≡ Ok row → row < length T.sorts
  sort-within allow t e = there-within T row (sort-there allow t e)
