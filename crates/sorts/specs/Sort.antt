-- Document 01, "Sorts and literals": the row that a written sort stands for, 7, 8, 14, 23 and 24.
use Rattle.std.specs.Prelude.{cond, List, ℕ, zero, suc, ◌^◌, ltb, Err, Result}
use Rattle.refusals.specs.declared.Refusal.TheVariants.{IntegerOverflow, ZeroWidthBitVec, UnknownType, NoSortRow, TooNested}
use Rattle.arena.specs.Tree.{Tree}
use Rattle.tables.specs.Sort.{decimal, datetime, duration, Sort, bool, string, ext, bit_vec, option_of, set_of, Tables}
use Rattle.tables.specs.Find.{sort_row, named_sort}
use Rattle.shapes.specs.Shape.{is}
use Rattle.shapes.specs.SortShape.{SortShape, word, width_of, option_of as option_shape, set_of as set_shape, no_sort, sort_shape}
use Rattle.sorts.specs.Result.{◌>>=◌, unless, found}
use Rattle.refusals.specs.declared.Refusal.{Refusal}

module _ (T : Tables) where
  -- a sort met or formed without a row is 23
  abbrev pub row_of : Sort → Result ℕ Refusal
  row_of s = found NoSortRow (sort_row T s)

  abbrev pub sort_word : List ℕ → Result ℕ Refusal
  sort_word s =
      cond (is s "Bool") (row_of bool)
      (cond (is s "String") (row_of string)
      (cond (is s "Decimal") (row_of (ext decimal))
      (cond (is s "Datetime") (row_of (ext datetime))
      (cond (is s "Duration") (row_of (ext duration))
      (found UnknownType (named_sort T s))))))

  -- (_ BitVec n): over 2^32-1 is 7, 0 is 8
  abbrev pub sort_width : ℕ → Result ℕ Refusal
  sort_width n = unless (ltb n (2 ^ 32)) IntegerOverflow (unless (ltb 0 n) ZeroWidthBitVec (row_of (bit_vec n)))

  -- a shape, where a sort one level below is read by the rule that is given
  abbrev pub sort_of : (Tree → Result ℕ Refusal) → SortShape → Result ℕ Refusal
  sort_of below (word s) = sort_word s
  sort_of below (width_of n) = sort_width n
  sort_of below (option_shape t) = below t >>= λ row. row_of (option_of row)
  sort_of below (set_shape t) = below t >>= λ row. row_of (set_of row)
  sort_of below no_sort = Err UnknownType

  -- the allowance is how many levels may still be read, this one among them
  unfoldable pub read_sort : ℕ → Tree → Result ℕ Refusal
  read_sort zero t = Err TooNested
  read_sort (suc allow) t = sort_of (λ u. read_sort allow u) (sort_shape t)

-- the outermost one read, and 1,023 levels below it
abbrev pub levels : ℕ
levels = 1024
