-- The row of a sort, and of a word or a width that stands for one.
-- Assumes nothing.
use Rattle.std.proofs.Common.{None, Option, Some, Err, Ok, Result}
use mathlib.Core.Path.{◌≡◌, refl, sym, ap, ◌∙◌, subst}
use mathlib.Core.Bool.{Bool, true, false}
use mathlib.Core.List.{List}
use Prim.Native.Nat.{ℕ, ◌+◌, ◌*◌, ◌^◌, ◌<◌, ◌≤◌}
use Prim.Native.String.{String}
use native.Mathlib.Omega.{arith}
use borrow.Author.Tests.{lt-ltb, le-ltb}
use Rattle.ground.specs.Bytes.{bytes}
use Rattle.refusals.specs.declared.Refusal.{Refusal}
use Rattle.refusals.specs.declared.Refusal.TheVariants.{IntegerOverflow, ZeroWidthBitVec, UnknownType, NoSortRow}
use Rattle.arena.specs.Text.{same_text}
use Rattle.tables.specs.declared.sort.Wanted.{Wanted}
use Rattle.tables.specs.Layout.{tables_of}
use Rattle.tables.specs.Find.{found as found_as, sort_row, named_sort}
use Rattle.tables.specs.Lookup.{FindsSort, FindsNamed}
use Rattle.tables.specs.View.{sort_wanted}
use Rattle.sorts.specs.Result.{found, unless}
use Rattle.sorts.specs.Sort.{sort_width}
use Rattle.sorts.specs.Reads.{sorted, RowOf, WordSort, WidthSort}

pub is_row : (o : Option ℕ) (q : Option ℕ) (row : ℕ) (e : Refusal) → q ≡ found_as o → q ≡ Some row → Ok row ≡ sorted (found e o)
is_row None q row e h k = let z : ◌≡◌ {A = (Option ℕ)} None (Some row) = sym h ∙ k in let y : ◌≡◌ {A = ℕ} 0 1 = cc in absurd (omega arith)
is_row (Some r) q row e h k = let z : ◌≡◌ {A = (Option ℕ)} (Some r) (Some row) = sym h ∙ k in let y : r ≡ row = cc in ap Ok (sym y)

pub no_row : (o : Option ℕ) (q : Option ℕ) (e : Refusal) → q ≡ found_as o → q ≡ None → Err e ≡ sorted (found e o)
no_row None q e h k = refl
no_row (Some r) q e h k = let z : ◌≡◌ {A = (Option ℕ)} (Some r) None = sym h ∙ k in let y : ◌≡◌ {A = ℕ} 0 1 = cc in absurd (omega arith)

module _ (sorts : List ℕ) (wanted : Wanted) (q : Option ℕ) (h : FindsSort sorts (sort_wanted wanted) q) where
  pub row_missing : q ≡ None → RowOf sorts wanted (Err NoSortRow)
  row_missing e l s = no_row (sort_row (tables_of l) (sort_wanted wanted)) q NoSortRow (h l s) e

module _ (sorts names name : List ℕ) where
  abbrev Says : String → Bool → Type 0
  Says word b = same_text name (bytes word) ≡ b

  pub word-bool : Says "Bool" true → (r : Result ℕ Refusal) → RowOf sorts Wanted.Bool r → WordSort sorts names name r
  word-bool a r k l s n = rw a (k l s)

  pub word-string : Says "Bool" false → Says "String" true → (r : Result ℕ Refusal) → RowOf sorts Wanted.String r → WordSort sorts names name r
  word-string a b r k l s n = rw (a, b) (k l s)

  pub word-decimal : Says "Bool" false → Says "String" false → Says "Decimal" true → (r : Result ℕ Refusal) → RowOf sorts Wanted.Decimal r → WordSort sorts names name r
  word-decimal a b c r k l s n = rw (a, b, c) (k l s)

  pub word_datetime : Says "Bool" false → Says "String" false → Says "Decimal" false → Says "Datetime" true → (r : Result ℕ Refusal) → RowOf sorts Wanted.Datetime r → WordSort sorts names name r
  word_datetime a b c d r k l s n = rw (a, b, c, d) (k l s)

  module _ (a : Says "Bool" false) (b : Says "String" false) (c : Says "Decimal" false) (d : Says "Datetime" false) where
    pub word_duration : Says "Duration" true → (r : Result ℕ Refusal) → RowOf sorts Wanted.Duration r → WordSort sorts names name r
    word_duration e r k l s n = rw (a, b, c, d, e) (k l s)

    module _ (e : Says "Duration" false) (q : Option ℕ) (h : FindsNamed sorts names name q) where
      pub word_row : (row : ℕ) → q ≡ Some row → WordSort sorts names name (Ok row)
      word_row row f l s n = rw (a, b, c, d, e) (is_row (named_sort (tables_of l) name) q row UnknownType (h l s n) f)

      pub word-unknown : q ≡ None → WordSort sorts names name (Err UnknownType)
      word-unknown f l s n = rw (a, b, c, d, e) (no_row (named_sort (tables_of l) name) q UnknownType (h l s n) f)

module _ (sorts : List ℕ) (low high : ℕ) where
  pub width-over : 2 ^ 32 ≤ low + high * 2 ^ 64 → WidthSort sorts (low + high * 2 ^ 64) (Err IntegerOverflow)
  unfolding unless
  width-over h l s = rw (le-ltb (low + high * 2 ^ 64) (2 ^ 32) h)

  pub width-zero : high ≡ 0 → low ≡ 0 → WidthSort sorts (low + high * 2 ^ 64) (Err ZeroWidthBitVec)
  unfolding unless
  width-zero h z l s =
      let n : low + high * 2 ^ 64 < 2 ^ 32 = omega arith in
      let m : low + high * 2 ^ 64 ≤ 0 = omega arith in
      rw (lt-ltb (low + high * 2 ^ 64) (2 ^ 32) n, le-ltb 0 (low + high * 2 ^ 64) m)

  pub width-row : high ≡ 0 → low < 2 ^ 32 → (low ≡ 0 → ⊥) → (r : Result ℕ Refusal) → RowOf sorts (Wanted.BitVec low) r → WidthSort sorts (low + high * 2 ^ 64) r
  unfolding unless
  width-row h m z r k l s =
      let e : low ≡ low + high * 2 ^ 64 = omega arith in
      let p : 0 < low = omega arith in
      subst (λ (w : ℕ). r ≡ sorted (sort_width (tables_of l) w)) e (rw (lt-ltb low (2 ^ 32) m, lt-ltb 0 low p) (k l s))
