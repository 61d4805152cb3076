-- A refusal of a literal or of a sort tells no need: its detail is 0.
-- Assumes nothing.
use Rattle.std.proofs.Common.{None, Option, Some, Err, Ok, Result}
use mathlib.Core.Path.{◌≡◌, refl}
use mathlib.Core.Bool.{Bool, true, false, cond, ◌&&◌}
use mathlib.Core.List.{List, [], ◌∷◌}
use Prim.Native.Nat.{ℕ, zero, suc, ◌%◌, ◌^◌}
use lib.Dec.{leb, ltb, eqb}
use Rattle.ground.specs.Lists.{at}
use Rattle.refusals.specs.declared.Refusal.{Refusal}
use Rattle.refusals.specs.declared.Refusal.TheVariants.{ParseIntError, IntegerOverflow, ZeroWidthBitVec, UnknownType, UnknownLiteral, UnmatchedType, UnmatchedFieldType, UnmatchedRecordType, InvalidOptionType, InvalidSetType, NoSortRow, SetUnionNonLiterals}
use Rattle.refusals.specs.Number.{detail_of}
use Rattle.words.specs.declared.pair.Pair.{Pair}
use Rattle.words.specs.declared.digits.Radix.{Radix}
use Rattle.words.specs.Pair.{pair_of}
use Rattle.words.specs.Radix.{base_of}
use Rattle.words.specs.Run.{number, digits, some_byte, parsed}
use Rattle.arena.specs.Tree.{Tree, Trees, bit_vec as bits, numeral, string as quoted, symbol, app, nil, cons}
use Rattle.tables.specs.Find.{sort_row, named_sort, member_row}
use Rattle.tables.specs.Sort.{decimal, datetime, duration, Sort, bool, string, ext, bit_vec, option_of, set_of, entity_of, record_of, Member, Tables}
use Rattle.shapes.specs.Shape.{is, Shape, unary, binary, ite, uncovered, as_none, as_some, some_of, as_empty, singleton, union, extension, indexed, made, other, shape}
use Rattle.shapes.specs.SortShape.{SortShape, word, width_of, option_of as option_shape, set_of as set_shape, no_sort, sort_shape}
use Rattle.sorts.specs.Result.{◌>>=◌, unless, found}
use Rattle.sorts.specs.Sort.{row_of, sort_word, sort_of, read_sort}
use Rattle.values.specs.Value.{Value, v_bool, v_string, v_bits}
use Rattle.values.specs.Holds.{held}
use Rattle.values.specs.Operators.{chosen}
use Rattle.means.specs.Literal.{Lit, option_in, set_in, unsigned, numbered, entity_lit, same_count, fields_of, union_lit, lit_of, expect_in, some_lit, width_lit, made_row, app_lit, member_lit, at_row, read_with, unary_of, binary_of, ite_lit, bool_lit}

abbrev pub Plain : {A : Type 0} → Result A Refusal → Type 0
Plain (Ok a) = Unit {0}
Plain (Err r) = detail_of r ≡ 0

pub plain_then : {A B : Type 0} (m : Result A Refusal) (f : A → Result B Refusal) → Plain m → ((a : A) → Plain (f a)) → Plain (m >>= f)
unfolding ◌>>=◌
plain_then (Ok a) f p q = q a
plain_then (Err r) f p q = p

pub plain-unless : {A : Type 0} (test : Bool) (r : Refusal) (m : Result A Refusal) → detail_of r ≡ 0 → Plain m → Plain (unless test r m)
unfolding unless
plain-unless true r m p q = q
plain-unless false r m p q = p

pub plain-found : {A : Type 0} (r : Refusal) (o : Option A) → detail_of r ≡ 0 → Plain (found r o)
plain-found r None p = p
plain-found r (Some a) p = tt

plain-cond : {A : Type 0} (test : Bool) (m n : Result A Refusal) → Plain m → Plain n → Plain (cond test m n)
plain-cond true m n p q = p
plain-cond false m n p q = q

-- sorts
module _ (T : Tables) where
  row_plain : (s : Sort) → Plain (row_of T s)
  row_plain s = plain-found NoSortRow (sort_row T s) refl

  sort-word-plain : (s : List ℕ) → Plain (sort_word T s)
  sort-word-plain s =
      plain-cond (is s "Bool") _ _ (row_plain bool)
      (plain-cond (is s "String") _ _ (row_plain string)
      (plain-cond (is s "Decimal") _ _ (row_plain (ext decimal))
      (plain-cond (is s "Datetime") _ _ (row_plain (ext datetime))
      (plain-cond (is s "Duration") _ _ (row_plain (ext duration))
      (plain-found UnknownType (named_sort T s) refl)))))

  shape-plain : (below : Tree → Result ℕ Refusal) → ((t : Tree) → Plain (below t)) → (s : SortShape) → Plain (sort_of T below s)
  shape-plain below h (word s) = sort-word-plain s
  shape-plain below h (width_of n) =
      plain-unless (ltb n (2 ^ 32)) IntegerOverflow _ refl (plain-unless (ltb 0 n) ZeroWidthBitVec _ refl (row_plain (bit_vec n)))
  shape-plain below h (option_shape t) = plain_then (below t) _ (h t) (λ row. row_plain (option_of row))
  shape-plain below h (set_shape t) = plain_then (below t) _ (h t) (λ row. row_plain (set_of row))
  shape-plain below h no_sort = refl

  pub sort-plain : (allow : ℕ) (t : Tree) → Plain (read_sort T allow t)
  unfolding read_sort
  sort-plain zero t = refl
  sort-plain (suc allow) t = shape-plain (λ u. read_sort T allow u) (λ u. sort-plain allow u) (sort_shape t)

-- literals
numbered-so : (test : Bool) (p : Pair) → Plain (numbered (cond test (Ok p) (Err ParseIntError)))
numbered-so true p = tt
numbered-so false p = refl

numbered-plain : (r : Radix) (s : List ℕ) → Plain (numbered (parsed r s))
unfolding parsed
numbered-plain r s = numbered-so (some_byte s && digits r s && ltb (number (base_of r) s) (2 ^ 128)) (pair_of (number (base_of r) s))

entity-plain : (row : ℕ) (us : Trees) → Plain (entity_lit row us)
entity-plain row nil = refl
entity-plain row (cons (bits w n) us) = refl
entity-plain row (cons (numeral n) us) = refl
entity-plain row (cons (quoted s) nil) = tt
entity-plain row (cons (quoted s) (cons u us)) = refl
entity-plain row (cons (symbol s) us) = refl
entity-plain row (cons (app ts) us) = refl

fields-plain : (below : Option ℕ → Tree → Result Lit Refusal) → ((e : Option ℕ) (t : Tree) → Plain (below e t)) → (fs : List ℕ) (us : Trees) → Plain (fields_of below fs us)
fields-plain below h [] us = tt
fields-plain below h (f ∷ fs) nil = tt
fields-plain below h (f ∷ fs) (cons u us) =
    plain_then (below (Some f) u) _ (h (Some f) u)
    (λ l. plain-unless (eqb l.row f) UnmatchedFieldType _ refl (plain_then (fields_of below fs us) _ (fields-plain below h fs us) (λ vs. tt)))

union-plain : (l m : Lit) → Plain (union_lit l m)
union-plain l m =
    plain-unless (eqb l.row m.row) UnmatchedType _ refl
    (plain_then (found SetUnionNonLiterals (held l.value)) _ (plain-found SetUnionNonLiterals (held l.value) refl)
    (λ vs. plain_then (found SetUnionNonLiterals (held m.value)) _ (plain-found SetUnionNonLiterals (held m.value) refl) (λ ws. tt)))

ite-plain : (k l m : Lit) → Plain (ite_lit k l m)
ite-plain k l m =
    plain-unless (eqb l.row m.row) UnmatchedType _ refl
    (plain_then (found UnmatchedType (chosen k.value l.value m.value)) _ (plain-found UnmatchedType (chosen k.value l.value m.value) refl) (λ v. tt))

module _ (T : Tables) where
  lit-plain : (s : Sort) (v : Value) → Plain (lit_of T s v)
  lit-plain s v = plain_then (row_of T s) _ (row_plain T s) (λ row. tt)

  expect_plain : (inside : Option Sort → Option ℕ) (e : Option ℕ) → Plain (expect_in T inside e)
  expect_plain inside None = tt
  expect_plain inside (Some row) =
      plain_then (found UnknownLiteral (inside (at T.sorts row))) _ (plain-found UnknownLiteral (inside (at T.sorts row)) refl) (λ q. tt)

  bool-plain : (o : Option Value) → Plain (bool_lit T o)
  bool-plain o = plain_then (found UnmatchedType o) _ (plain-found UnmatchedType o refl) (λ v. lit-plain bool v)

  width-plain : (n w : ℕ) → Plain (width_lit T n w)
  width-plain n w =
      plain-unless (ltb w (2 ^ 32)) IntegerOverflow _ refl
      (plain-unless (ltb 0 w) ZeroWidthBitVec _ refl
      (plain-cond (ltb w 128 && leb (2 ^ w) n) _ _ refl (lit-plain (bit_vec w) (v_bits w n))))

  module _ (sort_below : Tree → Result ℕ Refusal) (below : Option ℕ → Tree → Result Lit Refusal) (g : (t : Tree) → Plain (sort_below t)) (h : (e : Option ℕ) (t : Tree) → Plain (below e t)) where
    made-row-plain : (row : ℕ) (s : Option Sort) (us : Trees) → Plain (made_row T sort_below below row s us)
    made-row-plain row None us = refl
    made-row-plain row (Some bool) us = refl
    made-row-plain row (Some string) us = refl
    made-row-plain row (Some (ext e)) us = refl
    made-row-plain row (Some (bit_vec w)) us = refl
    made-row-plain row (Some (option_of q)) us = refl
    made-row-plain row (Some (set_of q)) us = refl
    made-row-plain row (Some (entity_of name)) us = entity-plain row us
    made-row-plain row (Some (record_of name fs)) us =
        plain-unless (same_count fs us) UnmatchedRecordType _ refl (plain_then (fields_of below fs us) _ (fields-plain below h fs us) (λ vs. tt))

    app-plain : (o : Bool) (e : Option ℕ) (s : Shape) → Plain (app_lit T sort_below below o e s)
    app-plain true e (unary op v) = plain_then (below None v) _ (h None v) (λ l. bool-plain (unary_of op l))
    app-plain false e (unary op v) = refl
    app-plain true e (binary op v w) = plain_then (below None v) _ (h None v) (λ l. plain_then (below None w) _ (h None w) (λ m. bool-plain (binary_of op l m)))
    app-plain false e (binary op v w) = refl
    app-plain true e (ite c v w) =
        plain_then (below None c) _ (h None c) (λ k. plain_then (below e v) _ (h e v) (λ l. plain_then (below e w) _ (h e w) (λ m. ite-plain k l m)))
    app-plain false e (ite c v w) = refl
    app-plain o e uncovered = refl
    app-plain o e (as_none t) =
        plain_then (sort_below t) _ (g t)
        (λ row. plain_then (found InvalidOptionType (option_in (at T.sorts row))) _ (plain-found InvalidOptionType (option_in (at T.sorts row)) refl) (λ q. tt))
    app-plain o e (as_some t v) =
        plain_then (sort_below t) _ (g t)
        (λ row. plain_then (below (option_in (at T.sorts row)) v) _ (h (option_in (at T.sorts row)) v)
        (λ l. plain_then (some_lit T l) _ (lit-plain (option_of l.row) _) (λ m. plain-unless (eqb m.row row) UnmatchedType _ refl tt)))
    app-plain o e (some_of v) =
        plain_then (expect_in T option_in e) _ (expect_plain option_in e) (λ q. plain_then (below q v) _ (h q v) (λ l. lit-plain (option_of l.row) _))
    app-plain o e (as_empty t) =
        plain_then (sort_below t) _ (g t)
        (λ row. plain_then (found InvalidSetType (set_in (at T.sorts row))) _ (plain-found InvalidSetType (set_in (at T.sorts row)) refl) (λ q. tt))
    app-plain o e (singleton v) =
        plain_then (expect_in T set_in e) _ (expect_plain set_in e) (λ q. plain_then (below q v) _ (h q v) (λ l. lit-plain (set_of l.row) _))
    app-plain o e (union v w) = plain_then (below e v) _ (h e v) (λ l. plain_then (below e w) _ (h e w) (λ m. union-plain l m))
    app-plain o e (extension x n) = lit-plain (ext x) _
    app-plain o e (indexed digits w) = plain_then (numbered (parsed Radix.Decimal (unsigned digits))) _ (numbered-plain Radix.Decimal (unsigned digits)) (λ n. width-plain n w)
    app-plain o e (made name us) =
        plain_then (found UnknownLiteral (named_sort T name)) _ (plain-found UnknownLiteral (named_sort T name) refl) (λ row. made-row-plain row (at T.sorts row) us)
    app-plain o e other = refl

  member-plain : (m : Option Member) → Plain (member_lit T m)
  member-plain None = refl
  member-plain (Some m) = tt

  pub read_plain : (o : Bool) (allow : ℕ) (e : Option ℕ) (t : Tree) → Plain (read_with T o allow e t)
  unfolding read_with
  read_plain o zero e t = refl
  read_plain o (suc allow) e (bits w n) = lit-plain (bit_vec w) (v_bits w (n % 2 ^ w))
  read_plain o (suc allow) e (numeral n) = refl
  read_plain o (suc allow) e (quoted s) = lit-plain string (v_string s)
  read_plain o (suc allow) e (symbol s) =
      plain-cond (is s "true") _ _ (lit-plain bool (v_bool true))
      (plain-cond (is s "false") _ _ (lit-plain bool (v_bool false))
      (member-plain (at_row T T.members (member_row T s))))
  read_plain o (suc allow) e (app us) =
      app-plain (λ t. read_sort T allow t) (λ x u. read_with T o allow x u) (λ t. sort-plain T allow t) (λ x u. read_plain o allow x u) o e (shape us)
