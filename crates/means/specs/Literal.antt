-- Document 01, "Sorts and literals": what a literal means, by its shape: its row and its value as written, or the refusal.
use Rattle.std.specs.Prelude.{Bool, true, false, cond, ◌&&◌, List, [], ◌∷◌, ℕ, zero, suc, ◌%◌, ◌^◌, leb, ltb, eqb, None, Option, Some, Err, Ok, Result}
use Rattle.ground.specs.Lists.{at}
use Rattle.refusals.specs.declared.Refusal.TheVariants.{IntegerOverflow, ZeroWidthBitVec, UnknownLiteral, UnmatchedType, UnmatchedFieldType, UnmatchedRecordType, InvalidOptionType, InvalidSetType, NotCovered, TooNested, SetUnionNonLiterals}
use Rattle.words.specs.declared.digits.Radix.{Radix}
use Rattle.words.specs.Extension.{signed}
use Rattle.words.specs.Pair.{value}
use Rattle.words.specs.Run.{parsed}
use Rattle.arena.specs.Tree.{Tree, Trees, bit_vec as bits, numeral, string as quoted, symbol, app, nil, cons}
use Rattle.tables.specs.Sort.{Sort, bool, string, ext, bit_vec, option_of, set_of, entity_of, record_of, Member, Tables}
use Rattle.tables.specs.Find.{named_sort, member_row}
use Rattle.shapes.specs.declared.shape.BinaryOp.{BinaryOp}
use Rattle.shapes.specs.declared.shape.UnaryOp.{UnaryOp}
use Rattle.shapes.specs.Shape.{is, Shape, unary, binary, ite, uncovered, as_none, as_some, some_of, as_empty, singleton, union, extension, indexed, made, other, shape}
use Rattle.sorts.specs.Result.{◌>>=◌, unless, found}
use Rattle.sorts.specs.Sort.{row_of, read_sort}
use Rattle.values.specs.Holds.{held}
use Rattle.values.specs.Normal.{normal}
use Rattle.values.specs.Operators.{negated, either, equals, chosen, bvnego, bvsaddo, bvsmulo}
use Rattle.values.specs.Value.{Value, Values, v_bool, v_string, v_ext, v_bits, v_none, v_some, v_set, v_entity, v_record, v_nil, v_cons, union as both}
use Rattle.refusals.specs.declared.Refusal.{Refusal}
use Rattle.words.specs.declared.pair.Pair.{Pair}

-- a literal read: the row of its sort, and its value as it was written
pub record Lit : Type 0 where
  pub row : ℕ
  pub value : Value

abbrev pub lit : ℕ → Value → Lit
lit row value = record { row = row; value = value }

-- the row inside an option's, a set's
abbrev pub option_in : Option Sort → Option ℕ
option_in None = None
option_in (Some bool) = None
option_in (Some string) = None
option_in (Some (ext e)) = None
option_in (Some (bit_vec w)) = None
option_in (Some (option_of row)) = Some row
option_in (Some (set_of row)) = None
option_in (Some (entity_of name)) = None
option_in (Some (record_of name fields)) = None

abbrev pub set_in : Option Sort → Option ℕ
set_in None = None
set_in (Some bool) = None
set_in (Some string) = None
set_in (Some (ext e)) = None
set_in (Some (bit_vec w)) = None
set_in (Some (option_of row)) = None
set_in (Some (set_of row)) = Some row
set_in (Some (entity_of name)) = None
set_in (Some (record_of name fields)) = None

-- a number's digits, of which one + may stand in front
abbrev pub unsigned : List ℕ → List ℕ
unsigned [] = []
unsigned (b ∷ bs) = cond (eqb b 43) bs (b ∷ bs)

abbrev pub numbered : Result Pair Refusal → Result ℕ Refusal
numbered (Ok p) = Ok (value p)
numbered (Err r) = Err r

-- (NAME "text"), an entity's
abbrev pub entity_lit : ℕ → Trees → Result Lit Refusal
entity_lit row nil = Err UnknownLiteral
entity_lit row (cons (bits w n) us) = Err UnknownLiteral
entity_lit row (cons (numeral n) us) = Err UnknownLiteral
entity_lit row (cons (quoted s) nil) = Ok (lit row (v_entity row s))
entity_lit row (cons (quoted s) (cons u us)) = Err UnknownLiteral
entity_lit row (cons (symbol s) us) = Err UnknownLiteral
entity_lit row (cons (app ts) us) = Err UnknownLiteral

-- as many trees as fields
abbrev pub same_count : List ℕ → Trees → Bool
same_count [] nil = true
same_count [] (cons u us) = false
same_count (f ∷ fs) nil = false
same_count (f ∷ fs) (cons u us) = same_count fs us

-- the record walk: each field expects its row, and has it (17)
abbrev pub fields_of : (Option ℕ → Tree → Result Lit Refusal) → List ℕ → Trees → Result Values Refusal
fields_of below [] us = Ok v_nil
fields_of below (f ∷ fs) nil = Ok v_nil
fields_of below (f ∷ fs) (cons u us) =
    below (Some f) u >>= λ l. unless (eqb l.row f) UnmatchedFieldType (fields_of below fs us >>= λ vs. Ok (v_cons l.value vs))

-- two of one sort (16), both sets (28)
abbrev pub union_lit : Lit → Lit → Result Lit Refusal
union_lit l m =
    unless (eqb l.row m.row) UnmatchedType
    (found SetUnionNonLiterals (held l.value) >>= λ vs. found SetUnionNonLiterals (held m.value) >>= λ ws. Ok (lit l.row (v_set (both vs ws))))

-- R-2: what an operator makes of its operands, if their sorts fit; `=` is of values, whose sets are in order and without repeats
abbrev pub unary_of : UnaryOp → Lit → Option Value
unary_of UnaryOp.Not l = negated l.value
unary_of UnaryOp.Bvnego l = bvnego l.value

abbrev pub binary_of : BinaryOp → Lit → Lit → Option Value
binary_of BinaryOp.Or l m = either l.value m.value
binary_of BinaryOp.Equal l m = cond (eqb l.row m.row) (Some (equals (normal l.value) (normal m.value))) None
binary_of BinaryOp.Bvsaddo l m = bvsaddo l.value m.value
binary_of BinaryOp.Bvsmulo l m = bvsmulo l.value m.value

-- the branch that is taken, as it was written, of two of one sort
abbrev pub ite_lit : Lit → Lit → Lit → Result Lit Refusal
ite_lit c l m = unless (eqb l.row m.row) UnmatchedType (found UnmatchedType (chosen c.value l.value m.value) >>= λ v. Ok (lit l.row v))

module _ (T : Tables) where
  -- a value of a sort, where the sort has a row
  abbrev pub lit_of : Sort → Value → Result Lit Refusal
  lit_of s v = row_of T s >>= λ row. Ok (lit row v)

  -- what is expected inside; an expected sort that is no option, no set, is 15
  abbrev pub expect_in : (Option Sort → Option ℕ) → Option ℕ → Result (Option ℕ) Refusal
  expect_in inside None = Ok None
  expect_in inside (Some row) = found UnknownLiteral (inside (at T.sorts row)) >>= λ q. Ok (Some q)

  abbrev pub none_lit : ℕ → Result Lit Refusal
  none_lit row = found InvalidOptionType (option_in (at T.sorts row)) >>= λ q. Ok (lit row v_none)

  abbrev pub empty_lit : ℕ → Result Lit Refusal
  empty_lit row = found InvalidSetType (set_in (at T.sorts row)) >>= λ q. Ok (lit row (v_set v_nil))

  abbrev pub some_lit : Lit → Result Lit Refusal
  some_lit l = lit_of (option_of l.row) (v_some l.value)

  abbrev pub singleton_lit : Lit → Result Lit Refusal
  singleton_lit l = lit_of (set_of l.row) (v_set (v_cons l.value v_nil))

  -- (_ bvN W): N first (4), then W over 2^32-1 (7), W = 0 (8), W < 128 and N at least 2^W (7)
  abbrev pub width_lit : ℕ → ℕ → Result Lit Refusal
  width_lit n w =
      unless (ltb w (2 ^ 32)) IntegerOverflow
      (unless (ltb 0 w) ZeroWidthBitVec
      (cond (ltb w 128 && leb (2 ^ w) n) (Err IntegerOverflow)
      (lit_of (bit_vec w) (v_bits w n))))

  abbrev pub indexed_lit : List ℕ → ℕ → Result Lit Refusal
  indexed_lit digits w = numbered (parsed Radix.Decimal (unsigned digits)) >>= λ n. width_lit n w

  -- what an operator gives is a bool: 16 where the sorts do not fit, then 23
  abbrev pub bool_lit : Option Value → Result Lit Refusal
  bool_lit o = found UnmatchedType o >>= λ v. lit_of bool v

  module _ (sort_below : Tree → Result ℕ Refusal) (below : Option ℕ → Tree → Result Lit Refusal) where
    -- (NAME ..), by NAME's row
    abbrev pub made_row : ℕ → Option Sort → Trees → Result Lit Refusal
    made_row row None us = Err UnknownLiteral
    made_row row (Some bool) us = Err UnknownLiteral
    made_row row (Some string) us = Err UnknownLiteral
    made_row row (Some (ext e)) us = Err UnknownLiteral
    made_row row (Some (bit_vec w)) us = Err UnknownLiteral
    made_row row (Some (option_of q)) us = Err UnknownLiteral
    made_row row (Some (set_of q)) us = Err UnknownLiteral
    made_row row (Some (entity_of name)) us = entity_lit row us
    made_row row (Some (record_of name fs)) us = unless (same_count fs us) UnmatchedRecordType (fields_of below fs us >>= λ vs. Ok (lit row (v_record row vs)))

    abbrev pub made_lit : List ℕ → Trees → Result Lit Refusal
    made_lit name us = found UnknownLiteral (named_sort T name) >>= λ row. made_row row (at T.sorts row) us

    -- the arms, where a sort is expected or none; R-2's operators are worked out, or 22
    abbrev pub app_lit : Bool → Option ℕ → Shape → Result Lit Refusal
    app_lit worked expected (unary op v) = cond worked (below None v >>= λ l. bool_lit (unary_of op l)) (Err NotCovered)
    app_lit worked expected (binary op v w) = cond worked (below None v >>= λ l. below None w >>= λ m. bool_lit (binary_of op l m)) (Err NotCovered)
    app_lit worked expected (ite c v w) = cond worked (below None c >>= λ k. below expected v >>= λ l. below expected w >>= λ m. ite_lit k l m) (Err NotCovered)
    app_lit worked expected uncovered = Err NotCovered
    app_lit worked expected (as_none t) = sort_below t >>= λ row. none_lit row
    app_lit worked expected (as_some t v) =
        sort_below t >>= λ row. below (option_in (at T.sorts row)) v >>= λ l. some_lit l >>= λ m. unless (eqb m.row row) UnmatchedType (Ok m)
    app_lit worked expected (some_of v) = expect_in option_in expected >>= λ q. below q v >>= λ l. some_lit l
    app_lit worked expected (as_empty t) = sort_below t >>= λ row. empty_lit row
    app_lit worked expected (singleton v) = expect_in set_in expected >>= λ q. below q v >>= λ l. singleton_lit l
    app_lit worked expected (union v w) = below expected v >>= λ l. below expected w >>= λ m. union_lit l m
    app_lit worked expected (extension x n) = lit_of (ext x) (v_ext x (signed 64 (n % 2 ^ 64)))
    app_lit worked expected (indexed digits w) = indexed_lit digits w
    app_lit worked expected (made name us) = made_lit name us
    app_lit worked expected other = Err UnknownLiteral

  abbrev pub member_lit : Option Member → Result Lit Refusal
  member_lit None = Err UnknownLiteral
  member_lit (Some m) = Ok (lit m.entity (v_entity m.entity m.text))

  abbrev pub at_row : {A : Type 0} → List A → Option ℕ → Option A
  at_row xs None = None
  at_row xs (Some i) = at xs i

  -- an atom that is a symbol
  abbrev pub word_lit : List ℕ → Result Lit Refusal
  word_lit s =
      cond (is s "true") (lit_of bool (v_bool true))
      (cond (is s "false") (lit_of bool (v_bool false))
      (member_lit (at_row T.members (member_row T s))))

  -- the allowance is how many levels may still be read, this one among them
  unfoldable pub read_with : Bool → ℕ → Option ℕ → Tree → Result Lit Refusal
  read_with worked zero expected t = Err TooNested
  read_with worked (suc allow) expected (bits w n) = lit_of (bit_vec w) (v_bits w (n % 2 ^ w))
  read_with worked (suc allow) expected (numeral n) = Err UnknownLiteral
  read_with worked (suc allow) expected (quoted s) = lit_of string (v_string s)
  read_with worked (suc allow) expected (symbol s) = word_lit s
  read_with worked (suc allow) expected (app us) = app_lit (λ t. read_sort T allow t) (λ e u. read_with worked allow e u) worked expected (shape us)

  -- as document 01 has it, operators 22
  abbrev pub read : ℕ → Option ℕ → Tree → Result Lit Refusal
  read allow expected t = read_with false allow expected t
