-- Document 02, R-2: literals with operators, worked out: what is expected of operands, the order of refusals, levels, and the values at the edges.
use Rattle.std.specs.Prelude.{◌≡◌, refl, true, false, List, [], ◌∷◌, map, ℕ, zero, suc, ◌-◌, ◌^◌, None, Some, Err, Ok, Result}
use Prim.Native.String.{String}
use Rattle.std.proofs.Math.Decide.{ℕ_discrete}
use Rattle.ground.specs.Lists.{find, at, all}
use Rattle.refusals.specs.declared.Refusal.TheVariants.{UnknownLiteral, UnmatchedType, NotCovered, NoSortRow, TooNested}
use Rattle.words.specs.Extension.{signed}
use Rattle.words.specs.Radix.{worth}
use Rattle.words.specs.Run.{from, parsed}
use Rattle.arena.specs.Text.{same_text}
use Rattle.arena.specs.Tree.{Tree, bit_vec, numeral}
use Rattle.order.specs.Order.{before, insert, arranged}
use Rattle.decimals.specs.Decimal.{decimal, last_digits, digit_count_within}
use Rattle.tables.specs.Find.{sort_row, named_sort, member_row}
use Rattle.tables.specs.Sort.{Sort, bool, bit_vec as bits, option_of, set_of, Tables}
use Rattle.shapes.specs.Shape.{shape}
use Rattle.shapes.specs.SortShape.{sort_shape}
use Rattle.sorts.specs.Result.{◌>>=◌, unless}
use Rattle.sorts.specs.Sort.{levels, read_sort}
use Rattle.values.specs.Equal.{equal}
use Rattle.values.specs.Normal.{normal, arranged_values}
use Rattle.values.specs.Text.{text, hex, hex_digit}
use Rattle.values.specs.Value.{v_bool, v_bits, v_set, v_nil, v_cons}
use Rattle.means.specs.Literal.{Lit, lit, read_with}
use Rattle.means.specs.Samples.{word, of}
use Rattle.refusals.specs.declared.Refusal.{Refusal}

-- a word and its operands
abbrev call : String → List Tree → Tree
call f ts = of (word f ∷ ts)

abbrev tables : List Sort → Tables
tables sorts = record { sorts = sorts; variables = []; functions = []; members = [] }

-- a literal over the sorts, of which nothing is expected
abbrev worked : List Sort → Tree → Result Lit Refusal
worked sorts t = read_with (tables sorts) true 9 None t

abbrev truth : Tree
truth = word "true"

abbrev is_true : Result Lit Refusal
is_true = Ok (lit 0 (v_bool true))

abbrev is_false : Result Lit Refusal
is_false = Ok (lit 0 (v_bool false))

-- (some true)
abbrev one : Tree
one = call "some" (truth ∷ [])

-- of operands nothing is expected, of branches what is of the whole
expected :
    worked (bool ∷ option_of 0 ∷ []) (call "not" (one ∷ []))
    ∷ worked (bool ∷ option_of 0 ∷ []) (call "=" (one ∷ one ∷ []))
    ∷ read_with (tables (bool ∷ option_of 0 ∷ [])) true 9 (Some 0) (call "ite" (truth ∷ one ∷ one ∷ []))
    ∷ []
    ≡ Err UnmatchedType ∷ is_true ∷ Err UnknownLiteral ∷ []
unfolding read_with shape find at same_text sort_row ◌>>=◌ unless normal equal
expected = refl

-- 16 after all operands of the application, an operand's own while it is read; then the result's sort, 23 without a row
ordered :
    worked (bool ∷ bits 1 ∷ []) (call "or" (call "not" (bit_vec 1 1 ∷ []) ∷ word "zork" ∷ []))
    ∷ worked (bool ∷ bits 1 ∷ []) (call "or" (word "zork" ∷ call "not" (bit_vec 1 1 ∷ []) ∷ []))
    ∷ worked (bits 1 ∷ []) (call "not" (bit_vec 1 1 ∷ []))
    ∷ worked (bits 1 ∷ []) (call "=" (bit_vec 1 1 ∷ bit_vec 1 1 ∷ []))
    ∷ []
    ≡ Err UnmatchedType ∷ Err UnknownLiteral ∷ Err UnmatchedType ∷ Err NoSortRow ∷ []
unfolding read_with shape find same_text sort_row member_row ◌>>=◌ unless
ordered = refl

-- V4 and V6 stay 22, also in a branch that is not taken
abbrev address : Tree
address = call "V4" (truth ∷ truth ∷ [])

uncovered : worked (bool ∷ []) (call "ite" (truth ∷ truth ∷ address ∷ [])) ≡ Err NotCovered
unfolding read_with shape find same_text sort_row ◌>>=◌ unless
uncovered = refl

-- another count of operands is 15, and none of them is read
abbrev miscounted : List Tree
miscounted =
    call "not" (address ∷ truth ∷ [])
    ∷ call "or" (address ∷ [])
    ∷ call "or" (truth ∷ truth ∷ truth ∷ [])
    ∷ call "=" (address ∷ [])
    ∷ call "ite" (address ∷ truth ∷ [])
    ∷ call "bvnego" (address ∷ truth ∷ [])
    ∷ call "bvsaddo" (address ∷ [])
    ∷ call "bvsmulo" (address ∷ [])
    ∷ []

unread : map (worked (bool ∷ [])) miscounted ≡ map (λ t. Err UnknownLiteral) miscounted
unfolding read_with shape find same_text sort_row named_sort ◌>>=◌
unread = refl

-- an operand is one level below: 1,023 `not` pass and 1,024 are 24
abbrev nots : ℕ → Tree
nots zero = truth
nots (suc n) = call "not" (nots n ∷ [])

deep : read_with (tables (bool ∷ [])) true levels None (nots 1023) ∷ read_with (tables (bool ∷ [])) true levels None (nots 1024) ∷ []
    ≡ is_false ∷ Err TooNested ∷ []
unfolding read_with shape find same_text sort_row ◌>>=◌ unless
deep = refl

-- bool; bitvec 8; set 1; set 2; bitvec 1; bitvec 128
abbrev seen : Tree → Result Lit Refusal
seen t = worked (bool ∷ bits 8 ∷ set_of 1 ∷ set_of 2 ∷ bits 1 ∷ bits 128 ∷ []) t

abbrev byte : ℕ → Tree
byte n = bit_vec 8 n

abbrev set : Tree → Tree
set t = call "set.singleton" (t ∷ [])

abbrev union : Tree → Tree → Tree
union t u = call "set.union" (t ∷ u ∷ [])

-- `=` of values: sets by their members, in any order and however often, inside sets too; 16 for two sorts
equalities :
    map (λ (p : Tree × Tree). seen (call "=" (p.0 ∷ p.1 ∷ []))) (
    (union (set (byte 2)) (set (byte 1)), union (set (byte 1)) (set (byte 2)))
    ∷ (union (set (byte 1)) (set (byte 1)), set (byte 1))
    ∷ (set (union (set (byte 2)) (set (byte 1))), set (union (set (byte 1)) (set (byte 2))))
    ∷ (set (byte 2), set (byte 1))
    ∷ (set (set (byte 2)), set (union (set (byte 1)) (set (byte 2))))
    ∷ (set (byte 2), set (set (byte 2)))
    ∷ []
    )
    ≡ is_true ∷ is_true ∷ is_true ∷ is_false ∷ is_false ∷ Err UnmatchedType ∷ []
unfolding read_with shape find same_text sort_row ◌>>=◌ unless normal arranged_values arranged insert before text hex hex_digit decimal last_digits digit_count_within equal ℕ_discrete
equalities = refl

-- the branch that is taken, as it was written; 16 for a condition that is no bool, and for two sorts
abbrev empty : Tree
empty = call "as" (word "set.empty" ∷ call "Set" (call "_" (word "BitVec" ∷ numeral 8 ∷ []) ∷ []) ∷ [])

branches :
    seen (call "ite" (word "false" ∷ empty ∷ union (set (byte 2)) (union (set (byte 1)) (set (byte 2))) ∷ []))
    ∷ seen (call "ite" (truth ∷ empty ∷ union (set (byte 2)) (set (byte 2)) ∷ []))
    ∷ seen (call "ite" (byte 1 ∷ empty ∷ empty ∷ []))
    ∷ seen (call "ite" (truth ∷ empty ∷ byte 1 ∷ []))
    ∷ []
    ≡ Ok (lit 2 (v_set (v_cons (v_bits 8 2) (v_cons (v_bits 8 1) (v_cons (v_bits 8 2) v_nil)))))
    ∷ Ok (lit 2 (v_set v_nil))
    ∷ Err UnmatchedType
    ∷ Err UnmatchedType
    ∷ []
unfolding read_with read_sort shape sort_shape find at same_text sort_row ◌>>=◌ unless
branches = refl

-- bit vectors at the ends of the signed range: of width 8, 1 and 128; 16 for unlike widths
abbrev indexed : String → Tree
indexed s = call "_" (word s ∷ numeral 8 ∷ [])

overflows :
    map seen (
    call "bvnego" (indexed "bv128" ∷ [])
    ∷ call "bvnego" (indexed "bv127" ∷ [])
    ∷ call "bvnego" (bit_vec 1 1 ∷ [])
    ∷ call "bvsaddo" (byte 127 ∷ byte 1 ∷ [])
    ∷ call "bvsaddo" (byte 128 ∷ byte 127 ∷ [])
    ∷ call "bvsmulo" (byte 255 ∷ byte 128 ∷ [])
    ∷ call "bvsmulo" (byte 255 ∷ byte 129 ∷ [])
    ∷ call "bvsmulo" (bit_vec 1 1 ∷ bit_vec 1 1 ∷ [])
    ∷ call "bvsmulo" (bit_vec 128 (2 ^ 128 - 1) ∷ bit_vec 128 (2 ^ 127) ∷ [])
    ∷ call "bvsaddo" (byte 1 ∷ bit_vec 1 1 ∷ [])
    ∷ call "bvnego" (truth ∷ [])
    ∷ []
    )
    ≡ is_true ∷ is_false ∷ is_true ∷ is_true ∷ is_false ∷ is_true ∷ is_false ∷ is_true ∷ is_true ∷ Err UnmatchedType ∷ Err UnmatchedType ∷ []
unfolding read_with shape find same_text sort_row ◌>>=◌ unless signed all from parsed worth
overflows = refl
