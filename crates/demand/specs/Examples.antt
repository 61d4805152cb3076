-- Document 01, "The model walk", bodies, and document 02, R-2, for demand 3: what some terms mean.
use Rattle.std.specs.Prelude.{◌≡◌, refl, true, false, List, [], ◌∷◌, None, Option, Some}
use Prim.Native.String.{String}
use Rattle.std.proofs.Math.Decide.{ℕ_discrete}
use Rattle.ground.specs.Bytes.{bytes}
use Rattle.ground.specs.Lists.{all, find, at}
use Rattle.words.specs.Extension.{signed}
use Rattle.words.specs.Radix.{worth}
use Rattle.words.specs.Run.{from, parsed}
use Rattle.arena.specs.Text.{same_text}
use Rattle.arena.specs.Tree.{Tree, Trees, bit_vec, numeral, symbol, app, nil, cons}
use Rattle.tables.specs.Find.{sort_row, member_row}
use Rattle.tables.specs.Sort.{bool, bit_vec as bits, option_of, Tables}
use Rattle.shapes.specs.Shape.{shape}
use Rattle.sorts.specs.Result.{◌>>=◌, unless}
use Rattle.values.specs.Normal.{normal}
use Rattle.values.specs.Value.{Value, v_bool, v_bits, v_some}
use Rattle.means.specs.Literal.{read_with}
use Rattle.values.specs.Equal.{equal}
use Rattle.demand.specs.Mention.{unbarred, mentions}
use Rattle.demand.specs.Meaning.{meaning_with, meaning}

abbrev pub list : List Tree → Trees
list [] = nil
list (t ∷ ts) = cons t (list ts)

abbrev pub of : List Tree → Tree
of ts = app (list ts)

abbrev pub word : String → Tree
word s = symbol (bytes s)

abbrev tables : Tables
tables = record { sorts = bool ∷ bits 8 ∷ option_of 0 ∷ []; variables = []; functions = []; members = [] }

-- a term where the argument of a name has a value, and nothing is expected
abbrev means : String → Value → Tree → Option Value
means x v t = meaning t tables (bytes x) v None

examples :
    means "a" (v_bool true) (of (word "or" ∷ []))
    ∷ means "a" (v_bool true) (of (word "or" ∷ of (word "=" ∷ word "a" ∷ word "false" ∷ []) ∷ []))
    ∷ means "a" (v_bool true) (of (word "or" ∷ of (word "=" ∷ word "a" ∷ word "false" ∷ []) ∷ of (word "=" ∷ word "true" ∷ word "a" ∷ []) ∷ []))
    -- bars do not count
    ∷ means "a" (v_bits 8 255) (of (word "ite" ∷ of (word "=" ∷ word "|a|" ∷ bit_vec 8 255 ∷ []) ∷ word "true" ∷ word "false" ∷ []))
    -- the argument is `bv5`, and the index is not it
    ∷ means "bv5" (v_bits 8 5) (of (word "=" ∷ word "bv5" ∷ of (word "_" ∷ word "bv5" ∷ numeral 8 ∷ []) ∷ []))
    ∷ means "bv5" (v_bits 8 6) (of (word "=" ∷ word "bv5" ∷ of (word "_" ∷ word "bv5" ∷ numeral 8 ∷ []) ∷ []))
    -- no test, one part too few, and a branch without a meaning
    ∷ means "a" (v_bits 8 5) (of (word "ite" ∷ word "a" ∷ word "true" ∷ word "false" ∷ []))
    ∷ means "a" (v_bool true) (of (word "=" ∷ word "a" ∷ []))
    ∷ means "a" (v_bool true) (of (word "ite" ∷ word "a" ∷ word "true" ∷ word "b" ∷ []))
    ∷ []
    ≡ Some (v_bool false) ∷ Some (v_bool false) ∷ Some (v_bool true) ∷ Some (v_bool true) ∷ Some (v_bool true) ∷ Some (v_bool false) ∷ None ∷ None ∷ None ∷ []
unfolding find at worth from all parsed same_text sort_row member_row shape ◌>>=◌ unless normal read_with equal unbarred mentions meaning_with ℕ_discrete
examples = refl

-- R-2: the same, operators inside literals worked out
abbrev means_worked : String → Value → Tree → Option Value
means_worked x v t = meaning_with true t tables (bytes x) v None

abbrev negated : Tree → Tree
negated t = of (word "not" ∷ t ∷ [])

operators :
    -- above the argument, in a default, and above a test
    means_worked "a" (v_bool true) (negated (word "a"))
    ∷ means_worked "a" (v_bits 8 5) (of (word "ite" ∷ of (word "=" ∷ word "a" ∷ bit_vec 8 1 ∷ []) ∷ word "true" ∷ negated (of (word "bvnego" ∷ bit_vec 8 128 ∷ [])) ∷ []))
    ∷ means_worked "a" (v_bits 8 5) (of (word "ite" ∷ negated (of (word "=" ∷ word "a" ∷ bit_vec 8 1 ∷ [])) ∷ word "true" ∷ word "false" ∷ []))
    -- inside a literal
    ∷ means_worked "a" (v_bool true) (of (word "some" ∷ negated (word "true") ∷ []))
    -- of the argument and a literal; no bit vectors, unlike ones and another count of operands have no meaning
    ∷ means_worked "a" (v_bits 8 127) (of (word "bvsaddo" ∷ word "a" ∷ bit_vec 8 1 ∷ []))
    ∷ means_worked "a" (v_bits 8 255) (of (word "bvsmulo" ∷ bit_vec 8 128 ∷ word "a" ∷ []))
    ∷ means_worked "a" (v_bits 4 1) (of (word "bvsaddo" ∷ word "a" ∷ bit_vec 8 1 ∷ []))
    ∷ means_worked "a" (v_bits 8 1) (negated (word "a"))
    ∷ means_worked "a" (v_bool true) (of (word "bvnego" ∷ word "a" ∷ []))
    ∷ means_worked "a" (v_bool true) (of (word "not" ∷ word "a" ∷ word "a" ∷ []))
    ∷ []
    ≡ Some (v_bool false) ∷ Some (v_bool false) ∷ Some (v_bool true) ∷ Some (v_some (v_bool false)) ∷ Some (v_bool true) ∷ Some (v_bool true) ∷ None ∷ None ∷ None ∷ None ∷ []
unfolding find at same_text sort_row shape ◌>>=◌ unless signed normal read_with equal unbarred mentions meaning_with ℕ_discrete
operators = refl
