-- Number and detail tell refusals apart: there is a way back from the two to the refusal.
-- Assumes nothing.
use mathlib.Core.Path.{◌≡◌, refl, sym, ap₂, ◌∙◌}
use mathlib.Core.List.{List, [], ◌∷◌}
use Prim.Native.Nat.{ℕ}
use lib.ListN.{get_or}
use Rattle.refusals.specs.declared.Refusal.{Refusal}
use Rattle.refusals.specs.declared.Refusal.TheVariants.{UnexpectedEnd, Utf8Error, StringParseError, ParseIntError, UnclosedSExpr, TrailingTokens, IntegerOverflow, ZeroWidthBitVec, InputTooLong, NodeRoom, TextRoom, DepthRoom, UnexpectedModel, UnknownType, UnknownLiteral, UnmatchedType, UnmatchedFieldType, UnmatchedRecordType, InvalidOptionType, InvalidSetType, UnexpectedForm, NotCovered, NoSortRow, TooNested, BadTable, OutRoom, BadArena, SetUnionNonLiterals}
use Rattle.refusals.specs.Number.{number_of, detail_of}

-- the refusals in the order of their numbers, those with a need at d; 0 is none's, and stands here as 1's
in_order : ℕ → List Refusal
in_order d =
    UnexpectedEnd
    ∷ UnexpectedEnd
    ∷ Utf8Error
    ∷ StringParseError
    ∷ ParseIntError
    ∷ UnclosedSExpr
    ∷ TrailingTokens
    ∷ IntegerOverflow
    ∷ ZeroWidthBitVec
    ∷ InputTooLong
    ∷ NodeRoom d
    ∷ TextRoom d
    ∷ DepthRoom d
    ∷ UnexpectedModel
    ∷ UnknownType
    ∷ UnknownLiteral
    ∷ UnmatchedType
    ∷ UnmatchedFieldType
    ∷ UnmatchedRecordType
    ∷ InvalidOptionType
    ∷ InvalidSetType
    ∷ UnexpectedForm
    ∷ NotCovered
    ∷ NoSortRow
    ∷ TooNested
    ∷ BadTable
    ∷ OutRoom d
    ∷ BadArena
    ∷ SetUnionNonLiterals
    ∷ []

back : ℕ → ℕ → Refusal
back n d = get_or (in_order d) n UnexpectedEnd

back_is : (r : Refusal) → back (number_of r) (detail_of r) ≡ r
unfolding back in_order
back_is UnexpectedEnd = refl
back_is Utf8Error = refl
back_is StringParseError = refl
back_is ParseIntError = refl
back_is UnclosedSExpr = refl
back_is TrailingTokens = refl
back_is IntegerOverflow = refl
back_is ZeroWidthBitVec = refl
back_is InputTooLong = refl
back_is (NodeRoom need) = refl
back_is (TextRoom need) = refl
back_is (DepthRoom need) = refl
back_is UnexpectedModel = refl
back_is UnknownType = refl
back_is UnknownLiteral = refl
back_is UnmatchedType = refl
back_is UnmatchedFieldType = refl
back_is UnmatchedRecordType = refl
back_is InvalidOptionType = refl
back_is InvalidSetType = refl
back_is UnexpectedForm = refl
back_is NotCovered = refl
back_is NoSortRow = refl
back_is TooNested = refl
back_is BadTable = refl
back_is (OutRoom need) = refl
back_is BadArena = refl
back_is SetUnionNonLiterals = refl

pub tells : (a b : Refusal) → number_of a ≡ number_of b → detail_of a ≡ detail_of b → a ≡ b
tells a b n d = sym (back_is a) ∙ ap₂ back n d ∙ back_is b
