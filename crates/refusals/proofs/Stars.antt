-- What has no star has no need: the refusals that the Rust has as well tell a number alone.
-- Assumes nothing.
use mathlib.Core.Path.{◌≡◌, refl}
use mathlib.Core.Bool.{false, true≢false}
use Rattle.refusals.specs.declared.Refusal.{Refusal}
use Rattle.refusals.specs.declared.Refusal.TheVariants.{UnexpectedEnd, Utf8Error, StringParseError, ParseIntError, UnclosedSExpr, TrailingTokens, IntegerOverflow, ZeroWidthBitVec, InputTooLong, NodeRoom, TextRoom, DepthRoom, UnexpectedModel, UnknownType, UnknownLiteral, UnmatchedType, UnmatchedFieldType, UnmatchedRecordType, InvalidOptionType, InvalidSetType, UnexpectedForm, NotCovered, NoSortRow, TooNested, BadTable, OutRoom, BadArena, SetUnionNonLiterals}
use Rattle.refusals.specs.Number.{detail_of, starred}

pub unstarred_plain : (why : Refusal) → starred why ≡ false → detail_of why ≡ 0
unstarred_plain UnexpectedEnd h = refl
unstarred_plain Utf8Error h = refl
unstarred_plain StringParseError h = refl
unstarred_plain ParseIntError h = refl
unstarred_plain UnclosedSExpr h = refl
unstarred_plain TrailingTokens h = refl
unstarred_plain IntegerOverflow h = refl
unstarred_plain ZeroWidthBitVec h = refl
unstarred_plain InputTooLong h = refl
unstarred_plain (NodeRoom need) h = absurd (true≢false h)
unstarred_plain (TextRoom need) h = absurd (true≢false h)
unstarred_plain (DepthRoom need) h = absurd (true≢false h)
unstarred_plain UnexpectedModel h = refl
unstarred_plain UnknownType h = refl
unstarred_plain UnknownLiteral h = refl
unstarred_plain UnmatchedType h = refl
unstarred_plain UnmatchedFieldType h = refl
unstarred_plain UnmatchedRecordType h = refl
unstarred_plain InvalidOptionType h = refl
unstarred_plain InvalidSetType h = refl
unstarred_plain UnexpectedForm h = refl
unstarred_plain NotCovered h = refl
unstarred_plain NoSortRow h = refl
unstarred_plain TooNested h = refl
unstarred_plain BadTable h = refl
unstarred_plain (OutRoom need) h = absurd (true≢false h)
unstarred_plain BadArena h = refl
unstarred_plain SetUnionNonLiterals h = refl
