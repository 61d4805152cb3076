-- Document 01, "Numbers given back": each refusal's number, its detail, and whether it is starred (added to the Rust's own).
use Rattle.std.specs.Prelude.{Bool, true, false, ℕ}
use Rattle.refusals.specs.declared.Refusal.{Refusal}
use Rattle.refusals.specs.declared.Refusal.TheVariants.{UnexpectedEnd, Utf8Error, StringParseError, ParseIntError, UnclosedSExpr, TrailingTokens, IntegerOverflow, ZeroWidthBitVec, InputTooLong, NodeRoom, TextRoom, DepthRoom, UnexpectedModel, UnknownType, UnknownLiteral, UnmatchedType, UnmatchedFieldType, UnmatchedRecordType, InvalidOptionType, InvalidSetType, UnexpectedForm, NotCovered, NoSortRow, TooNested, BadTable, OutRoom, BadArena, SetUnionNonLiterals}

abbrev pub number_of : Refusal → ℕ
number_of UnexpectedEnd = 1
number_of Utf8Error = 2
number_of StringParseError = 3
number_of ParseIntError = 4
number_of UnclosedSExpr = 5
number_of TrailingTokens = 6
number_of IntegerOverflow = 7
number_of ZeroWidthBitVec = 8
number_of InputTooLong = 9
number_of (NodeRoom _) = 10
number_of (TextRoom _) = 11
number_of (DepthRoom _) = 12
number_of UnexpectedModel = 13
number_of UnknownType = 14
number_of UnknownLiteral = 15
number_of UnmatchedType = 16
number_of UnmatchedFieldType = 17
number_of UnmatchedRecordType = 18
number_of InvalidOptionType = 19
number_of InvalidSetType = 20
number_of UnexpectedForm = 21
number_of NotCovered = 22
number_of NoSortRow = 23
number_of TooNested = 24
number_of BadTable = 25
number_of (OutRoom _) = 26
number_of BadArena = 27
number_of SetUnionNonLiterals = 28

-- the exact need for 10, 11, 12 and 26, else 0
abbrev pub detail_of : Refusal → ℕ
detail_of UnexpectedEnd = 0
detail_of Utf8Error = 0
detail_of StringParseError = 0
detail_of ParseIntError = 0
detail_of UnclosedSExpr = 0
detail_of TrailingTokens = 0
detail_of IntegerOverflow = 0
detail_of ZeroWidthBitVec = 0
detail_of InputTooLong = 0
detail_of (NodeRoom need) = need
detail_of (TextRoom need) = need
detail_of (DepthRoom need) = need
detail_of UnexpectedModel = 0
detail_of UnknownType = 0
detail_of UnknownLiteral = 0
detail_of UnmatchedType = 0
detail_of UnmatchedFieldType = 0
detail_of UnmatchedRecordType = 0
detail_of InvalidOptionType = 0
detail_of InvalidSetType = 0
detail_of UnexpectedForm = 0
detail_of NotCovered = 0
detail_of NoSortRow = 0
detail_of TooNested = 0
detail_of BadTable = 0
detail_of (OutRoom need) = need
detail_of BadArena = 0
detail_of SetUnionNonLiterals = 0

-- added in the port: equality with the Rust is claimed where no starred number is given
abbrev pub starred : Refusal → Bool
starred UnexpectedEnd = false
starred Utf8Error = false
starred StringParseError = false
starred ParseIntError = false
starred UnclosedSExpr = false
starred TrailingTokens = false
starred IntegerOverflow = false
starred ZeroWidthBitVec = false
starred InputTooLong = true
starred (NodeRoom _) = true
starred (TextRoom _) = true
starred (DepthRoom _) = true
starred UnexpectedModel = false
starred UnknownType = false
starred UnknownLiteral = false
starred UnmatchedType = false
starred UnmatchedFieldType = false
starred UnmatchedRecordType = false
starred InvalidOptionType = false
starred InvalidSetType = false
starred UnexpectedForm = false
starred NotCovered = true
starred NoSortRow = true
starred TooNested = true
starred BadTable = true
starred (OutRoom _) = true
starred BadArena = true
starred SetUnionNonLiterals = false
