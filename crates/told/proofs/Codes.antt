-- A refusal as one word: its number and its detail can be read back, and no refusal is told as 0.
-- Assumes nothing.
use mathlib.Core.Path.{◌≡◌, sym, ap, ◌∙◌}
use Prim.Native.Nat.{ℕ, ◌+◌, ◌*◌, ◌/◌, ◌%◌, ◌^◌, ◌≤◌, ◌<◌}
use native.Mathlib.Omega.{arith}
use Rattle.refusals.specs.declared.Refusal.{Refusal}
use Rattle.refusals.specs.declared.Refusal.TheVariants.{UnexpectedEnd, Utf8Error, StringParseError, ParseIntError, UnclosedSExpr, TrailingTokens, IntegerOverflow, ZeroWidthBitVec, InputTooLong, NodeRoom, TextRoom, DepthRoom, UnexpectedModel, UnknownType, UnknownLiteral, UnmatchedType, UnmatchedFieldType, UnmatchedRecordType, InvalidOptionType, InvalidSetType, UnexpectedForm, NotCovered, NoSortRow, TooNested, BadTable, OutRoom, BadArena, SetUnionNonLiterals}
use Rattle.refusals.specs.Number.{number_of, detail_of}
use Rattle.refusals.proofs.Tells.{tells}
use Rattle.told.specs.Code.{code_of}

record Numbered (n : ℕ) : Type 0 where
  pub some : 0 < n
  pub small : n ≤ 28

numbered : (why : Refusal) → Numbered (number_of why)
numbered UnexpectedEnd = record { some = omega arith; small = omega arith }
numbered Utf8Error = record { some = omega arith; small = omega arith }
numbered StringParseError = record { some = omega arith; small = omega arith }
numbered ParseIntError = record { some = omega arith; small = omega arith }
numbered UnclosedSExpr = record { some = omega arith; small = omega arith }
numbered TrailingTokens = record { some = omega arith; small = omega arith }
numbered IntegerOverflow = record { some = omega arith; small = omega arith }
numbered ZeroWidthBitVec = record { some = omega arith; small = omega arith }
numbered InputTooLong = record { some = omega arith; small = omega arith }
numbered (NodeRoom _) = record { some = omega arith; small = omega arith }
numbered (TextRoom _) = record { some = omega arith; small = omega arith }
numbered (DepthRoom _) = record { some = omega arith; small = omega arith }
numbered UnexpectedModel = record { some = omega arith; small = omega arith }
numbered UnknownType = record { some = omega arith; small = omega arith }
numbered UnknownLiteral = record { some = omega arith; small = omega arith }
numbered UnmatchedType = record { some = omega arith; small = omega arith }
numbered UnmatchedFieldType = record { some = omega arith; small = omega arith }
numbered UnmatchedRecordType = record { some = omega arith; small = omega arith }
numbered InvalidOptionType = record { some = omega arith; small = omega arith }
numbered InvalidSetType = record { some = omega arith; small = omega arith }
numbered UnexpectedForm = record { some = omega arith; small = omega arith }
numbered NotCovered = record { some = omega arith; small = omega arith }
numbered NoSortRow = record { some = omega arith; small = omega arith }
numbered TooNested = record { some = omega arith; small = omega arith }
numbered BadTable = record { some = omega arith; small = omega arith }
numbered (OutRoom _) = record { some = omega arith; small = omega arith }
numbered BadArena = record { some = omega arith; small = omega arith }
numbered SetUnionNonLiterals = record { some = omega arith; small = omega arith }

-- neither step of the code wraps
pub code_fits : (why : Refusal) (n d : ℕ) → n ≡ number_of why → n + 256 * (d % 2 ^ 56) < 2 ^ 64
code_fits why n d p = omega (arith, (numbered why).small)

pub code_is : (why : Refusal) (n d : ℕ) → n ≡ number_of why → d ≡ detail_of why → n + 256 * (d % 2 ^ 56) ≡ code_of why
unfolding code_of
code_is why n d p q = rw p (rw q)

pub code-some : (why : Refusal) → 0 < code_of why
unfolding code_of
code-some why = omega (arith, (numbered why).some)

-- the low byte is the number, always
pub code-number : (why : Refusal) → code_of why % 256 ≡ number_of why
unfolding code_of
code-number why = omega (arith, (numbered why).small)

-- what stands above it is the detail, where 56 bits hold it
pub code-detail : (why : Refusal) → detail_of why < 2 ^ 56 → code_of why / 256 ≡ detail_of why
unfolding code_of
code-detail why h = omega (arith, (numbered why).small)

-- two refusals told by one word are one
pub code-tells : (a b : Refusal) → detail_of a < 2 ^ 56 → detail_of b < 2 ^ 56 → code_of a ≡ code_of b → a ≡ b
code-tells a b p q e =
    tells a b (sym (code-number a) ∙ ap (λ (n : ℕ). n % 256) e ∙ code-number b)
    (sym (code-detail a p) ∙ ap (λ (n : ℕ). n / 256) e ∙ code-detail b q)
