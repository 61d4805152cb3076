-- SMT-LIB 2.7 §3.1 beside document 01, "Bytes to tokens" and "The arena": that ours reads what the standard has, as its image.
use Rattle.std.specs.Prelude.{◌≡◌, true, List, ℕ, ◌≤◌, length}
use Rattle.words.specs.Extension.{signed}
use Rattle.brackets.specs.Walk.{tree}
use Rattle.refusals.specs.Limit.{input_limit}
use Rattle.reader.specs.Read.{parse, fitted, reading}
use Rattle.standard.specs.Written.{Atom, numeral, decimal, hexadecimal, binary, literal, simple, barred, keyword, Expression, Written}
use Rattle.standard.specs.Image.{signed_by, twos, image}
use Rattle.standard.specs.Limits.{Each, Within, no_lone_return}

-- read as signed, the 128 bits of a bit vector's image are its number, signed at its width
abbrev pub Kept : Atom → Type 0
Kept (numeral ds) = Unit {0}
Kept (decimal ds es) = Unit {0}
Kept (hexadecimal ds) = signed 128 (twos (signed_by 4 16 ds)) ≡ signed_by 4 16 ds
Kept (binary ds) = signed 128 (twos (signed_by 1 2 ds)) ≡ signed_by 1 2 ds
Kept (literal s) = Unit {0}
Kept (simple s) = Unit {0}
Kept (barred s) = Unit {0}
Kept (keyword s) = Unit {0}

-- what `standard_read` proves of every S-expression and all bytes that are it
pub record ReadAsImage (x : Expression) (s : List ℕ) (w : Written x s) : Type 0 where
  pub parsed : Within x → no_lone_return w ≡ true → parse s ≡ tree (image x)
  -- in lent nodes, text and stack: written there, or refused for want of room
  pub left : Within x → no_lone_return w ≡ true → length s ≤ input_limit → (N T S : List ℕ) → reading N T S s ≡ fitted N T S (image x)
  -- the numbers of bit vectors are the standard's
  pub signs : Within x → Each Kept x
