-- The first pass: the tokens counted, or the first lexical fault.
use Rattle.std.specs.Prelude.{◌≡◌, ℕ, ◌+◌, ◌<◌, ◌^◌, Err, Ok, Result}
use Rattle.brackets.specs.declared.scan.Scan.{Scan}
use Rattle.brackets.specs.Count.{counts, counted, added, while}
use Rattle.tokens.specs.Piece.{Piece, space, token, wrong, sized_of, Lexed, ok, bad}
use Rattle.refusals.specs.declared.Refusal.{Refusal}

-- one piece more
abbrev pub turned : Scan → Piece → Result Scan Refusal
turned c space = Ok c
turned c (token x) = Ok (counts c x)
turned c (wrong why) = Err why

-- all the tokens more
abbrev pub tallied : Scan → Lexed → Result Scan Refusal
tallied c (ok xs) = Ok (counted c xs)
tallied c (bad why) = Err why

-- an atom of which the text's size is known
abbrev pub sized_turn : Scan → Result ℕ Refusal → Result Scan Refusal
sized_turn c (Ok n) = Ok (while c (added c n) c.phase)
sized_turn c (Err why) = Err why

-- numbers that do not wrap
pub record Ample (c : Scan) (p : Piece) : Type 0 where
  pub depth : c.depth < 2 ^ 63
  pub nodes : c.nodes < 2 ^ 63
  pub text : (n : ℕ) → sized_of p ≡ Ok n → c.text + n < 2 ^ 63
