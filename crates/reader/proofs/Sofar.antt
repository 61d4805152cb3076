-- The first pass up to a place: numbers that stay small, and what is still to be counted.
-- Assumes nothing.
use Rattle.std.proofs.Common.{Err, Ok, Result}
use mathlib.Core.Path.{◌≡◌, refl, sym, ap, ◌∙◌, subst}
use mathlib.Core.List.{List}
use Prim.Native.Nat.{ℕ, ◌+◌, ◌-◌, ◌*◌, ◌≤◌, ◌<◌}
use native.Mathlib.Omega.{arith}
use lib.Dec.{eqb}
use lib.ListN.{length, take, drop, drop_of_length-le, length-take}
use Rattle.refusals.specs.Limit.{input_limit}
use Rattle.ground.proofs.Tests.{by_test}
use Rattle.strings.proofs.Texts.{Bytes}
use Rattle.refusals.specs.declared.Refusal.{Refusal}
use Rattle.brackets.specs.declared.scan.Phase.{Phase}
use Rattle.brackets.specs.declared.scan.Phase.TheVariants.{Going, Done, Unclosed, Trailing}
use Rattle.brackets.specs.declared.scan.Scan.{Scan}
use Rattle.brackets.specs.Token.{opens, closes, atom, atom_text}
use Rattle.brackets.specs.Count.{start, opened, closed, added, while}
use Rattle.tokens.specs.declared.lexeme.Lexeme.{Lexeme}
use Rattle.tokens.specs.Lexeme.{blank_span, lexeme_at}
use Rattle.tokens.specs.Piece.{Piece, space, token, wrong, piece_of, sized_of, Lexed, ok, bad, emit, lex}
use Rattle.tokens.proofs.Lexes.{lex-nil, found_some, found_within, found-there, found-piece, lex-at, text_size, size_small, bytes-part}
use Rattle.tokens.proofs.Pasts.{past-within, past_same}
use Rattle.reader.specs.Tally.{turned, tallied, Ample}

-- how far one piece moves the numbers
pub record Near (c d : Scan) (n : ℕ) : Type 0 where
  pub depth : d.depth ≤ c.depth + 1
  pub nodes : d.nodes ≤ c.nodes + 1
  pub text : d.text ≤ c.text + n

near_while : (c next : Scan) (p : Phase) (n : ℕ) → Near c next n → Near c (while c next p) n
near_while c next Going n h = h
near_while c next Done n h = record { depth = omega arith; nodes = omega arith; text = omega arith }
near_while c next Unclosed n h = record { depth = omega arith; nodes = omega arith; text = omega arith }
near_while c next Trailing n h = record { depth = omega arith; nodes = omega arith; text = omega arith }

near_closed : (c : Scan) → Near c (closed c) 0
near_closed c =
    by_test (eqb c.depth 0)
    (λ t. rw t (record { depth = omega arith; nodes = omega arith; text = omega arith }))
    (λ t. rw t (record { depth = omega arith; nodes = omega arith; text = omega arith }))

-- the scan of a tally, or the one before it
abbrev scan_of : Scan → Result Scan Refusal → Scan
scan_of c (Ok d) = d
scan_of c (Err why) = c

near_turned : (c : Scan) (p : Piece) → Near c (scan_of c (turned c p)) (text_size p)
near_turned c space = record { depth = omega arith; nodes = omega arith; text = omega arith }
near_turned c (token opens) = near_while c (opened c) c.phase 0 (record { depth = omega arith; nodes = omega arith; text = omega arith })
near_turned c (token closes) = near_while c (closed c) c.phase 0 (near_closed c)
near_turned c (token (atom a)) =
    near_while c (added c (length (atom_text a))) c.phase (length (atom_text a)) (record { depth = omega arith; nodes = omega arith; text = omega arith })
near_turned c (wrong why) = record { depth = omega arith; nodes = omega arith; text = omega arith }

-- the rest of the tokens after one piece
abbrev onward : Result Scan Refusal → Lexed → Result Scan Refusal
onward (Ok d) r = tallied d r
onward (Err why) r = Err why

tallied-emit : (c : Scan) (p : Piece) (r : Lexed) → tallied c (emit p r) ≡ onward (turned c p) r
tallied-emit c space r = refl
tallied-emit c (token x) (ok xs) = refl
tallied-emit c (token x) (bad why) = refl
tallied-emit c (wrong why) r = refl

-- the size that is known, or none
abbrev size_of : Result ℕ Refusal → ℕ
size_of (Ok n) = n
size_of (Err why) = 0

size_is : (p : Piece) (n : ℕ) → sized_of p ≡ Ok n → n ≡ text_size p
size_is space n q = sym (ap size_of q)
size_is (token opens) n q = sym (ap size_of q)
size_is (token closes) n q = sym (ap size_of q)
size_is (token (atom a)) n q = sym (ap size_of q)
size_is (wrong why) n q = sym (ap size_of q)

pub record Sofar (s : List ℕ) (at : ℕ) (c : Scan) : Type 0 where
  pub within : at ≤ length s
  pub depth : c.depth ≤ at
  pub nodes : c.nodes ≤ at
  pub text : c.text ≤ 2 * at
  pub rest : tallied c (lex (drop at s)) ≡ tallied start (lex s)

pub sofar-start : (s : List ℕ) → Sofar s 0 start
sofar-start s = record { within = omega arith; depth = omega arith; nodes = omega arith; text = omega arith; rest = refl }

-- at the end nothing is left to count
pub sofar-end : (s : List ℕ) (at : ℕ) (c : Scan) → Sofar s at c → length s ≤ at → Ok c ≡ tallied start (lex s)
sofar-end s at c h k = ap (tallied c) (sym (ap lex (drop_of_length-le s k) ∙ lex-nil)) ∙ h.rest

-- white space changes nothing
pub sofar-past : (s : List ℕ) (at next : ℕ) (c : Scan) → Sofar s at c → next ≡ at + blank_span (drop at s) → Sofar s next c
sofar-past s at next c h p = record {
  within = past-within s at next p h.within;
  depth = omega (arith, h.depth);
  nodes = omega (arith, h.nodes);
  text = omega (arith, h.text);
  rest = ap (tallied c) (past_same s at next p) ∙ h.rest;
}

-- one lexeme more, its content cut out as the code does
module _ (s : List ℕ) (at : ℕ) (c : Scan) (l : Lexeme) (h : Sofar s at c) (bytes : Bytes s) (less : at < length s) (is : l ≡ lexeme_at (drop at s)) where
  abbrev content : List ℕ
  content = take (at + l.skip + l.size - (at + l.skip)) (drop (at + l.skip) s)

  abbrev pub piece : Piece
  piece = piece_of l.kind content

  text-small : text_size piece ≤ 2 * l.width
  text-small =
      omega (
        arith,
        size_small l.kind content (bytes-part s (at + l.skip + l.size - (at + l.skip)) (at + l.skip) bytes),
        length-take (at + l.skip + l.size - (at + l.skip)) (drop (at + l.skip) s),
        found_within s at l less is,
      )

  pub ample : length s ≤ input_limit → Ample c piece
  ample limit = record {
    depth = omega (arith, h.depth);
    nodes = omega (arith, h.nodes);
    text = λ n q. omega (arith, size_is piece n q, text-small, h.text, found-there s at l less is);
  }

  on : onward (turned c piece) (lex (drop (at + l.width) s)) ≡ tallied start (lex s)
  on =
      sym (tallied-emit c piece (lex (drop (at + l.width) s)))
      ∙ ap (λ (p : Piece). tallied c (emit p (lex (drop (at + l.width) s)))) (sym (found-piece s at l less is))
      ∙ ap (tallied c) (sym (lex-at s at l less is)) ∙ h.rest

  pub sofar-step : (d : Scan) → Ok d ≡ turned c piece → Sofar s (at + l.width) d
  sofar-step d q =
      let n : Near c d (text_size piece) = subst (λ (x : Scan). Near c x (text_size piece)) (sym (ap (scan_of c) q)) (near_turned c piece) in
      record {
        within = found-there s at l less is;
        depth = omega (arith, n.depth, h.depth, found_some s at l less is);
        nodes = omega (arith, n.nodes, h.nodes, found_some s at l less is);
        text = omega (arith, n.text, h.text, text-small);
        rest = ap (λ (t : Result Scan Refusal). onward t (lex (drop (at + l.width) s))) q ∙ on;
      }

  pub sofar-fault : (r : Result Scan Refusal) (why : Refusal) → r ≡ Err why → r ≡ turned c piece → r ≡ tallied start (lex s)
  sofar-fault r why f q = f ∙ ap (λ (t : Result Scan Refusal). onward t (lex (drop (at + l.width) s))) (sym f ∙ q) ∙ on
