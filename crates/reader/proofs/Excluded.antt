-- Wrong programs that the contract shuts out, on the input `a` with room to spare.
-- Assumes nothing.
use Rattle.std.proofs.Common.{Err, Ok, Result}
use mathlib.Core.Path.{◌≡◌, refl, ap, ◌∙◌}
use mathlib.Core.List.{List, [], ◌∷◌}
use Prim.Native.Nat.{ℕ}
use native.Mathlib.Omega.{arith}
use Rattle.refusals.specs.declared.Refusal.{Refusal}
use Rattle.words.specs.Radix.{worth}
use Rattle.utf8.specs.Octets.{octets, utf8}
use Rattle.lexicon.specs.Class.{class_of}
use Rattle.lexicon.specs.Span.{span_by, in_symbol}
use Rattle.tokens.specs.Lexeme.{lexeme_at}
use Rattle.tokens.specs.Piece.{piece_at, lex_after}
use Rattle.reader.specs.Read.{parse, Left, reading, Leaves}
use Rattle.reader.specs.declared.read.Reading.{Reading}

abbrev N : List ℕ
N = 9 ∷ 9 ∷ 9 ∷ 9 ∷ 9 ∷ []

abbrev T : List ℕ
T = 7 ∷ 7 ∷ []

abbrev S : List ℕ
S = 3 ∷ []

abbrev left : Left
left = reading N T S (0x61 ∷ [])

-- a word and a byte behind the tree stay, and so does the whole stack
pub the_left : left ≡ record { answer = (Ok (record { nodes = 1; text = 1; depth = 0 })); nodes = 4 ∷ 1 ∷ 0 ∷ 0 ∷ 9 ∷ []; text = 0x61 ∷ 7 ∷ []; stack = 3 ∷ [] }
unfolding reading parse lex_after piece_at lexeme_at class_of span_by in_symbol utf8 octets worth
the_left = refl

abbrev kind : Result Reading Refusal → ℕ
kind (Ok it) = it.text
kind (Err why) = 2

abbrev first : List ℕ → ℕ
first [] = 0
first (w ∷ ws) = w

-- a reader that refuses all
pub refuses-all : (why : Refusal) (N' T' S' : List ℕ) → Leaves left (Err why) N' T' S' → ⊥
refuses-all why N' T' S' h = let e : ◌≡◌ {A = ℕ} 2 1 = ap kind (h.answers ∙ ap (λ (l : Left). l.answer) the_left) in absurd (omega arith)

-- one that answers what `()` gets
pub one_answer : (N' T' S' : List ℕ) → Leaves left (Ok (record { nodes = 1; text = 0; depth = 1 })) N' T' S' → ⊥
one_answer N' T' S' h = let e : ◌≡◌ {A = ℕ} 0 1 = ap kind (h.answers ∙ ap (λ (l : Left). l.answer) the_left) in absurd (omega arith)

-- one that writes no arena
pub no-arena : (r : Result Reading Refusal) (T' S' : List ℕ) → Leaves left r N T' S' → ⊥
no-arena r T' S' h = let e : ◌≡◌ {A = ℕ} 9 4 = ap first (h.nodes ∙ ap (λ (l : Left). l.nodes) the_left) in absurd (omega arith)
