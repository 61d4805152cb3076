-- RFC 3629, section 4: UTF8-octets = *( UTF8-char ), a concatenation of sequences of the rows
use Rattle.std.specs.Prelude.{Bool, true, false, cond, ◌&&◌, ℕ, zero, suc, ◌-◌, ◌≤◌, leb, ltb, length}
use mathlib.Core.List.{List, [], ◌∷◌, ◌++◌, Memᴰ}
use Rattle.utf8.specs.Rows.{Span, ◌to◌, rows}

-- what it means: a sequence of a row has as many octets as the row has spans, each in its own
abbrev pub Sequence : List Span → List ℕ → Type 0
Sequence [] [] = Unit {0}
Sequence [] (b ∷ bs) = ⊥
Sequence (p ∷ ps) [] = ⊥
Sequence (first to last ∷ ps) (b ∷ bs) = (first ≤ b) × (b ≤ last) × Sequence ps bs

-- and UTF-8 is any number of such sequences, one after the other
pub data Concatenation : List ℕ → Type 0 where
  none : Concatenation []
  more : {row : List Span} (bs : List ℕ) {rest : List ℕ} → Memᴰ row rows → Sequence row bs → Concatenation rest → Concatenation (bs ++ rest)

-- the same as a test, which `proofs/Concatenations.antt` shows to say yes of just those strings
abbrev pub within : Span → ℕ → Bool
within (first to last) b = leb first b && leb b last

abbrev pub starts_with : List Span → List ℕ → Bool
starts_with [] s = true
starts_with (p ∷ ps) [] = false
starts_with (p ∷ ps) (b ∷ bs) = within p b && starts_with ps bs

-- the length of the first row that the octets start with, 0 where there is none
abbrev pub width : List (List Span) → List ℕ → ℕ
width [] s = 0
width (r ∷ rs) s = cond (starts_with r s) (length r) (width rs s)

-- k octets of a sequence that is whole are still to be passed over
unfoldable pub octets : ℕ → List ℕ → Bool
octets k [] = true
octets zero (b ∷ bs) = ltb 0 (width rows (b ∷ bs)) && octets (width rows (b ∷ bs) - 1) bs
octets (suc k) (b ∷ bs) = octets k bs

unfoldable pub utf8 : List ℕ → Bool
utf8 s = octets 0 s
