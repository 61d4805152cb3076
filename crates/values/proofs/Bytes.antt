-- UTF-8 is bytes.
-- Assumes nothing.
use mathlib.Core.Path.{◌≡◌, refl, ap, ◌∙◌}
use mathlib.Core.Bool.{Bool, true, ◌&&◌}
use mathlib.Core.List.{List, [], ◌∷◌, Memᴰ}
use Prim.Native.Nat.{ℕ}
use native.Mathlib.Omega.{arith}
use lib.Dec.{ltb}
use borrow.Author.Tests.{lt-ltb, ltb-true}
use Rattle.ground.specs.Lists.{all}
use Rattle.ground.proofs.Tests.{both_left, both_right, both}
use Rattle.utf8.specs.Rows.{Span, ◌to◌, rows}
use Rattle.utf8.specs.Octets.{Sequence, Concatenation, none, more, utf8}
use Rattle.utf8.proofs.Concatenations.{utf8-means}
use Rattle.values.specs.Plain.{is_byte}
use Rattle.values.proofs.Alls.{all_append}

-- each span ends at a byte
abbrev spanned : List Span → Bool
spanned [] = true
spanned ((first to last) ∷ ps) = ltb last 256 && spanned ps

sequence-bytes : (row : List Span) (bs : List ℕ) → spanned row ≡ true → Sequence row bs → all is_byte bs ≡ true
unfolding all
sequence-bytes [] [] p h = refl
sequence-bytes [] (b ∷ bs) p h = absurd h
sequence-bytes (q ∷ ps) [] p h = absurd h
sequence-bytes ((first to last) ∷ ps) (b ∷ bs) p h =
    let k = ltb-true last 256 (both_left (ltb last 256) (spanned ps) p) in
    both (lt-ltb b 256 (omega (arith, h.1, k))) (sequence-bytes ps bs (both_right (ltb last 256) (spanned ps) p) h.2)

member-spanned : (row : List Span) (rs : List (List Span)) → Memᴰ row rs → all spanned rs ≡ true → spanned row ≡ true
unfolding all
member-spanned row (r ∷ rs) (Memᴰ.head e) p = ap spanned e ∙ both_left (spanned r) (all spanned rs) p
member-spanned row (r ∷ rs) (Memᴰ.tail m) p = member-spanned row rs m (both_right (spanned r) (all spanned rs) p)
member-spanned row [] x'' p = elim x'' [ ]

rows-spanned : all spanned rows ≡ true
unfolding all
rows-spanned = refl

concatenation_bytes : {s : List ℕ} → Concatenation s → all is_byte s ≡ true
unfolding all
concatenation_bytes none = refl
concatenation_bytes (more {row} bs {rest} m h c) =
    all_append is_byte bs rest (sequence-bytes row bs (member-spanned row rows m rows-spanned) h) (concatenation_bytes c)

pub utf8-bytes : (s : List ℕ) → utf8 s ≡ true → all is_byte s ≡ true
utf8-bytes s e = concatenation_bytes ((utf8-means s).0 e)
