-- Document 01, "What is carried over", item 4: ends that fall, that pass the string, and that are odd in count for pairs.
use Rattle.std.specs.Prelude.{◌≡◌, refl, [], ◌∷◌, None, Some}
use Rattle.parts.specs.Parts.{rise, risen, pairs_risen}

ends : risen 3 (1 ∷ 1 ∷ 3 ∷ []) ∷ risen 3 (2 ∷ 1 ∷ []) ∷ risen 3 (4 ∷ []) ∷ [] ≡ Some 3 ∷ None ∷ None ∷ []
unfolding rise
ends = refl

pairs : pairs_risen 3 (1 ∷ 3 ∷ []) ∷ pairs_risen 3 (1 ∷ 2 ∷ 3 ∷ []) ∷ pairs_risen 3 [] ∷ [] ≡ Some 3 ∷ None ∷ Some 0 ∷ []
unfolding rise
pairs = refl
