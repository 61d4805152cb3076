-- Document 01, "What is carried over", item 4: a list comes as a lent byte string with a table of ends, pairs as two ends each.
use Rattle.std.specs.Prelude.{Bool, true, cond, ◌&&◌, List, [], ◌∷◌, ◌++◌, ℕ, ◌-◌, ◌%◌, leb, eqb, length, take, drop, None, Option, Some}

-- each part goes from the end before it to its own; bytes past the last end belong to no part
unfoldable pub parts_from : ℕ → List ℕ → List ℕ → List (List ℕ)
parts_from start string [] = []
parts_from start string (end ∷ ends) = take (end - start) (drop start string) ∷ parts_from end string ends

abbrev pub parts : List ℕ → List ℕ → List (List ℕ)
parts string ends = parts_from 0 string ends

-- parts taken two by two; one that is left over is no pair
unfoldable pub paired {ℓ} : {A : Type ℓ} → (List ℕ → List ℕ → A) → List (List ℕ) → List A
paired make [] = []
paired make (name ∷ []) = []
paired make (name ∷ sort ∷ parts) = make name sort ∷ paired make parts

-- no end falls below the one before it, and none passes the string
unfoldable pub rise : ℕ → ℕ → List ℕ → Bool
rise start size [] = true
rise start size (end ∷ ends) = leb start end && leb end size && rise end size ends

abbrev pub ends_right : List ℕ → List ℕ → Bool
ends_right string ends = rise 0 (length string) ends

abbrev pub pairs_right : List ℕ → List ℕ → Bool
pairs_right string ends = ends_right string ends && eqb (length ends % 2) 0

-- where the last part ends
abbrev pub last_from : ℕ → List ℕ → ℕ
last_from start [] = start
last_from start (end ∷ ends) = last_from end ends

-- the separator before each part
unfoldable pub trailed : List ℕ → List (List ℕ) → List ℕ
trailed separator [] = []
trailed separator (part ∷ parts) = separator ++ (part ++ trailed separator parts)

-- where the last part ends, unless an end falls or passes the string
abbrev pub risen : ℕ → List ℕ → Option ℕ
risen size ends = cond (rise 0 size ends) (Some (last_from 0 ends)) None

abbrev pub pairs_risen : ℕ → List ℕ → Option ℕ
pairs_risen size ends = cond (rise 0 size ends && eqb (length ends % 2) 0) (Some (last_from 0 ends)) None
