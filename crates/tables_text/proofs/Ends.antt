-- The text form of tables ends in a line feed, where it has a byte at all: a last line without one spells no tables.
-- Assumes nothing.
use mathlib.Core.Path.{◌≡◌, refl, ap, ◌∙◌}
use mathlib.Core.List.{List, [], ◌∷◌, ◌++◌}
use Prim.Native.Nat.{ℕ}
use Rattle.ground.specs.Bytes.{bytes}
use Rattle.ground.specs.Lists.{joined}
use Rattle.tables.specs.Sort.{Tables}
use Rattle.tables_text.specs.Line.{line, sort_fields, sort_line, variable_line, function_line, member_line, lines, written}
use Rattle.tables_text.specs.Read.{Spells}

-- the last byte, or the one given where there is none
abbrev pub last_of : ℕ → List ℕ → ℕ
last_of b [] = b
last_of b (c ∷ s) = last_of c s

last-append : (b : ℕ) (s t : List ℕ) → last_of b (s ++ t) ≡ last_of (last_of b s) t
last-append b [] t = refl
last-append b (c ∷ s) t = last-append c s t

last_line : (b : ℕ) (key : List ℕ) (fields : List (List ℕ)) → last_of b (line key fields) ≡ 10
last_line b key fields = last-append b key (joined (bytes " ") fields ++ bytes "\n") ∙ last-append (last_of b key) (joined (bytes " ") fields) (bytes "\n")

module _ {A : Type 0} (write : A → List ℕ) (ends : (b : ℕ) (x : A) → last_of b (write x) ≡ 10) where
  last-lines : (xs : List A) → last_of 10 (lines write xs) ≡ 10
  unfolding lines
  last-lines [] = refl
  last-lines (x ∷ xs) = last-append 10 (write x) (lines write xs) ∙ ap (λ (b : ℕ). last_of b (lines write xs)) (ends 10 x) ∙ last-lines xs

last-both : (s t : List ℕ) → last_of 10 s ≡ 10 → last_of 10 t ≡ 10 → last_of 10 (s ++ t) ≡ 10
last-both s t p q = last-append 10 s t ∙ ap (λ (b : ℕ). last_of b t) p ∙ q

pub spelled-ended : (text : List ℕ) (t : Tables) → Spells text t → last_of 10 text ≡ 10
unfolding written
spelled-ended text t s =
    ap (last_of 10) s.same
    ∙ last-both (lines sort_line t.sorts) (lines variable_line t.variables ++ (lines function_line t.functions ++ lines member_line t.members))
    (last-lines sort_line (λ b x. last_line b (bytes "sort=") (sort_fields x)) t.sorts)
    (last-both (lines variable_line t.variables) (lines function_line t.functions ++ lines member_line t.members)
    (last-lines variable_line (λ b x. last_line b (bytes "var=") _) t.variables)
    (last-both (lines function_line t.functions) (lines member_line t.members)
    (last-lines function_line (λ b x. last_line b (bytes "fun=") _) t.functions)
    (last-lines member_line (λ b x. last_line b (bytes "enum=") _) t.members)))
