-- Document 02, R-2, `ite` and the operators that give a bool: what each of their applications decides, and that it is remembered.
use Rattle.std.specs.Prelude.{◌≡◌, Bool, true, List, ℕ, ◌≤◌, ◌<◌, None, Option, Some, Err, Ok, Result}
use Rattle.ground.specs.Options.{over}
use Rattle.arena.specs.Tree.{Tree, Trees, app}
use Rattle.tables.specs.Sort.{Tables}
use Rattle.shapes.specs.Shape.{Shape, uncovered, as_none, as_some, some_of, as_empty, singleton, union, extension, indexed, made, other, unary, binary, ite, shape}
use Rattle.shapes.specs.Shows.{Standing}
use Rattle.sorts.specs.Sort.{levels}
use Rattle.values.specs.Holds.{truth_of}
use Rattle.means.specs.Literal.{Lit, unary_of, binary_of, read_with}
use Rattle.marks.specs.Mark.{marked}
use Rattle.refusals.specs.declared.Refusal.{Refusal}

abbrev pub kept : Result Lit Refusal → Option Lit
kept (Ok l) = Some l
kept (Err r) = None

-- an operand, where it is a literal
abbrev pub operand : Tables → Tree → Option Lit
operand T t = kept (read_with T true levels None t)

-- what an operator gives, and an `ite`'s condition
abbrev pub decision : Tables → Shape → Option Bool
decision T uncovered = None
decision T (as_none t) = None
decision T (as_some t v) = None
decision T (some_of v) = None
decision T (as_empty t) = None
decision T (singleton v) = None
decision T (union v w) = None
decision T (extension x n) = None
decision T (indexed digits w) = None
decision T (made f us) = None
decision T other = None
decision T (unary op v) = over (operand T v) (λ l. over (unary_of op l) truth_of)
decision T (binary op v w) = over (operand T v) (λ l. over (operand T w) (λ m. over (binary_of op l m) truth_of))
decision T (ite c v w) = over (operand T c) (λ l. truth_of l.value)

-- of each application that stands at a node from the first up to the end, what it decides is remembered
abbrev pub Settled : Tables → List ℕ → List ℕ → List ℕ → ℕ → ℕ → Type 0
Settled T ms ws ts first end =
    (i : ℕ) → first ≤ i → i < end → (us : Trees) → Standing (app us) ws ts i → (b : Bool) → decision T (shape us) ≡ Some b → marked ms i ≡ b
