-- Document 01, "What is carried over", items 3 and 4: parts that are single S-expressions, none ending inside a comment, and what it is to be read.
use Rattle.std.specs.Prelude.{◌≡◌, Bool, true, false, not, List, [], ◌∷◌, ℕ, zero, suc, ◌-◌, ◌≤◌, eqb, length}
use Rattle.lexicon.specs.Class.{class_of, comment}
use Rattle.arena.specs.Tree.{Tree, Trees, nil, cons}
use Rattle.brackets.specs.Walk.{tree}
use Rattle.tokens.specs.Lexeme.{lexeme_at}
use Rattle.refusals.specs.Limit.{input_limit}
use Rattle.reader.specs.Read.{parse, fitted, reading}

abbrev pub is_comment : ℕ → Bool
is_comment first = eqb (class_of first) comment

-- k bytes still belong to what stands before them, which is a comment or not
unfoldable pub outside_after : Bool → ℕ → List ℕ → Bool
outside_after in_comment k [] = not in_comment
outside_after in_comment zero (b ∷ bs) = outside_after (is_comment b) ((lexeme_at (b ∷ bs)).width - 1) bs
outside_after in_comment (suc k) (b ∷ bs) = outside_after in_comment k bs

-- the last of what the reader finds is not a comment; the line feed that ends one stands after it
abbrev pub outside : List ℕ → Bool
outside s = outside_after false 0 s

-- bytes that are a single S-expression, this tree, and do not end inside a comment
pub record Expression (part : List ℕ) (t : Tree) : Type 0 where
  pub parsed : parse part ≡ tree t
  pub ends : outside part ≡ true

-- each part is the tree in its place
pub data Expressions : List (List ℕ) → Trees → Type 0 where
  none : Expressions [] nil
  first : {part : List ℕ} {t : Tree} {parts : List (List ℕ)} {ts : Trees}
      → Expression part t → Expressions parts ts → Expressions (part ∷ parts) (cons t ts)

-- a line is read as a tree; within the reader's limit, it is written in lent nodes, text and stack, or refused for want of room
pub record ReadAs (line : List ℕ) (t : Tree) : Type 0 where
  pub parsed : parse line ≡ tree t
  pub left : length line ≤ input_limit → (N T S : List ℕ) → reading N T S line ≡ fitted N T S t
