-- Document 01, "The arena": what one token writes, on the whole lists that the lent buffers are.
use Rattle.std.specs.Prelude.{◌≡◌, cond, List, ℕ, ◌+◌, ◌-◌, ◌*◌, ◌^◌, ◌≤◌, ◌<◌, eqb, length, get_or, set}
use Rattle.std.proofs.lemmas.List.Edits.{sets}
use Rattle.arena.specs.Layout.{stride, children_word, end_word, app_words}
use Rattle.brackets.specs.declared.scan.Scan.{Scan}
use Rattle.brackets.specs.Token.{Token, opens, closes, atom, atom_text, atom_words}

-- where an application counts its children, and where it has its end
abbrev pub children_cell : ℕ → ℕ
children_cell n = n * stride + children_word

abbrev pub end_cell : ℕ → ℕ
end_cell n = n * stride + end_word

-- the first node of the innermost of d open lists
abbrev pub innermost : ℕ → List ℕ → ℕ
innermost d S = get_or S (d - 1) 0

abbrev pub node_n : ℕ → List ℕ → List ℕ → List ℕ
node_n n ws N = sets N (n * stride) ws

-- the innermost of d open lists, if there is one, has a child more
abbrev pub bump_n : ℕ → List ℕ → List ℕ → List ℕ
bump_n d N S = cond (eqb d 0) N (set N (children_cell (innermost d S)) (get_or N (children_cell (innermost d S)) 0 + 1))

abbrev pub shut_n : ℕ → ℕ → List ℕ → List ℕ → List ℕ
shut_n n d N S = set N (end_cell (innermost d S)) n

abbrev pub close_n : ℕ → ℕ → List ℕ → List ℕ → List ℕ
close_n n d N S = bump_n (d - 1) (shut_n n d N S) S

abbrev pub leaf_n : ℕ → ℕ → List ℕ → List ℕ → List ℕ → List ℕ
leaf_n n d ws N S = bump_n d (node_n n ws N) S

abbrev pub put_n : Scan → Token → List ℕ → List ℕ → List ℕ
put_n c opens N S = node_n c.nodes (app_words 0 0) N
put_n c closes N S = close_n c.nodes c.depth N S
put_n c (atom a) N S = leaf_n c.nodes c.depth (atom_words a c.text) N S

abbrev pub put_t : Scan → Token → List ℕ → List ℕ
put_t c opens T = T
put_t c closes T = T
put_t c (atom a) T = sets T c.text (atom_text a)

abbrev pub put_s : Scan → Token → List ℕ → List ℕ
put_s c opens S = set S c.depth c.nodes
put_s c closes S = S
put_s c (atom a) S = S

-- what the stores need: the innermost of d open lists, if there is one, counts within N, and one more fits a word
pub record Counts (d : ℕ) (N S : List ℕ) : Type 0 where
  pub inside : d ≤ length S
  pub within : 0 < d → children_cell (innermost d S) < length N
  pub fits : 0 < d → get_or N (children_cell (innermost d S)) 0 < 2 ^ 63

pub record FineOpen (n d : ℕ) (N S : List ℕ) : Type 0 where
  pub node : n * stride + stride ≤ length N
  pub deep : d < length S

-- what an opening bracket leaves
pub record Opened (n d : ℕ) (N N' S S' : List ℕ) : Type 0 where
  pub nodes : N' ≡ node_n n (app_words 0 0) N
  pub stack : S' ≡ set S d n

pub record FineClose (d : ℕ) (N S : List ℕ) : Type 0 where
  pub some : 0 < d
  pub deep : d ≤ length S
  pub node : end_cell (innermost d S) < length N
  pub counts : Counts (d - 1) N S

pub record FineLeaf (n d : ℕ) (ws N S : List ℕ) : Type 0 where
  pub node : n * stride + stride ≤ length N
  pub counts : Counts d (node_n n ws N) S
