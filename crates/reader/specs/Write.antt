-- The second pass: what one piece needs and leaves, and what all of them leave, on the whole lists of the lent buffers.
use Rattle.std.specs.Prelude.{◌≡◌, List, ◌++◌, ℕ, ◌+◌, ◌*◌, ◌≤◌, ◌<◌, ◌^◌, length, drop}
use Rattle.arena.specs.Tree.{Tree, nodes, text, depth}
use Rattle.arena.specs.Layout.{stride, words}
use Rattle.brackets.specs.declared.scan.Scan.{Scan}
use Rattle.brackets.specs.Token.{opens, closes, atom, atom_text, atom_words}
use Rattle.brackets.specs.Count.{counts, added, while}
use Rattle.brackets.specs.Put.{leaf_n, put_n, put_t, put_s, FineOpen, FineClose, FineLeaf}
use Rattle.brackets.specs.Walk.{tree}
use Rattle.tokens.specs.Piece.{Piece, space, token, wrong}
use Rattle.reader.specs.Read.{parse}

-- an atom's node: room for it and for one more of its list's children; numbers that do not wrap
pub record FineNode (c : Scan) (ws : List ℕ) (size : ℕ) (N S : List ℕ) : Type 0 where
  pub leaf : FineLeaf c.nodes c.depth ws N S
  pub nodes : c.nodes < 2 ^ 63
  pub text : c.text + size < 2 ^ 63

-- what an atom's node leaves
pub record Noded (c : Scan) (ws : List ℕ) (size : ℕ) (N N' S : List ℕ) (r : Scan) : Type 0 where
  pub nodes : N' ≡ leaf_n c.nodes c.depth ws N S
  pub next : r ≡ while c (added c size) c.phase

-- an atom: its node, and room for its text
pub record FineAtom (c : Scan) (ws x N T S : List ℕ) : Type 0 where
  pub node : FineNode c ws (length x) N S
  pub room : c.text + length x ≤ length T

pub record FineBracket (c : Scan) (Fine : Type 0) : Type 0 where
  pub fine : Fine
  pub depth : c.depth < 2 ^ 63
  pub nodes : c.nodes < 2 ^ 63

-- what an opening and a closing bracket leave
pub record OpenedBy (c : Scan) (N N' S S' : List ℕ) (r : Scan) : Type 0 where
  pub nodes : N' ≡ put_n c opens N S
  pub stack : S' ≡ put_s c opens S
  pub next : r ≡ counts c opens

pub record ClosedBy (c : Scan) (N N' S : List ℕ) (r : Scan) : Type 0 where
  pub nodes : N' ≡ put_n c closes N S
  pub next : r ≡ counts c closes

-- the node of a number, which has no text
abbrev pub FineNumber : Scan → Piece → List ℕ → List ℕ → Type 0
FineNumber c space N S = Unit {0}
FineNumber c (token opens) N S = Unit {0}
FineNumber c (token closes) N S = Unit {0}
FineNumber c (token (atom a)) N S = FineNode c (atom_words a c.text) (length (atom_text a)) N S
FineNumber c (wrong why) N S = ⊥

abbrev pub Fine : Scan → Piece → List ℕ → List ℕ → List ℕ → Type 0
Fine c space N T S = Unit {0}
Fine c (token opens) N T S = FineBracket c (FineOpen c.nodes c.depth N S)
Fine c (token closes) N T S = FineBracket c (FineClose c.depth N S)
Fine c (token (atom a)) N T S = FineAtom c (atom_words a c.text) (atom_text a) N T S
Fine c (wrong why) N T S = ⊥

abbrev pub piece_n : Scan → Piece → List ℕ → List ℕ → List ℕ
piece_n c space N S = N
piece_n c (token x) N S = put_n c x N S
piece_n c (wrong why) N S = N

abbrev pub piece_t : Scan → Piece → List ℕ → List ℕ
piece_t c space T = T
piece_t c (token x) T = put_t c x T
piece_t c (wrong why) T = T

abbrev pub piece_s : Scan → Piece → List ℕ → List ℕ
piece_s c space S = S
piece_s c (token x) S = put_s c x S
piece_s c (wrong why) S = S

abbrev pub piece_c : Scan → Piece → Scan
piece_c c space = c
piece_c c (token x) = counts c x
piece_c c (wrong why) = c

-- what a number leaves
pub record Numbered (c : Scan) (p : Piece) (N N' S : List ℕ) (r : Scan) : Type 0 where
  pub nodes : N' ≡ piece_n c p N S
  pub next : r ≡ piece_c c p

-- what a string or a symbol leaves
pub record Texted (c : Scan) (p : Piece) (N N' T T' S : List ℕ) (r : Scan) : Type 0 where
  pub nodes : N' ≡ piece_n c p N S
  pub text : T' ≡ piece_t c p T
  pub next : r ≡ piece_c c p

-- what a piece leaves
pub record Pieced (c : Scan) (p : Piece) (N N' T T' S S' : List ℕ) (r : Scan) : Type 0 where
  pub nodes : N' ≡ piece_n c p N S
  pub text : T' ≡ piece_t c p T
  pub stack : S' ≡ piece_s c p S
  pub next : r ≡ piece_c c p

-- the first pass has found one whole tree, for which there is room
pub record Ready (s N T S : List ℕ) : Type 0 where
  pub found : Tree
  pub parsed : parse s ≡ tree found
  pub room_n : nodes found * stride ≤ length N
  pub room_t : length (text found) ≤ length T
  pub room_s : depth found ≤ length S

-- the second writes it, and leaves the stack to be cleared
pub record Wrote (s N N' T T' S S' : List ℕ) : Type 0 where
  pub found : Tree
  pub parsed : parse s ≡ tree found
  pub wrote_n : N' ≡ words found 0 0 ++ drop (nodes found * stride) N
  pub wrote_t : T' ≡ text found ++ drop (length (text found)) T
  pub stack : drop (depth found) S' ≡ drop (depth found) S
  pub long : length S' ≡ length S
