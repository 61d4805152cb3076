-- Document 01, "Numbers given back" and "The arena": what reading answers, and what it leaves in all that was lent.
use Rattle.std.specs.Prelude.{◌≡◌, cond, List, [], ◌++◌, ℕ, ◌*◌, ◌/◌, leb, length, drop, replicate, Err, Ok, Result}
use Rattle.refusals.specs.Limit.{input_limit}
use Rattle.refusals.specs.declared.Refusal.{Refusal}
use Rattle.refusals.specs.declared.Refusal.TheVariants.{InputTooLong, NodeRoom, TextRoom, DepthRoom}
use Rattle.arena.specs.Tree.{Tree, nodes, text, depth}
use Rattle.arena.specs.Layout.{stride, words}
use Rattle.brackets.specs.Walk.{going, walk, Outcome, tree, refused, finish}
use Rattle.tokens.specs.Piece.{Lexed, ok, bad, lex}
use Rattle.reader.specs.declared.read.Reading.{Reading}

-- the first lexical fault from the left comes before any fault of brackets
abbrev pub outcome : Lexed → Outcome
outcome (ok xs) = finish (walk (going []) xs)
outcome (bad why) = refused why

unfoldable pub parse : List ℕ → Outcome
parse s = outcome (lex s)

-- the answer, and what the nodes, the text and the stack then hold
pub record Left : Type 0 where
  pub answer : Result Reading Refusal
  pub nodes : List ℕ
  pub text : List ℕ
  pub stack : List ℕ

module _ (N T S : List ℕ) where
  abbrev pub refusing : Refusal → Left
  refusing why = record { answer = Err why; nodes = N; text = T; stack = S }

  -- nodes and text from the start; as many first entries of the stack zeroed as the depth; the rest as it was
  abbrev pub written : Tree → Left
  written t = record {
    answer = (Ok (record { nodes = nodes t; text = length (text t); depth = depth t }));
    nodes = words t 0 0 ++ drop (nodes t * stride) N;
    text = text t ++ drop (length (text t)) T;
    stack = replicate (depth t) 0 ++ drop (depth t) S;
  }

  -- 10, 11, 12 with the exact need; a length that is no multiple of the stride has room for the whole nodes in it
  abbrev pub fitted : Tree → Left
  fitted t =
      cond (leb (nodes t) (length N / stride))
      (cond (leb (length (text t)) (length T))
      (cond (leb (depth t) (length S)) (written t) (refusing (DepthRoom (depth t))))
      (refusing (TextRoom (length (text t)))))
      (refusing (NodeRoom (nodes t)))

  abbrev pub settled : Outcome → Left
  settled (tree t) = fitted t
  settled (refused why) = refusing why

  unfoldable pub reading : List ℕ → Left
  reading s = cond (leb (length s) input_limit) (settled (parse s)) (refusing InputTooLong)

-- a result and the three buffers at exit are those that are left
pub record Leaves (left : Left) (r : Result Reading Refusal) (N T S : List ℕ) : Type 0 where
  pub answers : r ≡ left.answer
  pub nodes : N ≡ left.nodes
  pub text : T ≡ left.text
  pub stack : S ≡ left.stack
