-- The answer in numbers, as the code finds it from the first pass: the law `answer-is` ties it to the tree.
use Rattle.std.specs.Prelude.{cond, ℕ, ltb, Err, Ok, Result}
use Rattle.refusals.specs.declared.Refusal.TheVariants.{UnexpectedEnd, UnclosedSExpr, TrailingTokens, NodeRoom, TextRoom, DepthRoom}
use Rattle.brackets.specs.declared.scan.Phase.{Phase}
use Rattle.brackets.specs.declared.scan.Phase.TheVariants.{Going, Done, Unclosed, Trailing}
use Rattle.brackets.specs.declared.scan.Scan.{Scan}
use Rattle.reader.specs.declared.read.Reading.{Reading}
use Rattle.refusals.specs.declared.Refusal.{Refusal}

-- room for so many nodes, bytes of text and open brackets
abbrev pub fit : Scan → ℕ → ℕ → ℕ → Result Reading Refusal
fit c n x d =
    cond (ltb n c.nodes) (Err (NodeRoom c.nodes))
    (cond (ltb x c.text) (Err (TextRoom c.text))
    (cond (ltb d c.most) (Err (DepthRoom c.most)) (Ok (record { nodes = c.nodes; text = c.text; depth = c.most }))))

abbrev pub by_phase : Scan → ℕ → ℕ → ℕ → Phase → Result Reading Refusal
by_phase c n x d Going = Err UnexpectedEnd
by_phase c n x d Done = fit c n x d
by_phase c n x d Unclosed = Err UnclosedSExpr
by_phase c n x d Trailing = Err TrailingTokens

abbrev pub judged : Result Scan Refusal → ℕ → ℕ → ℕ → Result Reading Refusal
judged (Ok c) n x d = by_phase c n x d c.phase
judged (Err why) n x d = Err why
