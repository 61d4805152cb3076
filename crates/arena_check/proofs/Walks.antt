-- The check's loop over the nodes.
-- Assumes nothing.
use Rattle.std.proofs.Common.{Err, Ok, Option, Some}
use mathlib.Core.Path.{◌≡◌, ap, ◌∙◌, subst}
use mathlib.Core.List.{List}
use Prim.Native.Nat.{ℕ, ◌+◌, ◌≤◌, ◌<◌}
use native.Mathlib.Omega.{arith}
use Rattle.refusals.specs.declared.Refusal.TheVariants.{BadArena}
use Rattle.arena.specs.Tree.{most_nodes, most_text}
use Rattle.arena.specs.Node.{node_at, after_at}
use Rattle.arena_check.specs.Checks.{Checks}
use Rattle.arena_check.specs.Right.{Right, StepsAt}
use Rattle.arena_check.proofs.Offsets.{offset, offset-start, offset-next, RightTo, right-none, right-more}
use Rattle.arena_check.proofs.Answers.{node-wrong, too_long, whole-tree}

-- the nodes before at are right, and their texts end at from
pub record Walked (ws ts : List ℕ) (end from at : ℕ) : Type 0 where
  pub within : at ≤ end
  pub behind : from ≡ offset ws at
  pub right : RightTo ws ts at

pub walked_start : (ws ts : List ℕ) (end : ℕ) → Walked ws ts end 0 0
walked_start ws ts end = record { within = omega arith; behind = offset-start ws; right = right-none ws ts }

module _ (ws ts : List ℕ) (end from at : ℕ) (h : Walked ws ts end from at) where
  pub walked_next : at < end → (r : Option ℕ) (next : ℕ) → StepsAt ws ts at from r → r ≡ Some next → Walked ws ts end next (at + 1)
  walked_next l r next s e =
      let b = h.behind in
      let g = s.goes next e in
      record {
        within = omega arith;
        behind = omega (arith, offset-next ws at);
        right = right-more ws ts at h.right (subst (Right (node_at ws at) ws ts at) b (s.right next e));
      }

  module _ (root : end ≡ after_at ws 0) where
    pub walked-wrong : at < end → (Right (node_at ws at) ws ts at from → ⊥) → Checks ws ts (Err BadArena)
    walked-wrong l f = node-wrong ws ts end root at from l h.behind f

    module _ (past : end ≤ at) where
      ended : at ≡ end
      ended = let w = h.within in omega arith

      last : from ≡ offset ws end
      last = h.behind ∙ ap (offset ws) ended

      pub walked-long : most_text < from → Checks ws ts (Err BadArena)
      walked-long g = too_long ws ts end root from last g

      pub walked_whole : (end ≡ 0 → ⊥) → end ≤ most_nodes → from ≤ most_text → Checks ws ts (Ok (record { nodes = end; text = from }))
      walked_whole some few short = whole-tree ws ts end root from last some few short (subst (RightTo ws ts) ended h.right)
