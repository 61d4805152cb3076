-- The chain of an application's children, a child at a time.
-- Assumes nothing.
use mathlib.Core.Path.{◌≡◌, sym, subst}
use mathlib.Core.Bool.{false}
use mathlib.Core.List.{List}
use Prim.Native.Nat.{ℕ, suc, ◌≤◌, ◌<◌}
use native.Mathlib.Omega.{arith}
use lib.Dec.{eqb}
use borrow.Author.Tests.{eqb-true, eqb-false}
use Rattle.arena.specs.Node.{after_at}
use Rattle.arena_check.specs.Right.{Tells, Link, Chain}
use Rattle.arena_check.proofs.Told.{tells-no}

-- what is left of a chain after some of its links stands for the whole
pub record Left (count : ℕ) (ws : List ℕ) (from end left at : ℕ) : Type 0 where
  pub whole : Chain left ws at end → Chain count ws from end
  pub rest : Chain count ws from end → Chain left ws at end

pub left-start : (count : ℕ) (ws : List ℕ) (from end left : ℕ) → left ≡ count → Left count ws from end left from
left-start count ws from end left e = record {
  whole = λ c. subst (λ (n : ℕ). Chain n ws from end) e c;
  rest = λ c. subst (λ (n : ℕ). Chain n ws from end) (sym e) c;
}

module _ {count : ℕ} {ws : List ℕ} {from end left at : ℕ} (h : Left count ws from end left at) where
  module _ (less : ℕ) (one_more : suc less ≡ left) where
    link : Chain count ws from end → Link ws at end (Chain less ws (after_at ws at) end)
    link c = subst (λ (n : ℕ). Chain n ws at end) (sym one_more) (h.rest c)

    pub left_back : (next : ℕ) → next ≡ after_at ws at → next ≤ at → Tells (Chain count ws from end) false
    left_back next e g = tells-no (λ c. let l = (link c).onward in omega arith)

    pub left-past : (next : ℕ) → next ≡ after_at ws at → end < next → Tells (Chain count ws from end) false
    left-past next e g = tells-no (λ c. let l = (link c).within in omega arith)

    pub left-next : (next : ℕ) → next ≡ after_at ws at → at < next → next ≤ end → Left count ws from end less next
    left-next next e g k = record {
      whole = λ c.
          h.whole
          (subst (λ (n : ℕ). Chain n ws at end) one_more
          (record {
            onward = omega arith;
            within = omega arith;
            others = subst (λ (n : ℕ). Chain less ws n end) e c;
          }));
      rest = λ c. subst (λ (n : ℕ). Chain less ws n end) (sym e) (link c).others;
    }

  module _ (finished : left ≡ 0) where
    ends : Chain left ws at end → at ≡ end
    ends c = subst (λ (n : ℕ). Chain n ws at end) finished c

    pub left_end : Tells (Chain count ws from end) (eqb at end)
    left_end = record {
      yes = λ e. h.whole (subst (λ (n : ℕ). Chain n ws at end) (sym finished) (eqb-true at end e));
      no = λ e c. eqb-false at end e (ends (h.rest c));
    }
