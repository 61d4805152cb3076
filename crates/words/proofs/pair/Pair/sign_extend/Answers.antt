use Rattle.std.proofs.Common.{ℕ, sym, ap, ◌∙◌, arith, rules}
use Rattle.words.specs.Pair.{value}
use Rattle.words.specs.Extension.{extended}
use Rattle.words.proofs.Numbers.{pair-value}
use Rattle.words.proofs.Extends.{extended-zero, extended-wide, extends-low-positive, extends-low-negative, extends-high-positive, extends-high-negative}
use Rattle.words.proofs.pair.Pair.sign_extend.Goals as goal
use Rattle.words.proofs.pair.Pair.sign_extend.Goals.{then-width-eq0-via-then-width-eq0, then-width-eq0-via-else-width-eq0+then-width-ge128}

pub returns-then-width-eq0 : goal.returns-then-width-eq0
returns-then-width-eq0 c = let a = c.args in pair-value a.self _ (search rules) (elim c.then-width-eq0.branch [
  | then-width-eq0-via-then-width-eq0 w ↦ extended-zero (value a.self) ∙ ap (λ (w : ℕ). extended w (value a.self)) (sym w.if-width-eq0.true)
  | then-width-eq0-via-else-width-eq0+then-width-ge128 w ↦ extended-wide a.width (value a.self) w.if-width-ge128.true
])

pub returns-in_default : goal.returns-in_default
returns-in_default c = let a = c.args in pair-value a.self _ (search rules) (extends-low-positive a.self.low a.self.high a.width (search rules) (omega arith) (omega arith) (sym c.fill_from.ensures ∙ c.in_default.is))

pub returns-then-width-le64 : goal.returns-then-width-le64
returns-then-width-le64 c = let a = c.args in pair-value _ _ (search rules) (extends-low-negative a.self.low a.self.high a.width (search rules) (omega arith) (omega arith) _ (sym c.fill_from.ensures ∙ c.in-Some.is))

pub returns-in_default-fill_from : goal.returns-in_default-fill_from
returns-in_default-fill_from c = let a = c.args in pair-value a.self _ (search rules) (extends-high-positive a.self.low a.self.high a.width (search rules) (omega arith) c.if-width-ge128.false (sym c.fill_from-2.ensures ∙ c.in_default-fill_from.is))

pub returns : goal.returns
returns c = let a = c.args in pair-value _ _ (search rules) (extends-high-negative a.self.low a.self.high a.width (search rules) (omega arith) c.if-width-ge128.false _ (sym c.fill_from-2.ensures ∙ c.in-Some-fill_from.is))
