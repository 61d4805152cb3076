use Rattle.std.proofs.Common.{ℕ, ◌+◌, ◌*◌, ◌^◌, ap, ◌∙◌, le_trans, lit≤}
use Rattle.words.specs.Pair.{grown}
use Rattle.words.proofs.Carries.{digit-over, digit-fits}
use Rattle.words.proofs.pair.Pair.add_digit.Goals as goal

pub returns-then-fourth-ge-HALF : goal.returns-then-fourth-ge-HALF
returns-then-fourth-ge-HALF c = let a = c.args in let n : ℕ = a.self.low + a.self.high * 2 ^ 64 in digit-over a.self.low a.self.high c.base-base.result a.digit (le_trans (lit≤ tt) c.if-fourth-ge-HALF.true) ∙ ap (λ (b : ℕ). grown (n * b + a.digit)) c.base-base.ensures

pub returns : goal.returns
returns c = let a = c.args in let n : ℕ = a.self.low + a.self.high * 2 ^ 64 in digit-fits a.self.low a.self.high c.base-base.result a.digit c.if-fourth-ge-HALF.false ∙ ap (λ (b : ℕ). grown (n * b + a.digit)) c.base-base.ensures
