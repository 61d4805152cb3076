use Rattle.std.proofs.Common.{◌≡◌, ◌^◌, Bool, leb, sym, ap, ◌∙◌, subst}
use Rattle.words.specs.declared.pair.Pair.{Pair}
use Rattle.words.specs.Pair.{value}
use Rattle.overflow.specs.Overflow.{tells}
use Rattle.overflow.specs.Sign.{signed_by}
use Rattle.overflow.proofs.Signs.{told_over, told-natural, told-negative}
use Rattle.overflow.proofs.sign.leaves.Goals as goal
use Rattle.overflow.proofs.sign.leaves.Goals.{then-negative, else-negative}

pub returns-in_default : goal.returns-in_default
returns-in_default c = let a = c.args in λ n e. told_over a.width a.negative n c.if-width-gt128.false (sym c.in_default.is ∙ e)

pub returns : goal.returns
returns c = let a = c.args in λ n e. elim c.if-negative.branch [
  | then-negative w ↦ subst (λ (b : Bool). c.reaches.result ≡ tells a.width (signed_by b n)) (sym w.if-negative.true) (told-negative a.width n c.sign_bit.result c.if-width-gt128.false c.sign_bit.ensures _ (sym c.in-Some.is ∙ e) c.reaches.result (value c.if-negative.most) (ap value w.most-is ∙ w.predecessor-most.ensures) c.reaches.ensures)
  | else-negative w ↦ subst (λ (b : Bool). c.reaches.result ≡ tells a.width (signed_by b n)) (sym w.if-negative.false) (told-natural a.width n c.sign_bit.result c.if-width-gt128.false c.sign_bit.ensures _ (sym c.in-Some.is ∙ e) c.reaches.result (c.reaches.ensures ∙ ap (λ (p : Pair). leb (2 ^ c.sign_bit.result) (value p)) w.most-is))
]
