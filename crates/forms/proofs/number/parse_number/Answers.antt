use mathlib.Core.Path.{◌∙◌, ap}
use mathlib.Core.List.{List}
use Prim.Native.Nat.{ℕ}
use Rattle.words.specs.declared.digits.Radix.{Radix}
use Rattle.words.specs.Run.{parsed}
use Rattle.forms.proofs.Leaves.{unsigned-none, unsigned-plus, unsigned-bare}
use Rattle.forms.proofs.number.parse_number.Goals as goal

pub returns-then-digits-eq0 : goal.returns-then-digits-eq0
returns-then-digits-eq0 c = c.parse.ensures ∙ ap (λ (s : List ℕ). parsed Radix.Decimal s) (unsigned-none c.args.digits.now c.if-digits-eq0.true)

pub returns-then-digits-eq-PLUS : goal.returns-then-digits-eq-PLUS
returns-then-digits-eq-PLUS c = c.parse-then-digits-eq-PLUS.ensures ∙ ap (λ (s : List ℕ). parsed Radix.Decimal s) (unsigned-plus c.args.digits.now c.if-digits-eq0.false c.if-digits-eq-PLUS.true)

pub returns : goal.returns
returns c = c.parse-2.ensures ∙ ap (λ (s : List ℕ). parsed Radix.Decimal s) (unsigned-bare c.args.digits.now c.if-digits-eq0.false c.if-digits-eq-PLUS.false)
