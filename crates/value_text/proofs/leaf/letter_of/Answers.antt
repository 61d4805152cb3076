use mathlib.Core.Path.{refl}
use Rattle.shapes.specs.declared.shape.Kind.{Kind}
use Rattle.value_text.proofs.Leaves.{letter_as}
use Rattle.value_text.proofs.leaf.letter_of.Goals as goal

pub returns-in-Decimal : goal.returns-in-Decimal
returns-in-Decimal c = letter_as c.args.kind Kind.Decimal 100 c.in-Decimal.is refl

pub returns-in-Datetime : goal.returns-in-Datetime
returns-in-Datetime c = letter_as c.args.kind Kind.Datetime 116 c.in-Datetime.is refl

pub returns-in-Duration : goal.returns-in-Duration
returns-in-Duration c = letter_as c.args.kind Kind.Duration 117 c.in-Duration.is refl
