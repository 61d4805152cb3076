use Rattle.value_text.proofs.Digits.{digit-small, digit_large}
use Rattle.value_text.proofs.hex.digit.Goals as goal

pub returns-then-worth-lt10 : goal.returns-then-worth-lt10
returns-then-worth-lt10 c = digit-small c.args.worth c.if-worth-lt10.true

pub returns : goal.returns
returns c = digit_large c.args.worth c.if-worth-lt10.false
