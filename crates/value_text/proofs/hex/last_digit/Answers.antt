use Rattle.value_text.proofs.Digits.{last-digit-is}
use Rattle.value_text.proofs.hex.last_digit.Goals as goal

pub returns : goal.returns
returns c = last-digit-is c.args.number.low c.args.number.high _ c.digit.ensures
