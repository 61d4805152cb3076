use Rattle.words.proofs.LowWords.{cast_word}
use Rattle.std.proofs.Common.{rules}
use Rattle.words.proofs.pair.Pair.signed_low.Goals as goal

pub returns : goal.returns
returns c = cast_word c.args.self.low c.cast_signed.result (search rules) c.cast_signed.ensures
