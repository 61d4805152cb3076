-- Document 01, "The listing", program `modellist`, and document 02, R-1, `valuelist`: the two lines of a refusal, with a need and without.
use Rattle.std.specs.Prelude.{◌≡◌, refl, [], ◌∷◌}
use Rattle.ground.specs.Bytes.{bytes}
use Rattle.refusals.specs.declared.Refusal.TheVariants.{UnexpectedModel, OutRoom}
use Rattle.decimals.specs.Decimal.{decimal, last_digits, digit_count_within}
use Rattle.reply.specs.Printed.{refusal_lines}

refusals : refusal_lines UnexpectedModel ∷ refusal_lines (OutRoom 120) ∷ [] ≡ bytes "refused=13\ndetail=0\n" ∷ bytes "refused=26\ndetail=120\n" ∷ []
unfolding decimal last_digits digit_count_within
refusals = refl
