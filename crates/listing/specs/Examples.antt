-- Document 01, "The listing": closed examples of what is left: of a model that defines nothing, in as many bytes as it needs, in one more
-- and in one less; and of a listing that is shorter than its need.
use Rattle.std.specs.Prelude.{◌≡◌, refl, [], ◌∷◌, ◌++◌, replicate, Err, Ok}
use Rattle.ground.specs.Bytes.{bytes}
use Rattle.refusals.specs.declared.Refusal.TheVariants.{OutRoom}
use Rattle.decimals.specs.Decimal.{decimal, last_digits, digit_count_within}
use Rattle.tables.specs.Sort.{Tables}
use Rattle.model.specs.Listing.{rendered, listing, need}
use Rattle.listing.specs.Lists.{fitted, left}

abbrev empty : Tables
empty = record { sorts = []; variables = []; functions = []; members = [] }

pub empty-fits : left empty (Ok []) (replicate 14 7) ≡ record { answer = Ok 14; holds = bytes "vars=0\nfuns=0\n" }
unfolding rendered listing need decimal last_digits digit_count_within
empty-fits = refl

pub empty_unchanged : left empty (Ok []) (replicate 15 7) ≡ record { answer = Ok 14; holds = bytes "vars=0\nfuns=0\n" ++ (7 ∷ []) }
unfolding rendered listing need decimal last_digits digit_count_within
empty_unchanged = refl

pub empty-short : left empty (Ok []) (replicate 13 7) ≡ record { answer = Err (OutRoom 14); holds = replicate 13 7 }
unfolding rendered listing need decimal last_digits digit_count_within
empty-short = refl

pub cleared : fitted (bytes "ab") 4 (replicate 5 7) ≡ record { answer = Ok 2; holds = 97 ∷ 98 ∷ 0 ∷ 0 ∷ 7 ∷ [] }
cleared = refl
