-- What the answer of a check tells of a table of ends, and how long the list is that the table is of.
-- Assumes nothing.
use Rattle.std.proofs.Common.{Some}
use mathlib.Core.Path.{◌≡◌, sym, ap, ◌∙◌}
use mathlib.Core.Bool.{true, ◌&&◌}
use mathlib.Core.List.{List}
use Prim.Native.Nat.{ℕ, ◌+◌, ◌-◌, ◌*◌, ◌/◌, ◌%◌, ◌≤◌}
use native.Mathlib.Omega.{arith}
use lib.Dec.{eqb}
use lib.ListN.{length}
use Rattle.ground.specs.Bytes.{bytes}
use Rattle.ground.specs.Lists.{joined}
use Rattle.ground.proofs.Tests.{both_left, both_right}
use Rattle.parts.specs.Parts.{parts, paired, rise, last_from, risen, pairs_risen, ends_right, pairs_right}
use Rattle.parts.specs.Texts.{pair}
use Rattle.parts.proofs.Rises.{risen-rise, even-of}
use Rattle.parts.proofs.Sizes.{joined-long, pairs-long, last_within}

pub record Table (string ends : List ℕ) (last : ℕ) : Type 0 where
  pub right : ends_right string ends ≡ true
  pub end : last ≡ last_from 0 ends
  pub within : last ≤ length string

table : (string ends : List ℕ) (last : ℕ) → ends_right string ends ≡ true → last ≡ last_from 0 ends → Table string ends last
table string ends last right end = record { right = right; end = end; within = omega (arith, end, last_within (length string) 0 ends (omega arith) right) }

pub table-of : (string ends : List ℕ) (last : ℕ) → Some last ≡ risen (length string) ends → Table string ends last
table-of string ends last e = let r = risen-rise (rise 0 (length string) ends) (last_from 0 ends) last e in table string ends last r.0 r.1

-- parts with a separator between two
pub joined_need : (separator string ends : List ℕ) (last need : ℕ) → Table string ends last → need ≡ last + (length ends - 1) * length separator → need ≡ length (joined separator (parts string ends))
joined_need separator string ends last need t e = e ∙ ap (λ (k : ℕ). k + (length ends - 1) * length separator) t.end ∙ sym (joined-long separator string ends t.right)

-- pairs, two ends each
pub record Pairs (string ends : List ℕ) (last : ℕ) : Type 0 where
  pub right : pairs_right string ends ≡ true
  pub table : Table string ends last

pub pairs-of : (string ends : List ℕ) (last : ℕ) → Some last ≡ pairs_risen (length string) ends → Pairs string ends last
pairs-of string ends last e =
    let r = risen-rise (rise 0 (length string) ends && eqb (length ends % 2) 0) (last_from 0 ends) last e in
    record { right = r.0; table = table string ends last (both_left (rise 0 (length string) ends) (eqb (length ends % 2) 0) r.0) r.1 }

pub pairs_need : (string ends : List ℕ) (last need : ℕ) → Pairs string ends last → need ≡ last + length ends / 2 * 4 - 1 → need ≡ length (joined (bytes " ") (paired pair (parts string ends)))
pairs_need string ends last need p e =
    e ∙ ap (λ (k : ℕ). k + length ends / 2 * 4 - 1) p.table.end
    ∙ sym (pairs-long string ends p.table.right (even-of ends (both_right (rise 0 (length string) ends) (eqb (length ends % 2) 0) p.right)))
