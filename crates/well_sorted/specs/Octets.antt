-- Document 01, "The arena", String: what a literal's sort asks of a tree, that the texts of its strings are RFC 3629's UTF8-octets.
use Rattle.std.specs.Prelude.{◌≡◌, true}
use Rattle.utf8.specs.Octets.{utf8}
use Rattle.arena.specs.Tree.{Tree, Trees, bit_vec, numeral, string, symbol, app, nil, cons}

abbrev mutual
  pub Octets : Tree → Type 0
  Octets (bit_vec w n) = Unit {0}
  Octets (numeral n) = Unit {0}
  Octets (string s) = utf8 s ≡ true
  Octets (symbol s) = Unit {0}
  Octets (app us) = OctetsAll us

  pub OctetsAll : Trees → Type 0
  OctetsAll nil = Unit {0}
  OctetsAll (cons u us) = Octets u × OctetsAll us
