-- The texts of a sound tree are UTF-8.
-- Assumes nothing.
use Rattle.arena.specs.Tree.{Tree, Trees, bit_vec, numeral, string, symbol, app, nil, cons, Sound, SoundAll}
use Rattle.well_sorted.specs.Octets.{Octets, OctetsAll}

mutual
  pub sound-octets : (t : Tree) → Sound t → Octets t
  sound-octets (bit_vec w n) h = tt
  sound-octets (numeral n) h = tt
  sound-octets (string s) h = h
  sound-octets (symbol s) h = tt
  sound-octets (app us) h = sound-all us h

  pub sound-all : (us : Trees) → SoundAll us → OctetsAll us
  sound-all nil h = tt
  sound-all (cons u us) h = (sound-octets u h.0, sound-all us h.1)
