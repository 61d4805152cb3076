-- A piece written at a place: what stands before its end, and what stands behind it.
-- Assumes nothing.
use mathlib.Core.Path.{◌≡◌, ap, ◌∙◌}
use mathlib.Core.List.{List, ◌++◌}
use Prim.Native.Nat.{ℕ, ◌≤◌}
use native.Mathlib.Omega.{arith}
use lib.ListN.{length, take, drop}
use lib.Seq.{length-sets}
use Rattle.ground.proofs.Lists.{take-sets, drop-sets}
use Rattle.lent.specs.Put.{Puts}

module _ {entry exit bytes : List ℕ} {at next : ℕ} (p : Puts entry exit at bytes next) where
  pub piece-long : length exit ≡ length entry
  piece-long = ap length p.holds ∙ length-sets entry at bytes

  pub piece-front : next ≤ length entry → take next exit ≡ take at entry ++ bytes
  piece-front h = ap (take next) p.holds ∙ take-sets bytes entry at next p.after h

  pub piece-behind : (m : ℕ) → next ≤ m → drop m exit ≡ drop m entry
  piece-behind m h = ap (drop m) p.holds ∙ drop-sets bytes entry at m (omega (arith, p.after))
