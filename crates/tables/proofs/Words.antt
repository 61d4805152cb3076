-- A row's words where there are none: 0.
-- Assumes nothing.
use mathlib.Core.Path.{◌≡◌, sym}
use mathlib.Core.List.{List}
use Prim.Native.Nat.{ℕ, ◌*◌, ◌-◌, ◌/◌, ◌≤◌, ◌<◌}
use native.Mathlib.Omega.{arith}
use lib.ListN.{length, get_or-eq_default}
use Rattle.tables.specs.Layout.{word}

module _ (ws : List ℕ) (i k : ℕ) where
  pub word-past : length ws / 5 < i → 0 ≡ word ws i k
  word-past h = sym (get_or-eq_default ws 0 (omega arith))

  pub word-short : length ws - i * 5 ≤ k → 0 ≡ word ws i k
  word-short h = sym (get_or-eq_default ws 0 (omega arith))
