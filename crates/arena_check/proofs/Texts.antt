-- The text of one node, against the bytes.
-- Assumes nothing.
use Rattle.std.proofs.Common.{None, Some}
use mathlib.Core.Path.{◌≡◌, sym, ap, ◌∙◌}
use mathlib.Core.Bool.{Bool, true, false, true≢false}
use mathlib.Core.List.{List}
use Prim.Native.Nat.{ℕ, ◌+◌, ◌-◌, ◌≤◌, ◌<◌}
use native.Mathlib.Omega.{arith}
use lib.ListN.{length, take, drop}
use Rattle.utf8.specs.Octets.{utf8}
use Rattle.arena.specs.Text.{text_at}
use Rattle.arena_check.specs.Right.{Steps, Written}
use Rattle.arena_check.proofs.Told.{steps_to, steps_wrong}

module _ (ts : List ℕ) (size offset x : ℕ) where
  pub text_gap : (offset ≡ x → ⊥) → Steps (Written ts size offset x) (x + size) None
  text_gap h = steps_wrong (λ w. h w.gapless)

  pub text-past : length ts < x + size → Steps (Written ts size offset x) (x + size) None
  text-past h = steps_wrong (λ w. let i = w.within in omega arith)

  -- the part that the code looks at
  module _ (r : Bool) (e : r ≡ utf8 (take (x + size - x) (drop x ts))) where
    looked : r ≡ utf8 (text_at ts x size)
    looked = let n : x + size - x ≡ size = omega arith in e ∙ ap (λ (k : ℕ). utf8 (take k (drop x ts))) n

    pub text-whole : offset ≡ x → x + size ≤ length ts → r ≡ true → Steps (Written ts size offset x) (x + size) (Some (x + size))
    text-whole g w t = steps_to (record { gapless = g; within = w; encoded = sym looked ∙ t })

    pub text_broken : r ≡ false → Steps (Written ts size offset x) (x + size) None
    text_broken f = steps_wrong (λ w. true≢false (sym w.encoded ∙ sym looked ∙ f))
