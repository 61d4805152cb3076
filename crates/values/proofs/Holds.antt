-- A value that holds members is their set.
-- Assumes nothing.
use Rattle.std.proofs.Common.{Some}
use mathlib.Core.Path.{◌≡◌, ap}
use Prim.Native.Nat.{ℕ}
use native.Mathlib.Omega.{arith}
use Rattle.values.specs.Holds.{held}
use Rattle.values.specs.Value.{Value, Values, v_bool, v_string, v_ext, v_bits, v_none, v_some, v_set, v_entity, v_record}

pub held-set : (v : Value) (vs : Values) → held v ≡ Some vs → v ≡ v_set vs
held-set (v_bool b) vs e = let z : ◌≡◌ {A = ℕ} 0 1 = cc in absurd (omega arith)
held-set (v_string s) vs e = let z : ◌≡◌ {A = ℕ} 0 1 = cc in absurd (omega arith)
held-set (v_ext x z) vs e = let z : ◌≡◌ {A = ℕ} 0 1 = cc in absurd (omega arith)
held-set (v_bits w n) vs e = let z : ◌≡◌ {A = ℕ} 0 1 = cc in absurd (omega arith)
held-set v_none vs e = let z : ◌≡◌ {A = ℕ} 0 1 = cc in absurd (omega arith)
held-set (v_some v) vs e = let z : ◌≡◌ {A = ℕ} 0 1 = cc in absurd (omega arith)
held-set (v_set ws) vs e = let y : ws ≡ vs = cc in ap v_set y
held-set (v_entity r s) vs e = let z : ◌≡◌ {A = ℕ} 0 1 = cc in absurd (omega arith)
held-set (v_record r ws) vs e = let z : ◌≡◌ {A = ℕ} 0 1 = cc in absurd (omega arith)
