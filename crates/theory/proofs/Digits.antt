-- The theory's digits are the digits of radix 16.
-- Assumes nothing.
use mathlib.Core.Path.{◌≡◌, refl, sym, ◌∙◌}
use mathlib.Core.Bool.{Bool, true, false}
use Prim.Native.Nat.{ℕ, ◌-◌, ◌≤◌, ◌<◌}
use native.Mathlib.Omega.{arith}
use lib.Dec.{leb, ltb}
use borrow.Author.Tests.{lt-ltb, le-ltb, leb-true}
use Rattle.ground.proofs.Tests.{both_left, both_right}
use Rattle.words.specs.Radix.{worth}
use Rattle.theory.specs.Literal.{within}
use Rattle.theory.specs.Theory.{is_hex, hex_value}

pub inside : (least most b : ℕ) → within least most b ≡ true → (least ≤ b) × (b ≤ most)
inside least most b h = (leb-true least b (both_left (leb least b) (leb b most) h), leb-true b most (both_right (leb least b) (leb b most) h))

module _ (b : ℕ) where
  tie : (x y z : Bool) → within 0x30 0x39 b ≡ x → within 0x41 0x46 b ≡ y → within 0x61 0x66 b ≡ z
      → (is_hex b ≡ ltb (worth b) 16) × (worth b < 16 → hex_value b ≡ worth b)
  unfolding is_hex hex_value worth
  tie true y z p q r = let i = inside 0x30 0x39 b p in rw p (sym (lt-ltb (b - 48) 16 (omega arith)), λ h. refl)
  tie false true z p q r = let i = inside 0x41 0x46 b q in rw (p, q) (sym (lt-ltb (b - 55) 16 (omega arith)), λ h. omega arith)
  tie false false true p q r = let i = inside 0x61 0x66 b r in rw (p, q, r) (sym (lt-ltb (b - 87) 16 (omega arith)), λ h. omega arith)
  tie false false false p q r = rw (p, q, r) (refl, λ h. absurd (omega arith))

  tied : (is_hex b ≡ ltb (worth b) 16) × (worth b < 16 → hex_value b ≡ worth b)
  tied = tie (within 0x30 0x39 b) (within 0x41 0x46 b) (within 0x61 0x66 b) refl refl refl

  pub is-hex : worth b < 16 → is_hex b ≡ true
  is-hex h = tied.0 ∙ lt-ltb (worth b) 16 h

  pub no-hex : 16 ≤ worth b → is_hex b ≡ false
  no-hex h = tied.0 ∙ le-ltb (worth b) 16 h

  pub hex-worth : worth b < 16 → hex_value b ≡ worth b
  hex-worth = tied.1
