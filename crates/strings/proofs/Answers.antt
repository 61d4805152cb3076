-- The answers of decode_string, in their order: 9, 3, 11, the length.
-- Assumes nothing.
use Rattle.std.specs.Option.{ok_or}
use Rattle.std.proofs.Common.{Err, None, Ok, Option, Some}
use mathlib.Core.Path.{◌≡◌, refl}
use mathlib.Core.Bool.{true, false, cond}
use mathlib.Core.List.{List}
use Prim.Native.Nat.{ℕ, ◌≤◌, ◌<◌}
use native.Mathlib.Omega.{arith}
use lib.ListN.{length}
use borrow.Author.Tests.{le-leb, lt-leb}
use Rattle.refusals.specs.Limit.{input_limit}
use Rattle.ground.proofs.Tests.{by_test}
use Rattle.refusals.specs.declared.Refusal.TheVariants.{StringParseError, InputTooLong, TextRoom}
use Rattle.lent.specs.Left.{onto, refusing, writing, Leaves}
use Rattle.lent.proofs.Lefts.{leaves-refused, leaves-text, leaves-short}
use Rattle.strings.specs.Points.{points}
use Rattle.strings.specs.Text.{text, any_surrogate, measured, decoded}

module _ (s d : List ℕ) where
  pub decoded-long : input_limit < length s → Leaves (decoded s d) (Err InputTooLong) d
  unfolding decoded
  decoded-long h = rw (lt-leb (length s) input_limit h) (leaves-refused InputTooLong d)

  module _ (short : length s ≤ input_limit) where
    within : decoded s d ≡ cond (any_surrogate (points s)) (refusing StringParseError d) (writing TextRoom (text s) d)
    unfolding decoded
    within = rw (le-leb (length s) input_limit short)

    was-surrogate : measured s ≡ None → any_surrogate (points s) ≡ true
    unfolding measured
    was-surrogate e =
        by_test (any_surrogate (points s)) (λ t. t)
        (λ t. let f : measured s ≡ Some (length (text s)) = rw t in let z : ◌≡◌ {A = ℕ} 0 1 = cc in absurd (omega arith))

    pub decoded-surrogate : measured s ≡ None → Leaves (decoded s d) (Err StringParseError) d
    decoded-surrogate e = rw within (rw (was-surrogate e) (leaves-refused StringParseError d))

    module _ (n : ℕ) (e : measured s ≡ Some n) where
      was-text : (any_surrogate (points s) ≡ false) × (n ≡ length (text s))
      unfolding measured
      was-text =
          by_test (any_surrogate (points s))
          (λ t. let f : measured s ≡ None = rw t in let z : ◌≡◌ {A = ℕ} 0 1 = cc in absurd (omega arith))
          (λ t. let f : measured s ≡ Some (length (text s)) = rw t in (t, (cc)))

      pub decoded-room : n ≤ length d → length (text s) ≤ length d
      decoded-room h = omega (arith, was-text.1)

      pub decoded-short : length d < n → Leaves (decoded s d) (Err (TextRoom n)) d
      decoded-short h = rw within (rw was-text.0 (leaves-short TextRoom (text s) d n (omega (arith, was-text.1)) was-text.1))

      pub decoded-text : n ≤ length d → (x : List ℕ) → x ≡ onto (text s) d → Leaves (decoded s d) (Ok n) x
      decoded-text h x q = rw within (rw was-text.0 (leaves-text TextRoom (text s) d n x (decoded-room h) was-text.1 q))

-- what a refusal in place of nothing says
pub asked_some : {A E : Type 0} (o : Option A) (e : E) (x : A) → ok_or o e ≡ Ok x → o ≡ Some x
asked_some None e x q = (cc)
asked_some (Some y) e x q = (cc)

pub asked_none : {A E : Type 0} (o : Option A) (e y : E) → ok_or o e ≡ Err y → (o ≡ None) × (y ≡ e)
asked_none None e y q = (refl, cc)
asked_none (Some x) e y q = (cc)
