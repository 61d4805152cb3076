-- A line written, or refused: 9, then 25, then 26.
-- Assumes nothing.
use Rattle.std.proofs.Common.{Err, Ok, Result}
use mathlib.Core.Path.{◌≡◌, subst}
use mathlib.Core.Bool.{Bool, true, false, cond}
use mathlib.Core.List.{List}
use Prim.Native.Nat.{ℕ, ◌≤◌, ◌<◌}
use native.Mathlib.Omega.{arith}
use lib.ListN.{length}
use Rattle.refusals.specs.declared.Refusal.TheVariants.{InputTooLong, BadTable, OutRoom}
use Rattle.lent.specs.Left.{refusing, writing, Leaves}
use Rattle.lent.specs.Put.{Fronts, Offers}
use Rattle.lent.proofs.Lefts.{leaves-refused, leaves-text, leaves-short}
use Rattle.lent.proofs.Offers.{offers_front}
use Rattle.parts.specs.Limit.{too_long}
use Rattle.script.specs.Script.{scripted}
use Rattle.refusals.specs.declared.Refusal.{Refusal}

module _ (inputs : List (List ℕ)) (right : Bool) (line buffer : List ℕ) where
  pub scripted-long : too_long inputs ≡ true → Leaves (scripted inputs right line buffer) (Err InputTooLong) buffer
  unfolding scripted
  scripted-long s = rw s (leaves-refused InputTooLong buffer)

  pub scripted-bad : too_long inputs ≡ false → right ≡ false → Leaves (scripted inputs right line buffer) (Err BadTable) buffer
  unfolding scripted
  scripted-bad s r = rw s (rw r (leaves-refused BadTable buffer))

  pub scripted-short : too_long inputs ≡ false → right ≡ true → (need : ℕ) → need ≡ length line → length buffer < need → Leaves (scripted inputs right line buffer) (Err (OutRoom need)) buffer
  unfolding scripted
  scripted-short s r need e h = rw s (rw r (leaves-short OutRoom line buffer need (omega arith) e))

  pub scripted-line : too_long inputs ≡ false → right ≡ true → (need : ℕ) → need ≡ length line → need ≤ length buffer
      → (exit : List ℕ) (next : ℕ) → Offers buffer exit 0 line next → Leaves (scripted inputs right line buffer) (Ok need) exit
  unfolding scripted
  scripted-line s r need e h exit next o =
      let f : Fronts line buffer exit next = offers_front o (omega arith) in
      rw s (rw r (leaves-text OutRoom line buffer need exit (omega arith) e f.holds))

-- a call for a line serves for one that is equal
pub scripted_as : (inputs : List (List ℕ)) (right : Bool) {line line' : List ℕ} (buffer : List ℕ) {r : Result ℕ Refusal} {exit : List ℕ} → line ≡ line' → Leaves (scripted inputs right line buffer) r exit → Leaves (scripted inputs right line' buffer) r exit
scripted_as inputs right buffer {r} {exit} e l = subst (λ (t : List ℕ). Leaves (scripted inputs right t buffer) r exit) e l

-- and for inputs that are as long or as short
pub scripted_of : (inputs inputs' : List (List ℕ)) (right : Bool) (line buffer : List ℕ) {r : Result ℕ Refusal} {exit : List ℕ} → too_long inputs ≡ too_long inputs' → Leaves (scripted inputs right line buffer) r exit
    → Leaves (scripted inputs' right line buffer) r exit
unfolding scripted
scripted_of inputs inputs' right line buffer {r} {exit} e l = subst (λ (t : Bool). Leaves (cond t (refusing InputTooLong buffer) (cond right (writing OutRoom line buffer) (refusing BadTable buffer))) r exit) e l
