-- What an operator gives, and of what: bools from bools, bits or values, and the branch that is taken; of values in order the same.
-- Assumes nothing.
use Rattle.std.proofs.Common.{None, Option, Some}
use mathlib.Core.Path.{◌≡◌, refl, sym, ap, ◌∙◌}
use mathlib.Core.Bool.{Bool, true, false, not, cond, ◌||◌}
use Prim.Native.Nat.{ℕ, ◌≤◌}
use native.Mathlib.Omega.{arith}
use lib.Dec.{eqb, leb}
use lib.IntN.{ℤ}
use borrow.Author.Tests.{leb-true}
use Rattle.ground.proofs.Options.{over-some}
use Rattle.ground.proofs.Tests.{by_test}
use Rattle.tables.proofs.Places.{some_one}
use Rattle.values.specs.Holds.{truth_of}
use Rattle.values.specs.Normal.{normal}
use Rattle.values.specs.Operators.{negated, either, chosen, on_bits, bvnego, leaving}
use Rattle.values.specs.Value.{Value, v_bool, v_string, v_ext, v_bits, v_none, v_some, v_set, v_entity, v_record}

pub truth-is : (v : Value) (b : Bool) → truth_of v ≡ Some b → v ≡ v_bool b
truth-is (v_bool c) b e = ap v_bool (some_one e)
truth-is (v_string s) b e = let z : ◌≡◌ {A = ℕ} 0 1 = cc in absurd (omega arith)
truth-is (v_ext x z) b e = let z : ◌≡◌ {A = ℕ} 0 1 = cc in absurd (omega arith)
truth-is (v_bits w n) b e = let z : ◌≡◌ {A = ℕ} 0 1 = cc in absurd (omega arith)
truth-is v_none b e = let z : ◌≡◌ {A = ℕ} 0 1 = cc in absurd (omega arith)
truth-is (v_some v) b e = let z : ◌≡◌ {A = ℕ} 0 1 = cc in absurd (omega arith)
truth-is (v_set vs) b e = let z : ◌≡◌ {A = ℕ} 0 1 = cc in absurd (omega arith)
truth-is (v_entity r s) b e = let z : ◌≡◌ {A = ℕ} 0 1 = cc in absurd (omega arith)
truth-is (v_record r vs) b e = let z : ◌≡◌ {A = ℕ} 0 1 = cc in absurd (omega arith)

pub bits_are : (v : Value) (rule : ℕ → ℕ → Option Value) (x : Value) → on_bits v rule ≡ Some x → (w : ℕ) × (n : ℕ) × (v ≡ v_bits w n) × (w ≤ 128) × (rule w n ≡ Some x)
bits_are (v_bool c) rule x e = let z : ◌≡◌ {A = ℕ} 0 1 = cc in absurd (omega arith)
bits_are (v_string s) rule x e = let z : ◌≡◌ {A = ℕ} 0 1 = cc in absurd (omega arith)
bits_are (v_ext y z) rule x e = let z : ◌≡◌ {A = ℕ} 0 1 = cc in absurd (omega arith)
bits_are (v_bits w n) rule x e =
    by_test (leb w 128)
    (λ h. (w, n, refl, leb-true w 128 h, (rw h at e)))
    (λ h. let k : ◌≡◌ {A = Option Value} None (Some x) = (rw h at e) in let z : ◌≡◌ {A = ℕ} 0 1 = cc in absurd (omega arith))
bits_are v_none rule x e = let z : ◌≡◌ {A = ℕ} 0 1 = cc in absurd (omega arith)
bits_are (v_some v) rule x e = let z : ◌≡◌ {A = ℕ} 0 1 = cc in absurd (omega arith)
bits_are (v_set vs) rule x e = let z : ◌≡◌ {A = ℕ} 0 1 = cc in absurd (omega arith)
bits_are (v_entity r s) rule x e = let z : ◌≡◌ {A = ℕ} 0 1 = cc in absurd (omega arith)
bits_are (v_record r vs) rule x e = let z : ◌≡◌ {A = ℕ} 0 1 = cc in absurd (omega arith)

-- each operator but ite gives a bool
abbrev pub IsBool : Value → Type 0
IsBool v = (b : Bool) × (v ≡ v_bool b)

given : (b : Bool) (v : Value) → ◌≡◌ {A = Option Value} (Some (v_bool b)) (Some v) → IsBool v
given b v e = (b, sym (some_one e))

pub negated-bool : (v x : Value) → negated v ≡ Some x → IsBool x
negated-bool v x e = let p = over-some (truth_of v) _ x e in given (not p.0) x p.2

pub either-bool : (v w x : Value) → either v w ≡ Some x → IsBool x
either-bool v w x e =
    let p = over-some (truth_of v) _ x e in
    let q = over-some (truth_of w) _ x p.2 in
    given (p.0 || q.0) x q.2

pub bvnego-bool : (v x : Value) → bvnego v ≡ Some x → IsBool x
bvnego-bool v x e = let p = bits_are v _ x e in given _ x p.4

pub leaving-bool : (exact : ℤ → ℤ → ℤ) (u v x : Value) → leaving exact u v ≡ Some x → IsBool x
leaving-bool exact u v x e =
    let p = bits_are u _ x e in
    let q = bits_are v _ x p.4 in
    by_test (eqb p.0 q.0)
    (λ h. given _ x (rw h at q.4))
    (λ h. let k : ◌≡◌ {A = Option Value} None (Some x) = (rw h at q.4) in let z : ◌≡◌ {A = ℕ} 0 1 = cc in absurd (omega arith))

-- the condition is a bool, and its branch is taken
pub chosen-one : (c v w x : Value) → chosen c v w ≡ Some x → (b : Bool) × (c ≡ v_bool b) × (cond b v w ≡ x)
chosen-one c v w x e = let p = over-some (truth_of c) _ x e in (p.0, truth-is c p.0 p.1, some_one p.2)

-- bools and bits have no sets to bring into order, so an operator gives the same of them
truth-stays : (v : Value) (b : Bool) → truth_of v ≡ Some b → normal v ≡ v
unfolding normal
truth-stays v b e = let h = truth-is v b e in ap normal h ∙ sym h

bits-stay : (v : Value) (w n : ℕ) → v ≡ v_bits w n → normal v ≡ v
unfolding normal
bits-stay v w n h = ap normal h ∙ sym h

pub negated-normal : (v x : Value) → negated v ≡ Some x → negated (normal v) ≡ Some x
negated-normal v x e = let p = over-some (truth_of v) _ x e in rw (truth-stays v p.0 p.1) e

pub either-normal : (v w x : Value) → either v w ≡ Some x → either (normal v) (normal w) ≡ Some x
either-normal v w x e =
    let p = over-some (truth_of v) _ x e in
    let q = over-some (truth_of w) _ x p.2 in
    rw (truth-stays v p.0 p.1, truth-stays w q.0 q.1) e

pub bvnego-normal : (v x : Value) → bvnego v ≡ Some x → bvnego (normal v) ≡ Some x
bvnego-normal v x e = let p = bits_are v _ x e in rw (bits-stay v p.0 p.1 p.2) e

pub leaving-normal : (exact : ℤ → ℤ → ℤ) (u v x : Value) → leaving exact u v ≡ Some x → leaving exact (normal u) (normal v) ≡ Some x
leaving-normal exact u v x e =
    let p = bits_are u _ x e in
    let q = bits_are v _ x p.4 in
    rw (bits-stay u p.0 p.1 p.2, bits-stay v q.0 q.1 q.2) e

-- the branch that is taken, in order
pub chosen-normal : (b : Bool) (c v w : Value) → c ≡ v_bool b → chosen (normal c) (normal v) (normal w) ≡ Some (normal (cond b v w))
unfolding normal
chosen-normal true c v w e = rw e refl
chosen-normal false c v w e = rw e refl
