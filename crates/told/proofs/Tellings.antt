-- What an answer tells, and what can be read back of it.
-- Assumes nothing.
use Rattle.std.proofs.Common.{None, Option, Some}
use mathlib.Core.Path.{◌≡◌, refl, ap, ◌∙◌}
use mathlib.Core.List.{List}
use Prim.Native.Nat.{ℕ, ◌%◌, ◌<◌}
use native.Mathlib.Omega.{arith}
use Rattle.refusals.specs.declared.Refusal.{Refusal}
use Rattle.refusals.specs.Number.{number_of}
use Rattle.lent.specs.Left.{onto}
use Rattle.told.specs.Tells.{Yield, yields, refuses, Tells}
use Rattle.told.specs.Yields.{found_row}
use Rattle.told.proofs.Codes.{code-some, code-number}

-- the numbers of a lookup tell a row from another, and from none
pub row_told : (a b : Option ℕ) → found_row a ≡ found_row b → a ≡ b
row_told (Some i) (Some j) e = let q : i ≡ j = cc in ap Some q
row_told (Some i) None e = let z : ◌≡◌ {A = ℕ} 1 0 = cc in absurd (omega arith)
row_told None (Some j) e = let z : ◌≡◌ {A = ℕ} 0 1 = cc in absurd (omega arith)
row_told None None e = refl

-- what a caller sees: 0 tells an acceptance and its numbers, and any other word a refusal by its number, with nothing told
pub tells-accepted : (yield : Yield) (told exit : List ℕ) → Tells yield told 0 exit → (ns : List ℕ) × (yield ≡ yields ns) × (exit ≡ onto ns told)
tells-accepted (yields ns) told exit t = (ns, refl, t.tells)
tells-accepted (refuses why) told exit t = absurd (omega (arith, code-some why, t.word))

pub tells-refused : (yield : Yield) (told : List ℕ) (r : ℕ) (exit : List ℕ) → 0 < r → Tells yield told r exit
    → (why : Refusal) × (yield ≡ refuses why) × (r % 256 ≡ number_of why) × (exit ≡ told)
tells-refused (yields ns) told r exit h t = absurd (omega (arith, t.word))
tells-refused (refuses why) told r exit h t = (why, refl, ap (λ (n : ℕ). n % 256) t.word ∙ code-number why, t.tells)
