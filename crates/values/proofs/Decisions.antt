-- What a decision answers.
-- Assumes nothing.
use mathlib.Core.Path.{◌≡◌, refl, sym, ◌∙◌}
use mathlib.Core.Bool.{true, false, true≢false}
use Rattle.ground.proofs.Tests.{by_test}
use Rattle.values.specs.Value.{Value}
use Rattle.values.specs.Equal.{decided, equal}

pub decided-yes : {A : Type 0} (d : Dec A) → A → decided d ≡ true
decided-yes (yes b) a = refl
decided-yes (no f) a = absurd (f a)

pub decided-no : {A : Type 0} (d : Dec A) → (A → ⊥) → decided d ≡ false
decided-no (yes b) f = absurd (f b)
decided-no (no g) f = refl

pub decided_true : {A : Type 0} (d : Dec A) → decided d ≡ true → A
decided_true (yes b) e = b
decided_true (no g) e = absurd (true≢false (sym e))

pub decided_false : {A : Type 0} (d : Dec A) → decided d ≡ false → A → ⊥
decided_false d e a = true≢false (sym (decided-yes d a) ∙ e)

-- `=` either way round
pub turned : (v w : Value) → decided (equal v w) ≡ decided (equal w v)
turned v w =
    by_test (decided (equal w v))
    (λ h. decided-yes (equal v w) (sym (decided_true (equal w v) h)) ∙ sym h)
    (λ h. decided-no (equal v w) (λ q. decided_false (equal w v) h (sym q)) ∙ sym h)
