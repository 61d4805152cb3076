-- Any two results of reading a literal are equal, where a tree stands at the node; and so is what is expected inside one.
-- Assumes nothing.
use Rattle.std.proofs.Common.{Option, Result}
use mathlib.Core.Path.{◌≡◌, refl}
use mathlib.Core.List.{List, []}
use Prim.Native.Nat.{ℕ}
use Rattle.ground.proofs.Tests.{one-result}
use Rattle.arena.specs.Tree.{Tree}
use Rattle.tables.specs.Layout.{Lent}
use Rattle.shapes.specs.Shows.{Standing}
use Rattle.literals.specs.declared.form.Form.{Form}
use Rattle.literals.specs.Parts.{Expects}
use Rattle.literals.specs.Plan.{Given, DecodesAt}
use Rattle.literals.specs.declared.answer.Literal.{Literal}
use Rattle.refusals.specs.declared.Refusal.{Refusal}

abbrev lent : List ℕ → List ℕ → List ℕ → List ℕ → Lent
lent sorts fields members names = record { sorts = sorts; fields = fields; variables = []; functions = []; members = members; names = names }

module _ (sorts fields members names : List ℕ) where
  given : Given sorts fields members names (lent sorts fields members names)
  given = record { sorts-are = refl; fields-are = refl; members-are = refl; names-are = refl }

  pub one-literal : (ws ts : List ℕ) (i allow : ℕ) (expected : Option ℕ) (t : Tree) (r s : Result Literal Refusal) → Standing t ws ts i →
      DecodesAt sorts fields members names ws ts i expected allow r → DecodesAt sorts fields members names ws ts i expected allow s → r ≡ s
  one-literal ws ts i allow expected t r s h p q = one-result (p (lent sorts fields members names) given t h) (q (lent sorts fields members names) given t h)

  pub one-expected : (expected : Option ℕ) (form : Form) (r s : Result (Option ℕ) Refusal) → Expects sorts expected form r → Expects sorts expected form s → r ≡ s
  one-expected expected form r s p q = let l = lent sorts fields members names in one-result (p l refl) (q l refl)
