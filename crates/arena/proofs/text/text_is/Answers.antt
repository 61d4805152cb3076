use mathlib.Core.Path.{◌≡◌, ap, ◌∙◌}
use Prim.Native.Nat.{ℕ, ◌+◌, ◌-◌}
use native.Mathlib.Omega.{arith}
use lib.ListN.{take, drop}
use Rattle.arena.specs.Text.{same_text}
use Rattle.arena.proofs.Texts.{is-past, is_within}
use Rattle.arena.proofs.text.text_is.Goals as goal
use Rattle.arena.proofs.text.text_is.Goals.{then-most-offset-via-then-most-offset, then-most-offset-via-else-most-offset+then-most-offset-2}

pub returns-then-most-offset : goal.returns-then-most-offset
returns-then-most-offset c = let a = c.args in is-past a.text.now a.offset a.size a.name.now (elim c.then-most-offset.branch [
  | then-most-offset-via-then-most-offset w ↦ omega arith
  | then-most-offset-via-else-most-offset+then-most-offset-2 w ↦ omega arith
])

pub returns : goal.returns
returns c = let a = c.args in let e : a.offset + a.size - a.offset ≡ a.size = omega arith in c.same.ensures ∙ ap (λ (n : ℕ). same_text (take n (drop a.offset a.text.now)) a.name.now) e ∙ is_within a.text.now a.offset a.size a.name.now (omega arith)
