use mathlib.Core.Path.{◌∙◌}
use mathlib.Core.List.{[], ◌∷◌}
use native.Mathlib.Omega.{arith}
use Rattle.ground.specs.Bytes.{bytes}
use Rattle.parts.specs.Parts.{parts}
use Rattle.parts.proofs.Limits.{all_short}
use Rattle.parts.proofs.Rises.{risen_fall}
use Rattle.script.proofs.Scripts.{scripted-long, scripted-bad, scripted-short, scripted-line}
use Rattle.script.proofs.Lengths.{declare_fun_long}
use Rattle.script.proofs.Texts.{sized}
use Rattle.script.proofs.Tables.{table-of, joined_need}
use Rattle.script.proofs.functions.declare_fun.Goals as goal

pub returns-then-any_exceeds : goal.returns-then-any_exceeds
returns-then-any_exceeds c = scripted-long _ _ _ _ (sized _ c.any_exceeds.ensures ∙ c.if-any_exceeds.true)

pub returns-in_default : goal.returns-in_default
returns-in_default c = scripted-bad _ _ _ _ (sized _ c.any_exceeds.ensures ∙ c.if-any_exceeds.false) (risen_fall _ _ c.in_default.ensures)

pub joined_length-arguments-requires : goal.joined_length-arguments-requires
joined_length-arguments-requires c =
    let a = c.args in
    let s = all_short (a.name.now ∷ a.string.now ∷ a.ends.now ∷ a.sort.now ∷ []) (sized _ c.any_exceeds.ensures ∙ c.if-any_exceeds.false) in
    let t = table-of a.string.now a.ends.now _ c.in-Some.ensures in
    (omega (arith, s.1.0, t.within), s.1.1.0, omega arith)

pub overflow_add-need : goal.overflow_add-need
overflow_add-need c =
    let a = c.args in
    let s = all_short (a.name.now ∷ a.string.now ∷ a.ends.now ∷ a.sort.now ∷ []) (sized _ c.any_exceeds.ensures ∙ c.if-any_exceeds.false) in
    let t = table-of a.string.now a.ends.now _ c.in-Some.ensures in
    record { fits = omega (arith, s.0, s.1.0, s.1.1.0, t.within, c.joined_length-arguments.ensures) }

pub overflow_add-need-2 : goal.overflow_add-need-2
overflow_add-need-2 c =
    let a = c.args in
    let s = all_short (a.name.now ∷ a.string.now ∷ a.ends.now ∷ a.sort.now ∷ []) (sized _ c.any_exceeds.ensures ∙ c.if-any_exceeds.false) in
    let t = table-of a.string.now a.ends.now _ c.in-Some.ensures in
    record { fits = omega (arith, s.0, s.1.0, s.1.1.0, s.1.1.1.0, t.within, c.joined_length-arguments.ensures) }

pub overflow_add-need-3 : goal.overflow_add-need-3
overflow_add-need-3 c =
    let a = c.args in
    let s = all_short (a.name.now ∷ a.string.now ∷ a.ends.now ∷ a.sort.now ∷ []) (sized _ c.any_exceeds.ensures ∙ c.if-any_exceeds.false) in
    let t = table-of a.string.now a.ends.now _ c.in-Some.ensures in
    record { fits = omega (arith, s.0, s.1.0, s.1.1.0, s.1.1.1.0, t.within, c.joined_length-arguments.ensures) }

pub returns-then-out-need : goal.returns-then-out-need
returns-then-out-need c =
    let a = c.args in
    let t = table-of a.string.now a.ends.now _ c.in-Some.ensures in
    scripted-short _ _ _ _ (sized _ c.any_exceeds.ensures ∙ c.if-any_exceeds.false) t.right _
    (declare_fun_long a.name.now (parts a.string.now a.ends.now) a.sort.now _ (joined_need (bytes " ") a.string.now a.ends.now _ _ t c.joined_length-arguments.ensures))
    c.if-out-need.true

pub put_declare_fun-requires : goal.put_declare_fun-requires
put_declare_fun-requires c = (table-of c.args.string.now c.args.ends.now _ c.in-Some.ensures).right

pub returns : goal.returns
returns c =
    let a = c.args in
    let t = table-of a.string.now a.ends.now _ c.in-Some.ensures in
    scripted-line _ _ _ _ (sized _ c.any_exceeds.ensures ∙ c.if-any_exceeds.false) t.right _
    (declare_fun_long a.name.now (parts a.string.now a.ends.now) a.sort.now _ (joined_need (bytes " ") a.string.now a.ends.now _ _ t c.joined_length-arguments.ensures))
    c.if-out-need.false _ _ c.put_declare_fun.ensures
