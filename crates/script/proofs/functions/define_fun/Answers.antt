use mathlib.Core.Path.{◌∙◌}
use mathlib.Core.List.{[], ◌∷◌}
use native.Mathlib.Omega.{arith}
use Rattle.parts.specs.Parts.{parts}
use Rattle.parts.proofs.Limits.{all_short}
use Rattle.parts.proofs.Rises.{risen_fall}
use Rattle.script.proofs.Scripts.{scripted-long, scripted-bad, scripted-short, scripted-line}
use Rattle.script.proofs.Lengths.{define_fun_long}
use Rattle.script.proofs.Texts.{sized}
use Rattle.script.proofs.Tables.{pairs-of, pairs_need}
use Rattle.script.proofs.functions.define_fun.Goals as goal

pub returns-then-any_exceeds : goal.returns-then-any_exceeds
returns-then-any_exceeds c = scripted-long _ _ _ _ (sized _ c.any_exceeds.ensures ∙ c.if-any_exceeds.true)

pub returns-in_default : goal.returns-in_default
returns-in_default c = scripted-bad _ _ _ _ (sized _ c.any_exceeds.ensures ∙ c.if-any_exceeds.false) (risen_fall _ _ c.in_default.ensures)

pub pairs_length-arguments-requires : goal.pairs_length-arguments-requires
pairs_length-arguments-requires c =
    let a = c.args in
    let s = all_short (a.name.now ∷ a.string.now ∷ a.ends.now ∷ a.sort.now ∷ a.body.now ∷ []) (sized _ c.any_exceeds.ensures ∙ c.if-any_exceeds.false) in
    let t = pairs-of a.string.now a.ends.now _ c.in-Some.ensures in
    (omega (arith, s.1.0, t.table.within), omega (arith, s.1.1.0))

pub overflow_add-need : goal.overflow_add-need
overflow_add-need c =
    let a = c.args in
    let s = all_short (a.name.now ∷ a.string.now ∷ a.ends.now ∷ a.sort.now ∷ a.body.now ∷ []) (sized _ c.any_exceeds.ensures ∙ c.if-any_exceeds.false) in
    let t = pairs-of a.string.now a.ends.now _ c.in-Some.ensures in
    record { fits = omega (arith, s.0, s.1.0, s.1.1.0, t.table.within, c.pairs_length-arguments.ensures) }

pub overflow_add-need-2 : goal.overflow_add-need-2
overflow_add-need-2 c =
    let a = c.args in
    let s = all_short (a.name.now ∷ a.string.now ∷ a.ends.now ∷ a.sort.now ∷ a.body.now ∷ []) (sized _ c.any_exceeds.ensures ∙ c.if-any_exceeds.false) in
    let t = pairs-of a.string.now a.ends.now _ c.in-Some.ensures in
    record { fits = omega (arith, s.0, s.1.0, s.1.1.0, s.1.1.1.0, s.1.1.1.1.0, t.table.within, c.pairs_length-arguments.ensures) }

pub overflow_add-need-3 : goal.overflow_add-need-3
overflow_add-need-3 c =
    let a = c.args in
    let s = all_short (a.name.now ∷ a.string.now ∷ a.ends.now ∷ a.sort.now ∷ a.body.now ∷ []) (sized _ c.any_exceeds.ensures ∙ c.if-any_exceeds.false) in
    let t = pairs-of a.string.now a.ends.now _ c.in-Some.ensures in
    record { fits = omega (arith, s.0, s.1.0, s.1.1.0, s.1.1.1.0, s.1.1.1.1.0, t.table.within, c.pairs_length-arguments.ensures) }

pub overflow_add-need-4 : goal.overflow_add-need-4
overflow_add-need-4 c =
    let a = c.args in
    let s = all_short (a.name.now ∷ a.string.now ∷ a.ends.now ∷ a.sort.now ∷ a.body.now ∷ []) (sized _ c.any_exceeds.ensures ∙ c.if-any_exceeds.false) in
    let t = pairs-of a.string.now a.ends.now _ c.in-Some.ensures in
    record { fits = omega (arith, s.0, s.1.0, s.1.1.0, s.1.1.1.0, s.1.1.1.1.0, t.table.within, c.pairs_length-arguments.ensures) }

pub returns-then-out-need : goal.returns-then-out-need
returns-then-out-need c =
    let a = c.args in
    let t = pairs-of a.string.now a.ends.now _ c.in-Some.ensures in
    scripted-short _ _ _ _ (sized _ c.any_exceeds.ensures ∙ c.if-any_exceeds.false) t.right _
    (define_fun_long a.name.now (parts a.string.now a.ends.now) a.sort.now a.body.now _ (pairs_need a.string.now a.ends.now _ _ t c.pairs_length-arguments.ensures))
    c.if-out-need.true

pub put_define_fun-requires : goal.put_define_fun-requires
put_define_fun-requires c = (pairs-of c.args.string.now c.args.ends.now _ c.in-Some.ensures).table.right

pub returns : goal.returns
returns c =
    let a = c.args in
    let t = pairs-of a.string.now a.ends.now _ c.in-Some.ensures in
    scripted-line _ _ _ _ (sized _ c.any_exceeds.ensures ∙ c.if-any_exceeds.false) t.right _
    (define_fun_long a.name.now (parts a.string.now a.ends.now) a.sort.now a.body.now _ (pairs_need a.string.now a.ends.now _ _ t c.pairs_length-arguments.ensures))
    c.if-out-need.false _ _ c.put_define_fun.ensures
