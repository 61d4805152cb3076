use mathlib.Core.Path.{◌∙◌}
use mathlib.Core.List.{[], ◌∷◌}
use native.Mathlib.Omega.{arith}
use Rattle.ground.specs.Bytes.{bytes}
use Rattle.ground.proofs.Tests.{both}
use Rattle.parts.specs.Parts.{parts}
use Rattle.parts.proofs.Limits.{all_short}
use Rattle.parts.proofs.Rises.{risen_fall, first_false, second_false}
use Rattle.script.specs.Line.{indent}
use Rattle.script.proofs.Scripts.{scripted-long, scripted-bad, scripted-short, scripted-line}
use Rattle.script.proofs.Lengths.{datatype_long}
use Rattle.script.proofs.Texts.{sized}
use Rattle.script.proofs.Tables.{table-of, joined_need}
use Rattle.script.proofs.datatype.declare_datatype.Goals as goal

pub returns-then-any_exceeds : goal.returns-then-any_exceeds
returns-then-any_exceeds c = scripted-long _ _ _ _ (sized _ c.any_exceeds.ensures ∙ c.if-any_exceeds.true)

pub returns-in_default : goal.returns-in_default
returns-in_default c = scripted-bad _ _ _ _ (sized _ c.any_exceeds.ensures ∙ c.if-any_exceeds.false) (first_false _ _ (risen_fall _ _ c.in_default.ensures))

pub returns-in_default-check_ends : goal.returns-in_default-check_ends
returns-in_default-check_ends c = scripted-bad _ _ _ _ (sized _ c.any_exceeds.ensures ∙ c.if-any_exceeds.false) (second_false _ _ (risen_fall _ _ c.in_default-check_ends.ensures))

pub joined_length-inner-requires : goal.joined_length-inner-requires
joined_length-inner-requires c =
    let a = c.args in
    let s = all_short (a.name.now ∷ a.parameters.now ∷ a.stops.now ∷ a.constructors.now ∷ a.ends.now ∷ []) (sized _ c.any_exceeds.ensures ∙ c.if-any_exceeds.false) in
    let t = table-of a.parameters.now a.stops.now _ c.in-Some.ensures in
    (omega (arith, s.1.0, t.within), s.1.1.0, omega arith)

pub joined_length-rows-requires : goal.joined_length-rows-requires
joined_length-rows-requires c =
    let a = c.args in
    let s = all_short (a.name.now ∷ a.parameters.now ∷ a.stops.now ∷ a.constructors.now ∷ a.ends.now ∷ []) (sized _ c.any_exceeds.ensures ∙ c.if-any_exceeds.false) in
    let t = table-of a.constructors.now a.ends.now _ c.in-Some-check_ends.ensures in
    (omega (arith, s.1.1.1.0, t.within), s.1.1.1.1.0, omega arith)

pub datatype_length-need-requires : goal.datatype_length-need-requires
datatype_length-need-requires c =
    let a = c.args in
    let s = all_short (a.name.now ∷ a.parameters.now ∷ a.stops.now ∷ a.constructors.now ∷ a.ends.now ∷ []) (sized _ c.any_exceeds.ensures ∙ c.if-any_exceeds.false) in
    let p = table-of a.parameters.now a.stops.now _ c.in-Some.ensures in
    let t = table-of a.constructors.now a.ends.now _ c.in-Some-check_ends.ensures in
    (s.0, omega (arith, s.1.0, s.1.1.0, c.joined_length-inner.ensures, p.within), omega (arith, s.1.1.1.0, s.1.1.1.1.0, c.joined_length-rows.ensures, t.within))

pub returns-then-out-need : goal.returns-then-out-need
returns-then-out-need c =
    let a = c.args in
    let p = table-of a.parameters.now a.stops.now _ c.in-Some.ensures in
    let t = table-of a.constructors.now a.ends.now _ c.in-Some-check_ends.ensures in
    scripted-short _ _ _ _ (sized _ c.any_exceeds.ensures ∙ c.if-any_exceeds.false) (both p.right t.right) _
    (datatype_long a.name.now (parts a.parameters.now a.stops.now) (parts a.constructors.now a.ends.now) _ _ _
    (joined_need (bytes " ") a.parameters.now a.stops.now _ _ p c.joined_length-inner.ensures)
    (joined_need indent a.constructors.now a.ends.now _ _ t c.joined_length-rows.ensures)
    c.datatype_length-need.ensures)
    c.if-out-need.true

pub put_datatype-requires : goal.put_datatype-requires
put_datatype-requires c =
    let a = c.args in
    let p = table-of a.parameters.now a.stops.now _ c.in-Some.ensures in
    let t = table-of a.constructors.now a.ends.now _ c.in-Some-check_ends.ensures in
    (p.right, t.right, joined_need (bytes " ") a.parameters.now a.stops.now _ _ p c.joined_length-inner.ensures)

pub returns : goal.returns
returns c =
    let a = c.args in
    let p = table-of a.parameters.now a.stops.now _ c.in-Some.ensures in
    let t = table-of a.constructors.now a.ends.now _ c.in-Some-check_ends.ensures in
    scripted-line _ _ _ _ (sized _ c.any_exceeds.ensures ∙ c.if-any_exceeds.false) (both p.right t.right) _
    (datatype_long a.name.now (parts a.parameters.now a.stops.now) (parts a.constructors.now a.ends.now) _ _ _
    (joined_need (bytes " ") a.parameters.now a.stops.now _ _ p c.joined_length-inner.ensures)
    (joined_need indent a.constructors.now a.ends.now _ _ t c.joined_length-rows.ensures)
    c.datatype_length-need.ensures)
    c.if-out-need.false _ _ c.put_datatype.ensures
