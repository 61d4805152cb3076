use mathlib.Core.Path.{refl}
use native.Mathlib.Omega.{arith}
use Rattle.walk.proofs.Notes.{function-inside, function-skipped, function-defined}
use Rattle.walk.proofs.command.note_function.Goals as goal

pub overflow_add-count : goal.overflow_add-count
overflow_add-count c =
    let a = c.args in
    record { fits = omega (arith, c.count.ensures, c.well_formed.1.1.0.0, c.well_formed.1.1.1.0.0, function-inside (record { sorts = a.sorts.now; fields = a.fields.now; variables = a.variables.now; functions = a.functions.now; members = a.members.now; names = a.names.now }) a.nodes.now a.text.now a.offset a.size _ (c.clamp-range.ensures.holds _ refl) _ c.find_function.ensures _ c.in-Some.is) }

pub returns : goal.returns
returns c = function-defined _ _ _ _ _ _ (c.clamp-range.ensures.holds _ refl) _ c.find_function.ensures _ _ _ _ _ _ c.in-Some.is _ _ c.word-argument.ensures c.word-result.ensures _ c.check_function-measured.ensures _ c.count.ensures _ c.noted_as.ensures

pub returns-in_default : goal.returns-in_default
returns-in_default c = function-skipped _ _ _ _ _ _ (c.clamp-range.ensures.holds _ refl) _ c.find_function.ensures _ _ _ _ _ c.in_default.is
