use Rattle.std.proofs.lemmas.Result.{err_from_is_err_and}
use mathlib.Core.Path.{refl, ap}
use Rattle.literals.proofs.Done.{done}
use Rattle.literals.proofs.Plans.{none-refused, empty-refused, as_some-refused, arm_operator, arm-other, arm-none, arm-empty, arm_as_some, arm-some, arm-singleton, arm-union, arm-extension, arm-indexed, arm-made}
use Rattle.literals.proofs.plan.plan_app.Goals as goal

pub returns-in-Uncovered : goal.returns-in-Uncovered
returns-in-Uncovered c = let a = c.args in arm_operator a.sorts.now a.most a.names.now a.nodes.now a.text.now a.at a.expected a.below c.shape_at-shape.result c.shape_at-shape.ensures c.in-Uncovered.in-Uncovered-own.keys1

pub returns-in_ok-literal-in-AsNone : goal.returns-in_ok-literal-in-AsNone
returns-in_ok-literal-in-AsNone c = let a = c.args in arm-none a.sorts.now a.most a.names.now a.nodes.now a.text.now a.at a.expected a.below c.shape_at-shape.result c.shape_at-shape.ensures _ c.read_sort.result c.read_sort.ensures _ c.in_ok-row-in-AsNone.was c.in-AsNone.is c.bare_of.result c.bare_of.ensures _ (ap done c.in_ok-literal-in-AsNone.was)

pub returns-in_err-literal-in-AsNone : goal.returns-in_err-literal-in-AsNone
returns-in_err-literal-in-AsNone c = let a = c.args in let p = err_from_is_err_and c.from_residual-in_err-literal-in-AsNone.result c.from_residual-in_err-literal-in-AsNone.ensures.1 in rw (p.1, p.2) (arm-none a.sorts.now a.most a.names.now a.nodes.now a.text.now a.at a.expected a.below c.shape_at-shape.result c.shape_at-shape.ensures _ c.read_sort.result c.read_sort.ensures _ c.in_ok-row-in-AsNone.was c.in-AsNone.is c.bare_of.result c.bare_of.ensures _ (ap done c.in_err-literal-in-AsNone.was))

pub returns-in_err-row-in-AsNone : goal.returns-in_err-row-in-AsNone
returns-in_err-row-in-AsNone c = let a = c.args in let p = err_from_is_err_and c.from_residual.result c.from_residual.ensures.1 in rw (p.1, p.2) (none-refused a.sorts.now a.most a.names.now a.nodes.now a.text.now a.at a.expected a.below c.shape_at-shape.result c.shape_at-shape.ensures _ c.read_sort.result c.read_sort.ensures _ c.in_err-row-in-AsNone.was c.in-AsNone.is)

pub returns-in_ok-literal-in-AsEmpty : goal.returns-in_ok-literal-in-AsEmpty
returns-in_ok-literal-in-AsEmpty c = let a = c.args in arm-empty a.sorts.now a.most a.names.now a.nodes.now a.text.now a.at a.expected a.below c.shape_at-shape.result c.shape_at-shape.ensures _ c.read_sort-in-AsEmpty.result c.read_sort-in-AsEmpty.ensures _ c.in_ok-row-in-AsEmpty.was c.in-AsEmpty.is c.bare_of-in-AsEmpty.result c.bare_of-in-AsEmpty.ensures _ (ap done c.in_ok-literal-in-AsEmpty.was)

pub returns-in_err-literal-in-AsEmpty : goal.returns-in_err-literal-in-AsEmpty
returns-in_err-literal-in-AsEmpty c = let a = c.args in let p = err_from_is_err_and c.from_residual-in_err-literal-in-AsEmpty.result c.from_residual-in_err-literal-in-AsEmpty.ensures.1 in rw (p.1, p.2) (arm-empty a.sorts.now a.most a.names.now a.nodes.now a.text.now a.at a.expected a.below c.shape_at-shape.result c.shape_at-shape.ensures _ c.read_sort-in-AsEmpty.result c.read_sort-in-AsEmpty.ensures _ c.in_ok-row-in-AsEmpty.was c.in-AsEmpty.is c.bare_of-in-AsEmpty.result c.bare_of-in-AsEmpty.ensures _ (ap done c.in_err-literal-in-AsEmpty.was))

pub returns-in_err-row-in-AsEmpty : goal.returns-in_err-row-in-AsEmpty
returns-in_err-row-in-AsEmpty c = let a = c.args in let p = err_from_is_err_and c.from_residual-in_err-row-in-AsEmpty.result c.from_residual-in_err-row-in-AsEmpty.ensures.1 in rw (p.1, p.2) (empty-refused a.sorts.now a.most a.names.now a.nodes.now a.text.now a.at a.expected a.below c.shape_at-shape.result c.shape_at-shape.ensures _ c.read_sort-in-AsEmpty.result c.read_sort-in-AsEmpty.ensures _ c.in_err-row-in-AsEmpty.was c.in-AsEmpty.is)

pub returns-in_ok-row-in-AsSome : goal.returns-in_ok-row-in-AsSome
returns-in_ok-row-in-AsSome c = let a = c.args in arm_as_some a.sorts.now a.most a.names.now a.nodes.now a.text.now a.at a.expected a.below c.shape_at-shape.result c.shape_at-shape.ensures _ c.read_sort-in-AsSome.result c.read_sort-in-AsSome.ensures _ c.in_ok-row-in-AsSome.was _ c.in-AsSome.is c.inside_row-inside.result c.inside_row-inside.ensures

pub returns-in_err-row-in-AsSome : goal.returns-in_err-row-in-AsSome
returns-in_err-row-in-AsSome c = let a = c.args in let p = err_from_is_err_and c.from_residual-in_err-row-in-AsSome.result c.from_residual-in_err-row-in-AsSome.ensures.1 in rw (p.1, p.2) (as_some-refused a.sorts.now a.most a.names.now a.nodes.now a.text.now a.at a.expected a.below c.shape_at-shape.result c.shape_at-shape.ensures _ c.read_sort-in-AsSome.result c.read_sort-in-AsSome.ensures _ c.in_err-row-in-AsSome.was _ c.in-AsSome.is)

pub returns-in-SomeOf : goal.returns-in-SomeOf
returns-in-SomeOf c = let a = c.args in arm-some a.sorts.now a.most a.names.now a.nodes.now a.text.now a.at a.expected a.below c.shape_at-shape.result c.shape_at-shape.ensures _ c.in-SomeOf.is c.plan_inside.result c.plan_inside.ensures

pub returns-in-Singleton : goal.returns-in-Singleton
returns-in-Singleton c = let a = c.args in arm-singleton a.sorts.now a.most a.names.now a.nodes.now a.text.now a.at a.expected a.below c.shape_at-shape.result c.shape_at-shape.ensures _ c.in-Singleton.is c.plan_inside-in-Singleton.result c.plan_inside-in-Singleton.ensures

pub returns-in-Union : goal.returns-in-Union
returns-in-Union c = let a = c.args in arm-union a.sorts.now a.most a.names.now a.nodes.now a.text.now a.at a.expected a.below c.shape_at-shape.result c.shape_at-shape.ensures _ _ c.in-Union.is

pub returns-in_ok-literal-in-Extension : goal.returns-in_ok-literal-in-Extension
returns-in_ok-literal-in-Extension c = let a = c.args in arm-extension a.sorts.now a.most a.names.now a.nodes.now a.text.now a.at a.expected a.below c.shape_at-shape.result c.shape_at-shape.ensures _ _ c.in-Extension.is c.extension_of.result c.extension_of.ensures _ (ap done c.in_ok-literal-in-Extension.was)

pub returns-in_err-literal-in-Extension : goal.returns-in_err-literal-in-Extension
returns-in_err-literal-in-Extension c = let a = c.args in let p = err_from_is_err_and c.from_residual-in_err-literal-in-Extension.result c.from_residual-in_err-literal-in-Extension.ensures.1 in rw (p.1, p.2) (arm-extension a.sorts.now a.most a.names.now a.nodes.now a.text.now a.at a.expected a.below c.shape_at-shape.result c.shape_at-shape.ensures _ _ c.in-Extension.is c.extension_of.result c.extension_of.ensures _ (ap done c.in_err-literal-in-Extension.was))

pub returns-in_ok-literal-in-Indexed : goal.returns-in_ok-literal-in-Indexed
returns-in_ok-literal-in-Indexed c = let a = c.args in arm-indexed a.sorts.now a.most a.names.now a.nodes.now a.text.now a.at a.expected a.below c.shape_at-shape.result c.shape_at-shape.ensures _ _ _ _ c.in-Indexed.is c.indexed_of.result c.indexed_of.ensures _ (ap done c.in_ok-literal-in-Indexed.was)

pub returns-in_err-literal-in-Indexed : goal.returns-in_err-literal-in-Indexed
returns-in_err-literal-in-Indexed c = let a = c.args in let p = err_from_is_err_and c.from_residual-in_err-literal-in-Indexed.result c.from_residual-in_err-literal-in-Indexed.ensures.1 in rw (p.1, p.2) (arm-indexed a.sorts.now a.most a.names.now a.nodes.now a.text.now a.at a.expected a.below c.shape_at-shape.result c.shape_at-shape.ensures _ _ _ _ c.in-Indexed.is c.indexed_of.result c.indexed_of.ensures _ (ap done c.in_err-literal-in-Indexed.was))

pub returns-in-Made : goal.returns-in-Made
returns-in-Made c = let a = c.args in arm-made a.sorts.now a.most a.names.now a.nodes.now a.text.now a.at a.expected a.below c.shape_at-shape.result c.shape_at-shape.ensures _ _ _ _ c.in-Made.is _ (c.clamp-range.ensures.holds a.text.now refl) c.plan_made.result c.plan_made.ensures

pub returns-in-Other : goal.returns-in-Other
returns-in-Other c = let a = c.args in arm-other a.sorts.now a.most a.names.now a.nodes.now a.text.now a.at a.expected a.below c.shape_at-shape.result c.shape_at-shape.ensures c.in-Other.is
