use Rattle.forms.proofs.Apps.{app-none, app_as_some, app-some, app-empty, app-singleton, app-union, app-extension, app-indexed, app-made, app-unary, app-binary, app-other}
use Rattle.forms.proofs.form.app_form.Goals as goal

pub returns-in-AsNone : goal.returns-in-AsNone
returns-in-AsNone c = let a = c.args in app-none a.sorts.now a.names.now a.nodes.now a.text.now a.marks.now a.at c.shape_at-shape.result c.shape_at-shape.ensures _ c.in-AsNone.is

pub returns-in-AsSome : goal.returns-in-AsSome
returns-in-AsSome c = let a = c.args in app_as_some a.sorts.now a.names.now a.nodes.now a.text.now a.marks.now a.at c.shape_at-shape.result c.shape_at-shape.ensures _ _ c.in-AsSome.is

pub returns-in-SomeOf : goal.returns-in-SomeOf
returns-in-SomeOf c = let a = c.args in app-some a.sorts.now a.names.now a.nodes.now a.text.now a.marks.now a.at c.shape_at-shape.result c.shape_at-shape.ensures _ c.in-SomeOf.is

pub returns-in-AsEmpty : goal.returns-in-AsEmpty
returns-in-AsEmpty c = let a = c.args in app-empty a.sorts.now a.names.now a.nodes.now a.text.now a.marks.now a.at c.shape_at-shape.result c.shape_at-shape.ensures _ c.in-AsEmpty.is

pub returns-in-Singleton : goal.returns-in-Singleton
returns-in-Singleton c = let a = c.args in app-singleton a.sorts.now a.names.now a.nodes.now a.text.now a.marks.now a.at c.shape_at-shape.result c.shape_at-shape.ensures _ c.in-Singleton.is

pub returns-in-Union : goal.returns-in-Union
returns-in-Union c = let a = c.args in app-union a.sorts.now a.names.now a.nodes.now a.text.now a.marks.now a.at c.shape_at-shape.result c.shape_at-shape.ensures _ _ c.in-Union.is

pub returns-in-Extension : goal.returns-in-Extension
returns-in-Extension c = let a = c.args in app-extension a.sorts.now a.names.now a.nodes.now a.text.now a.marks.now a.at c.shape_at-shape.result c.shape_at-shape.ensures _ _ c.in-Extension.is

pub returns-in-Indexed : goal.returns-in-Indexed
returns-in-Indexed c = let a = c.args in app-indexed a.sorts.now a.names.now a.nodes.now a.text.now a.marks.now a.at c.shape_at-shape.result c.shape_at-shape.ensures _ _ _ _ c.in-Indexed.is c.indexed_form.result c.indexed_form.ensures

pub returns-in-Made : goal.returns-in-Made
returns-in-Made c = let a = c.args in app-made a.sorts.now a.names.now a.nodes.now a.text.now a.marks.now a.at c.shape_at-shape.result c.shape_at-shape.ensures _ _ _ _ c.in-Made.is c.made_form.result c.made_form.ensures

pub returns-in-Unary : goal.returns-in-Unary
returns-in-Unary c = let a = c.args in app-unary a.sorts.now a.names.now a.nodes.now a.text.now a.marks.now a.at c.shape_at-shape.result c.shape_at-shape.ensures c.marked.result c.marked.ensures _ _ c.in-Unary.is

pub returns-in-Binary : goal.returns-in-Binary
returns-in-Binary c = let a = c.args in app-binary a.sorts.now a.names.now a.nodes.now a.text.now a.marks.now a.at c.shape_at-shape.result c.shape_at-shape.ensures c.marked-in-Binary.result c.marked-in-Binary.ensures _ _ _ c.in-Binary.is

pub returns-in_default : goal.returns-in_default
returns-in_default c = let a = c.args in app-other a.sorts.now a.names.now a.nodes.now a.text.now a.marks.now a.at c.shape_at-shape.result c.shape_at-shape.ensures c.in_default.in_default-own.keys12
