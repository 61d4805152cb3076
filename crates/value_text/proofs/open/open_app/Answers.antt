use Rattle.value_text.specs.declared.open.Opened.{Opened}
use Rattle.value_text.proofs.Apps.{app-none, app_as_some, app-some, app-set, app-extension, app-indexed, app-made, app-other}
use Rattle.value_text.proofs.open.open_app.Goals as goal

pub returns-in-AsNone : goal.returns-in-AsNone
returns-in-AsNone c = let a = c.args in app-none a.sorts.now a.names.now a.nodes.now a.text.now a.at c.shape_at-shape.result c.shape_at-shape.ensures _ _ _ _ c.in-AsNone.is c.put.ensures

pub returns-in-AsSome : goal.returns-in-AsSome
returns-in-AsSome c = let a = c.args in app_as_some a.sorts.now a.names.now a.nodes.now a.text.now a.at c.shape_at-shape.result c.shape_at-shape.ensures _ _ _ _ _ c.in-AsSome.is c.put-in-AsSome.ensures

pub returns-in-SomeOf : goal.returns-in-SomeOf
returns-in-SomeOf c = let a = c.args in app-some a.sorts.now a.names.now a.nodes.now a.text.now a.at c.shape_at-shape.result c.shape_at-shape.ensures _ _ _ _ c.in-SomeOf.is c.put-in-SomeOf.ensures

pub returns-in-AsEmpty : goal.returns-in-AsEmpty
returns-in-AsEmpty c = let a = c.args in app-set a.sorts.now a.names.now a.nodes.now a.text.now a.at c.shape_at-shape.result c.shape_at-shape.ensures _ _ _ c.in-AsEmpty.in-AsEmpty-own.keys4 c.put-in-AsEmpty.ensures

pub returns-in-Extension : goal.returns-in-Extension
returns-in-Extension c = let a = c.args in app-extension a.sorts.now a.names.now a.nodes.now a.text.now a.at c.shape_at-shape.result c.shape_at-shape.ensures _ _ _ _ _ c.in-Extension.is c.write_extension.ensures

pub returns-in-Indexed : goal.returns-in-Indexed
returns-in-Indexed c = let a = c.args in app-indexed a.sorts.now a.names.now a.nodes.now a.text.now a.at c.shape_at-shape.result c.shape_at-shape.ensures _ _ _ _ _ _ _ c.in-Indexed.is c.write_indexed.ensures

pub returns-in-Made : goal.returns-in-Made
returns-in-Made c = let a = c.args in app-made a.sorts.now a.names.now a.nodes.now a.text.now a.at c.shape_at-shape.result c.shape_at-shape.ensures _ _ c.open_made.result _ _ _ _ c.in-Made.is c.open_made.ensures

pub returns-in_default : goal.returns-in_default
returns-in_default c = let a = c.args in app-other a.sorts.now a.names.now a.nodes.now a.text.now a.at c.shape_at-shape.result c.shape_at-shape.ensures _ _ (Opened.Whole 0) c.in_default.in_default-own.keys8
