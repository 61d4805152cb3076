use Rattle.literals.specs.declared.form.Form.{Form}
use Rattle.literals.proofs.Forms.{bare-none, bare-empty, bare-row, bare_missing}
use Rattle.literals.proofs.form.bare_of.Goals as goal

pub returns-in-Some : goal.returns-in-Some
returns-in-Some c = let a = c.args in bare-none a.sorts.now a.row a.form c.inside_row-inside.result c.inside_row-inside.ensures _ c.in-Option.is (bare-row Form.Option a.row _ _ c.in-Some.is)

pub returns-in-None : goal.returns-in-None
returns-in-None c = let a = c.args in bare-none a.sorts.now a.row a.form c.inside_row-inside.result c.inside_row-inside.ensures _ c.in-Option.is (bare_missing Form.Option a.row _ c.in-None.is)

pub returns-in-Some-inside : goal.returns-in-Some-inside
returns-in-Some-inside c = let a = c.args in bare-empty a.sorts.now a.row a.form c.inside_row-inside.result c.inside_row-inside.ensures _ c.in-Set.is (bare-row Form.Set a.row _ _ c.in-Some-inside.is)

pub returns-in-None-inside : goal.returns-in-None-inside
returns-in-None-inside c = let a = c.args in bare-empty a.sorts.now a.row a.form c.inside_row-inside.result c.inside_row-inside.ensures _ c.in-Set.is (bare_missing Form.Set a.row _ c.in-None-inside.is)
