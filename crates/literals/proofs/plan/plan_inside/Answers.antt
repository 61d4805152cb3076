use Rattle.std.proofs.lemmas.Result.{err_from_is_err_and}
use mathlib.Core.Path.{sym, ap}
use Rattle.literals.specs.declared.form.Form.{Form}
use Rattle.literals.specs.Plan.{then_of}
use Rattle.literals.proofs.Plans.{inside_mismatch, inside_one}
use Rattle.literals.proofs.plan.plan_inside.Goals as goal

pub returns-in-Option : goal.returns-in-Option
returns-in-Option c = let a = c.args in inside_one a.sorts.now a.expected a.form a.value c.expect_in.result c.expect_in.ensures _ c.in_ok-inside.was _ (sym (ap (λ (f : Form). then_of f) c.in-Option.is))

pub returns-in-Set : goal.returns-in-Set
returns-in-Set c = let a = c.args in inside_one a.sorts.now a.expected a.form a.value c.expect_in.result c.expect_in.ensures _ c.in_ok-inside.was _ (sym (ap (λ (f : Form). then_of f) c.in-Set.is))

pub returns-in_err-inside : goal.returns-in_err-inside
returns-in_err-inside c = let a = c.args in let p = err_from_is_err_and c.from_residual.result c.from_residual.ensures.1 in rw (p.1, p.2) (inside_mismatch a.sorts.now a.expected a.form a.value c.expect_in.result c.expect_in.ensures _ c.in_err-inside.was)
