use mathlib.Core.Path.{sym, ◌∙◌}
use Rattle.forms.proofs.Leaves.{name_true, name_false, name-member, name-unknown}
use Rattle.forms.proofs.word.name_form.Goals as goal

pub returns-then-same : goal.returns-then-same
returns-then-same c = let a = c.args in name_true a.members.now a.names.now a.name.now (sym c.same.ensures ∙ c.if-same.true)

pub returns-then-same-2 : goal.returns-then-same-2
returns-then-same-2 c = let a = c.args in name_false a.members.now a.names.now a.name.now (sym c.same.ensures ∙ c.if-same.false) (sym c.same-2.ensures ∙ c.if-same-2.true)

pub returns-in-Some : goal.returns-in-Some
returns-in-Some c = let a = c.args in name-member a.members.now a.names.now a.name.now (sym c.same.ensures ∙ c.if-same.false) (sym c.same-2.ensures ∙ c.if-same-2.false) c.find_member-found.result c.find_member-found.ensures _ c.in-Some.is c.member_form.result c.member_form.ensures

pub returns-in-None : goal.returns-in-None
returns-in-None c = let a = c.args in name-unknown a.members.now a.names.now a.name.now (sym c.same.ensures ∙ c.if-same.false) (sym c.same-2.ensures ∙ c.if-same-2.false) c.find_member-found.result c.find_member-found.ensures c.in-None.is
