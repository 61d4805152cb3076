use mathlib.Core.Path.{sym, ◌∙◌}
use Rattle.literals.proofs.Words.{word_true, word_false, word-member, word-unknown}
use Rattle.literals.proofs.leaf.word_lit.Goals as goal

pub returns-then-same : goal.returns-then-same
returns-then-same c = let a = c.args in word_true a.sorts.now a.members.now a.names.now a.name.now (sym c.same.ensures ∙ c.if-same.true) c.value_of.result c.value_of.ensures

pub returns-then-same-2 : goal.returns-then-same-2
returns-then-same-2 c = let a = c.args in word_false a.sorts.now a.members.now a.names.now a.name.now (sym c.same.ensures ∙ c.if-same.false) (sym c.same-2.ensures ∙ c.if-same-2.true) c.value_of-then-same-2.result c.value_of-then-same-2.ensures

pub returns-in-Some : goal.returns-in-Some
returns-in-Some c = let a = c.args in word-member a.sorts.now a.members.now a.names.now a.name.now (sym c.same.ensures ∙ c.if-same.false) (sym c.same-2.ensures ∙ c.if-same-2.false) c.find_member-found.result c.find_member-found.ensures _ c.in-Some.is c.member_of.result c.member_of.ensures

pub returns-in-None : goal.returns-in-None
returns-in-None c = let a = c.args in word-unknown a.sorts.now a.members.now a.names.now a.name.now (sym c.same.ensures ∙ c.if-same.false) (sym c.same-2.ensures ∙ c.if-same-2.false) c.find_member-found.result c.find_member-found.ensures c.in-None.is
