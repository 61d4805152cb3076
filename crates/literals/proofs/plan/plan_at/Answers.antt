use Rattle.std.proofs.lemmas.Result.{err_from_is_err_and}
use mathlib.Core.Path.{sym, ◌∙◌, ap}
use mathlib.Core.Logic.{inl, inr}
use Rattle.literals.proofs.Done.{done}
use Rattle.literals.proofs.Plans.{at-numeral, at-nothing, at_bits, at-string, at_symbol, at-app}
use Rattle.literals.proofs.plan.plan_at.Goals as goal

pub returns-in_ok-literal-in-BitVec : goal.returns-in_ok-literal-in-BitVec
returns-in_ok-literal-in-BitVec c = let a = c.args in at_bits a.sorts.now a.fields.now a.members.now a.names.now a.nodes.now a.text.now a.at a.expected a.below _ _ _ (sym c.node_at-node.ensures ∙ c.in-BitVec.is) c.bits_of.result c.bits_of.ensures _ (ap done c.in_ok-literal-in-BitVec.was)

pub returns-in_err-literal-in-BitVec : goal.returns-in_err-literal-in-BitVec
returns-in_err-literal-in-BitVec c = let a = c.args in let p = err_from_is_err_and c.from_residual.result c.from_residual.ensures.1 in rw (p.1, p.2) (at_bits a.sorts.now a.fields.now a.members.now a.names.now a.nodes.now a.text.now a.at a.expected a.below _ _ _ (sym c.node_at-node.ensures ∙ c.in-BitVec.is) c.bits_of.result c.bits_of.ensures _ (ap done c.in_err-literal-in-BitVec.was))

pub returns-in_ok-literal-in-String : goal.returns-in_ok-literal-in-String
returns-in_ok-literal-in-String c = let a = c.args in at-string a.sorts.now a.fields.now a.members.now a.names.now a.nodes.now a.text.now a.at a.expected a.below _ _ (sym c.node_at-node.ensures ∙ c.in-String.is) c.string_of.result c.string_of.ensures _ (ap done c.in_ok-literal-in-String.was)

pub returns-in_err-literal-in-String : goal.returns-in_err-literal-in-String
returns-in_err-literal-in-String c = let a = c.args in let p = err_from_is_err_and c.from_residual-in_err-literal-in-String.result c.from_residual-in_err-literal-in-String.ensures.1 in rw (p.1, p.2) (at-string a.sorts.now a.fields.now a.members.now a.names.now a.nodes.now a.text.now a.at a.expected a.below _ _ (sym c.node_at-node.ensures ∙ c.in-String.is) c.string_of.result c.string_of.ensures _ (ap done c.in_err-literal-in-String.was))

pub returns-in_ok-literal-in-Symbol : goal.returns-in_ok-literal-in-Symbol
returns-in_ok-literal-in-Symbol c = let a = c.args in at_symbol a.sorts.now a.fields.now a.members.now a.names.now a.nodes.now a.text.now a.at a.expected a.below _ _ (sym c.node_at-node.ensures ∙ c.in-Symbol.is) c.word_of.result c.word_of.ensures _ (ap done c.in_ok-literal-in-Symbol.was)

pub returns-in_err-literal-in-Symbol : goal.returns-in_err-literal-in-Symbol
returns-in_err-literal-in-Symbol c = let a = c.args in let p = err_from_is_err_and c.from_residual-in_err-literal-in-Symbol.result c.from_residual-in_err-literal-in-Symbol.ensures.1 in rw (p.1, p.2) (at_symbol a.sorts.now a.fields.now a.members.now a.names.now a.nodes.now a.text.now a.at a.expected a.below _ _ (sym c.node_at-node.ensures ∙ c.in-Symbol.is) c.word_of.result c.word_of.ensures _ (ap done c.in_err-literal-in-Symbol.was))

pub returns-in-App : goal.returns-in-App
returns-in-App c = let a = c.args in at-app a.sorts.now a.fields.now a.members.now a.names.now a.nodes.now a.text.now a.at a.expected a.below _ _ (sym c.node_at-node.ensures ∙ c.in-App.is) c.plan_app.result c.plan_app.ensures

pub returns-in-Numeral : goal.returns-in-Numeral
returns-in-Numeral c = let a = c.args in elim c.in-Numeral.is [ inl w ↦ at-numeral a.sorts.now a.fields.now a.members.now a.names.now a.nodes.now a.text.now a.at a.expected a.below _ _ (sym c.node_at-node.ensures ∙ w.2) | inr w ↦ at-nothing a.sorts.now a.fields.now a.members.now a.names.now a.nodes.now a.text.now a.at a.expected a.below (sym c.node_at-node.ensures ∙ w) ]
