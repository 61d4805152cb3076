use mathlib.Core.Path.{refl, sym, ◌∙◌}
use Rattle.words.specs.declared.digits.Radix.TheVariants.{Decimal}
use Rattle.brackets.specs.Token as T
use Rattle.reader.proofs.Atoms.{no-fault, number-fine, number-left, numeral-words}
use Rattle.reader.proofs.write.write_numeral.Goals as goal

pub returns-in_default : goal.returns-in_default
returns-in_default c = let a = c.args in absurd (no-fault a.scan _ (λ n. T.number n) a.nodes.now a.stack.now c.requires _ (sym c.parse.ensures ∙ c.in_default.is))

pub write_node-requires : goal.write_node-requires
write_node-requires c = let a = c.args in number-fine a.scan _ (λ n. T.number n) a.nodes.now a.stack.now c.requires _ (sym c.parse.ensures ∙ c.in-Ok.is) _ (numeral-words a.digits.now Decimal _ (sym c.parse.ensures ∙ c.in-Ok.is)) refl

pub returns : goal.returns
returns c = let a = c.args in number-left a.scan _ (λ n. T.number n) a.nodes.now a.stack.now c.requires _ (sym c.parse.ensures ∙ c.in-Ok.is) _ (numeral-words a.digits.now Decimal _ (sym c.parse.ensures ∙ c.in-Ok.is)) refl _ _ c.write_node.ensures
