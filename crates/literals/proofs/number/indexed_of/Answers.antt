use Rattle.std.proofs.lemmas.Result.{err_from_is_err_and}
use mathlib.Core.Path.{refl, ap, ◌∙◌}
use mathlib.Core.List.{List}
use Prim.Native.Nat.{ℕ, ◌+◌, ◌*◌, ◌^◌}
use Rattle.arena.specs.Text.{text_at}
use Rattle.words.specs.declared.digits.Radix.{Radix}
use Rattle.words.specs.Run.{parsed}
use Rattle.means.specs.Literal.{unsigned}
use Rattle.literals.proofs.Numbers.{indexed-number, indexed-refused}
use Rattle.literals.proofs.number.indexed_of.Goals as goal

pub returns : goal.returns
returns c = let a = c.args in indexed-number a.sorts.now (text_at a.text.now a.offset a.size) (a.low + a.high * 2 ^ 64) c.parse_number.result (c.parse_number.ensures ∙ ap (λ (s : List ℕ). parsed Radix.Decimal (unsigned s)) (c.clamp-range.ensures.holds a.text.now refl)) _ c.in_ok-number.was c.at_width.result c.at_width.ensures

pub returns-in_err-number : goal.returns-in_err-number
returns-in_err-number c = let a = c.args in let p = err_from_is_err_and c.from_residual.result c.from_residual.ensures.1 in rw (p.1, p.2) (indexed-refused a.sorts.now (text_at a.text.now a.offset a.size) (a.low + a.high * 2 ^ 64) c.parse_number.result (c.parse_number.ensures ∙ ap (λ (s : List ℕ). parsed Radix.Decimal (unsigned s)) (c.clamp-range.ensures.holds a.text.now refl)) _ c.in_err-number.was)
