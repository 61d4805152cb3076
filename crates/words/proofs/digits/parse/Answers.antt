use Rattle.std.proofs.Common.{length, ◌∙◌, ◌≡◌, arith, rules, Err}
use Rattle.std.proofs.lemmas.Bool.Decides.{nat_tests}
use Rattle.refusals.specs.declared.Refusal.TheVariants.{ParseIntError}
use Rattle.words.proofs.Runs.{parsed-empty, sofar-start, sofar-none, sofar-over, sofar-next, sofar-end}
use Rattle.words.proofs.WordRuns.{fewer}
use Rattle.words.proofs.digits.parse.Goals as goal

pub returns-then-is_empty : goal.returns-then-is_empty
returns-then-is_empty c = parsed-empty c.args.radix c.args.run.now (grind (arith, nat_tests))

pub parse_word-requires : goal.parse_word-requires
parse_word-requires c = let a = c.args in (grind (arith, nat_tests), fewer a.radix (length a.run.now) c.word_digits.result c.if-run-word_digits.true c.word_digits.ensures)

pub loop-byte-init : goal.loop-byte-init
loop-byte-init c = sofar-start c.args.radix c.args.run.now c.zero-number.result (grind (arith, nat_tests)) c.zero-number.ensures

pub returns-then-base-from : goal.returns-then-base-from
returns-then-base-from c = sofar-none _ _ _ _ _ _ c.loop-byte.invariant c.loop-byte-test.true (c.digit_worth-digit.ensures) c.base-base.ensures (omega arith)

pub returns-in_err-number : goal.returns-in_err-number
returns-in_err-number c = let e : c.from_residual.result ≡ Err ParseIntError = search (rules, c.in_err-number.ensures.value) in e ∙ sofar-over _ _ _ _ _ _ c.loop-byte.invariant c.loop-byte-test.true c.digit_worth-digit.ensures c.base-base.ensures c.add_digit.result c.add_digit.ensures c.in_err-number.ensures.ok_part

pub loop-byte-preserved : goal.loop-byte-preserved
loop-byte-preserved c = sofar-next _ _ _ _ _ _ c.loop-byte.invariant c.loop-byte-test.true c.digit_worth-digit.ensures c.base-base.ensures c.add_digit.result c.add_digit.ensures c.in_ok-number.number c.in_ok-number.ensures.ok_part (omega arith)

pub returns : goal.returns
returns c = sofar-end _ _ _ _ c.loop-byte.invariant c.loop-byte-test.false
