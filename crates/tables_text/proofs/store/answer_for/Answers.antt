use Rattle.tables_text.proofs.Stores.{none_told, first_1, first_2, first_3, first_4, first_5, first-none}
use Rattle.tables_text.proofs.store.answer_for.Goals as goal

pub returns-in_default : goal.returns-in_default
returns-in_default c = none_told _ _ _ _ _ _ c.in_default.is

pub returns-then-sorts-counts : goal.returns-then-sorts-counts
returns-then-sorts-counts c = first_1 _ _ _ _ _ _ _ _ _ _ _ c.in-Some.is c.if-sorts-counts.true

pub returns-then-fields-counts : goal.returns-then-fields-counts
returns-then-fields-counts c = first_2 _ _ _ _ _ _ _ _ _ _ _ c.in-Some.is c.if-sorts-counts.false c.if-fields-counts.true

pub returns-then-variables-counts : goal.returns-then-variables-counts
returns-then-variables-counts c = first_3 _ _ _ _ _ _ _ _ _ _ _ c.in-Some.is c.if-sorts-counts.false c.if-fields-counts.false c.if-variables-counts.true

pub returns-then-functions-counts : goal.returns-then-functions-counts
returns-then-functions-counts c = first_4 _ _ _ _ _ _ _ _ _ _ _ c.in-Some.is c.if-sorts-counts.false c.if-fields-counts.false c.if-variables-counts.false c.if-functions-counts.true

pub returns-then-members-counts : goal.returns-then-members-counts
returns-then-members-counts c = first_5 _ _ _ _ _ _ _ _ _ _ _ c.in-Some.is c.if-sorts-counts.false c.if-fields-counts.false c.if-variables-counts.false c.if-functions-counts.false c.if-members-counts.true

pub returns : goal.returns
returns c = first-none _ _ _ _ _ _ _ _ _ _ _ c.in-Some.is c.if-sorts-counts.false c.if-fields-counts.false c.if-variables-counts.false c.if-functions-counts.false c.if-members-counts.false
