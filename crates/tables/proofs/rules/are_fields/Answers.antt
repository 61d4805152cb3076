use Rattle.std.proofs.Common.{not}
use Rattle.tables.proofs.Answers.{and_no, and_yes}
use Rattle.tables.proofs.Rights.{part-long, part-short}
use mathlib.Core.Path.{refl, ap, ◌∙◌}
use mathlib.Core.List.{List}
use Prim.Native.Nat.{ℕ}
use lib.Dec.{ltb}
use Rattle.ground.specs.Lists.{all}
use Rattle.tables.proofs.rules.are_fields.Goals as goal

pub returns-then-not-is_inside : goal.returns-then-not-is_inside
returns-then-not-is_inside c = and_no _ _ _ c.is_inside.ensures (ap not c.if-not-is_inside.true)

pub returns-then-range-gt-MOST_FIELDS : goal.returns-then-range-gt-MOST_FIELDS
returns-then-range-gt-MOST_FIELDS c = let a = c.args in and_yes _ _ _ c.is_inside.ensures (ap not c.if-not-is_inside.false) _ (part-long a.fields.now _ _ _ c.clamp-range.ensures _ _ c.if-range-gt-MOST_FIELDS.true)

pub returns : goal.returns
returns c = let a = c.args in and_yes _ _ _ c.is_inside.ensures (ap not c.if-not-is_inside.false) _ (part-short a.fields.now _ _ _ c.clamp-range.ensures _ _ c.if-range-gt-MOST_FIELDS.false _ (c.are_below.ensures ∙ ap (λ (xs : List ℕ). all (λ field. ltb field a.row) xs) (c.clamp-range.ensures.holds a.fields.now refl)))
