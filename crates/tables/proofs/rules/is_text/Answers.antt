use Rattle.std.proofs.Common.{not}
use Rattle.tables.proofs.Answers.{and_no, and_yes}
use Rattle.tables.proofs.Rights.{part-long, part-short}
use mathlib.Core.Path.{refl, ap, ◌∙◌}
use Rattle.utf8.specs.Octets.{utf8}
use Rattle.tables.proofs.rules.is_text.Goals as goal

pub returns-then-not-is_inside : goal.returns-then-not-is_inside
returns-then-not-is_inside c = and_no _ _ _ c.is_inside.ensures (ap not c.if-not-is_inside.true)

pub returns-then-text-gt-MOST_BYTES : goal.returns-then-text-gt-MOST_BYTES
returns-then-text-gt-MOST_BYTES c = let a = c.args in and_yes _ _ _ c.is_inside.ensures (ap not c.if-not-is_inside.false) _ (part-long a.names.now _ _ _ c.clamp-text.ensures _ _ c.if-text-gt-MOST_BYTES.true)

pub returns : goal.returns
returns c = let a = c.args in and_yes _ _ _ c.is_inside.ensures (ap not c.if-not-is_inside.false) _ (part-short a.names.now _ _ _ c.clamp-text.ensures _ _ c.if-text-gt-MOST_BYTES.false _ (c.is_utf8.ensures ∙ ap utf8 (c.clamp-text.ensures.holds a.names.now refl)))
