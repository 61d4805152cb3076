use Rattle.std.proofs.Common.{sym, ◌∙◌}
use Rattle.runs.proofs.Words.{mark-past, mark-stopped, mark-other}
use Rattle.runs.proofs.keys.mark.Goals as goal

pub returns-in-Some : goal.returns-in-Some
returns-in-Some c = let l = c.in-Some.ensures.lookup in let e = l.3.1 0 in e ∙ mark-other _ _ l.3.0 (λ z. c.if-byte-ne-STOP.true (e ∙ z))

pub returns-in_default : goal.returns-in_default
returns-in_default c = let l = c.in-Some.ensures.lookup in mark-stopped _ _ l.3.0 (sym (l.3.1 0) ∙ c.if-byte-ne-STOP.false)

pub returns-in_default-2 : goal.returns-in_default-2
returns-in_default-2 c = let l = rw c.in_default.is at c.get.ensures.lookup in mark-past _ _ l.3
