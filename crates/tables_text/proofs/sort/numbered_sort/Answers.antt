use Rattle.tables_text.proofs.Forms.{numbered_is, numbered-other}
use Rattle.tables_text.proofs.sort.numbered_sort.Goals as goal

pub returns-in-Some : goal.returns-in-Some
returns-in-Some c = let a = c.args in numbered_is a.kind a.s.now _ _ c.number_in.ensures _ c.in-Some.is

pub returns-in-None : goal.returns-in-None
returns-in-None c = let a = c.args in numbered-other a.kind a.s.now _ _ c.number_in.ensures c.in-None.is
