use borrow.Enum.Refused.{opened}
use Rattle.value_text.proofs.Mades.{made-nameless, made-entity, made_record}
use Rattle.value_text.proofs.made.made_row.Goals as goal

pub returns-in-Entity : goal.returns-in-Entity
returns-in-Entity c = made-entity _ _ _ c.sort_at-sort.ensures c.in-Entity.is

pub returns-in-Record : goal.returns-in-Record
returns-in-Record c = made_record _ _ _ c.sort_at-sort.ensures _ _ c.in-Record.is

pub returns-in_default : goal.returns-in_default
returns-in_default c = made-nameless _ _ _ c.sort_at-sort.ensures (opened c.in_default.in_default-own.keys3)
