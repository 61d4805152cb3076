use borrow.Enum.Refused.{opened}
use Rattle.forms.proofs.Rows.{row-entity, row_record, row_other}
use Rattle.forms.proofs.made.row_form.Goals as goal

pub returns-in-Entity : goal.returns-in-Entity
returns-in-Entity c = let a = c.args in row-entity a.sorts.now a.nodes.now a.row a.first a.count c.sort_at-sort.result c.sort_at-sort.ensures c.in-Entity.is c.entity_form.result c.entity_form.ensures

pub returns-in-Record : goal.returns-in-Record
returns-in-Record c = let a = c.args in row_record a.sorts.now a.nodes.now a.row a.first a.count c.sort_at-sort.result c.sort_at-sort.ensures _ _ c.in-Record.is

pub returns-in_default : goal.returns-in_default
returns-in_default c = let a = c.args in row_other a.sorts.now a.nodes.now a.row a.first a.count c.sort_at-sort.result c.sort_at-sort.ensures (opened c.in_default.in_default-own.keys3)
