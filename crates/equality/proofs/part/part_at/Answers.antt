use borrow.Enum.Refused.{opened}
use Rattle.equality.proofs.Parts.{part-atom, part-empty, part-one, part-both, part-other}
use Rattle.equality.proofs.part.part_at.Goals as goal

pub returns-in_default : goal.returns-in_default
returns-in_default c = let a = c.args in part-atom a.nodes.now a.text.now a.at c.list_at-list.result c.list_at-list.ensures c.in_default.is

pub returns-in-AsEmpty : goal.returns-in-AsEmpty
returns-in-AsEmpty c = let a = c.args in part-empty a.nodes.now a.text.now a.at c.list_at-list.result c.list_at-list.ensures c.shape_at-shape.result c.shape_at-shape.ensures _ c.in-AsEmpty.is

pub returns-in-Singleton : goal.returns-in-Singleton
returns-in-Singleton c = let a = c.args in part-one a.nodes.now a.text.now a.at c.list_at-list.result c.list_at-list.ensures c.shape_at-shape.result c.shape_at-shape.ensures _ c.in-Singleton.is

pub returns-in-Union : goal.returns-in-Union
returns-in-Union c = let a = c.args in part-both a.nodes.now a.text.now a.at c.list_at-list.result c.list_at-list.ensures c.shape_at-shape.result c.shape_at-shape.ensures _ _ c.in-Union.is

pub returns-in_default-shape : goal.returns-in_default-shape
returns-in_default-shape c = let a = c.args in part-other a.nodes.now a.text.now a.at c.list_at-list.result c.list_at-list.ensures c.shape_at-shape.result c.shape_at-shape.ensures (opened c.in_default-shape.in_default-shape-own.keys4)
