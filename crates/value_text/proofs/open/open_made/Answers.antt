use Rattle.value_text.specs.declared.open.Opened.{Opened}
use Rattle.value_text.proofs.Apps.{made-entity, made_record, made_nothing}
use Rattle.value_text.proofs.Leaves.{range_holds}
use Rattle.value_text.proofs.open.open_made.Goals as goal

pub returns-in-Entity : goal.returns-in-Entity
returns-in-Entity c = let a = c.args in made-entity a.sorts.now a.names.now a.nodes.now a.text.now a.offset a.size a.first a.count _ _ _ (range_holds a.text.now _ _ _ c.clamp-range.ensures) c.made_of-made.result c.made_of-made.ensures _ _ c.in-Entity.is c.write_named.ensures

pub returns-in-Record : goal.returns-in-Record
returns-in-Record c = let a = c.args in made_record a.sorts.now a.names.now a.nodes.now a.text.now a.offset a.size a.first a.count _ _ _ (range_holds a.text.now _ _ _ c.clamp-range.ensures) c.made_of-made.result c.made_of-made.ensures _ _ c.in-Record.is c.write_head-place.ensures

pub returns-in-NoName : goal.returns-in-NoName
returns-in-NoName c = let a = c.args in made_nothing a.sorts.now a.names.now a.nodes.now a.text.now a.offset a.size a.first a.count _ _ _ (range_holds a.text.now _ _ _ c.clamp-range.ensures) c.made_of-made.result c.made_of-made.ensures (Opened.Whole 0) c.in-NoName.is
