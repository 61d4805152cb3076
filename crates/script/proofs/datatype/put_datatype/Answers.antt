use Rattle.lent.proofs.Offers.{offers_as}
use Rattle.parts.specs.Parts.{parts}
use Rattle.script.proofs.Lengths.{datatype_bare, datatype_parametric}
use Rattle.script.proofs.datatype.put_datatype.Goals as goal

pub returns-then-inner-eq0 : goal.returns-then-inner-eq0
returns-then-inner-eq0 c =
    let a = c.args in offers_as (datatype_bare a.name.now (parts a.parameters.now a.stops.now) (parts a.constructors.now a.ends.now) a.inner c.requires.2 c.if-inner-eq0.true) c.put_bare.ensures

pub returns-else-inner-eq0 : goal.returns-else-inner-eq0
returns-else-inner-eq0 c =
    let a = c.args in offers_as (datatype_parametric a.name.now (parts a.parameters.now a.stops.now) (parts a.constructors.now a.ends.now) a.inner c.requires.2 c.if-inner-eq0.false) c.put_parametric.ensures
