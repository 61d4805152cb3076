use mathlib.Core.Path.{◌∙◌}
use Rattle.ground.specs.Bytes.{bytes}
use Rattle.lent.proofs.Offers.{offers_then, offers_as}
use Rattle.parts.specs.Parts.{parts}
use Rattle.script.proofs.Lines.{parametric-line}
use Rattle.script.proofs.Texts.{headed}
use Rattle.script.proofs.datatype.put_parametric.Goals as goal

pub returns : goal.returns
returns c =
    let a = c.args in
    offers_as (headed (bytes "(declare-datatype ") a.name.now (bytes " (par (") _ ∙ parametric-line a.name.now (parts a.parameters.now a.stops.now) (parts a.constructors.now a.ends.now))
    (offers_then c.put_all-at.ensures (offers_then c.put_joined-at.ensures (offers_then c.put-at.ensures (offers_then c.put_joined-at-2.ensures c.put.ensures))))
