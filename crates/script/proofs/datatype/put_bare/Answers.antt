use mathlib.Core.Path.{◌∙◌}
use Rattle.ground.specs.Bytes.{bytes}
use Rattle.lent.proofs.Offers.{offers_then, offers_as}
use Rattle.parts.specs.Parts.{parts}
use Rattle.script.proofs.Lines.{bare-line}
use Rattle.script.proofs.Texts.{headed}
use Rattle.script.proofs.datatype.put_bare.Goals as goal

pub returns : goal.returns
returns c =
    let a = c.args in
    offers_as (headed (bytes "(declare-datatype ") a.name.now (bytes " (\n  ") _ ∙ bare-line a.name.now (parts a.constructors.now a.ends.now))
    (offers_then c.put_all-at.ensures (offers_then c.put_joined-at.ensures c.put.ensures))
