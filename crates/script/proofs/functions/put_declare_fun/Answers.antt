use mathlib.Core.Path.{◌∙◌}
use Rattle.ground.specs.Bytes.{bytes}
use Rattle.lent.proofs.Offers.{offers_then, offers_as}
use Rattle.parts.specs.Parts.{parts}
use Rattle.script.proofs.Lines.{declare_fun_line}
use Rattle.script.proofs.Texts.{headed}
use Rattle.script.proofs.functions.put_declare_fun.Goals as goal

pub returns : goal.returns
returns c =
    let a = c.args in
    offers_as (headed (bytes "(declare-fun ") a.name.now (bytes " (") _ ∙ declare_fun_line a.name.now (parts a.string.now a.ends.now) a.sort.now)
    (offers_then c.put_all-at.ensures (offers_then c.put_joined-at.ensures c.put_all.ensures))
