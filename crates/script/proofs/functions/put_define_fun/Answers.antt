use mathlib.Core.Path.{◌∙◌}
use Rattle.ground.specs.Bytes.{bytes}
use Rattle.lent.proofs.Offers.{offers_then, offers_as}
use Rattle.parts.specs.Parts.{parts}
use Rattle.script.proofs.Lines.{define_fun_line}
use Rattle.script.proofs.Texts.{headed}
use Rattle.script.proofs.functions.put_define_fun.Goals as goal

pub returns : goal.returns
returns c =
    let a = c.args in
    offers_as (headed (bytes "(define-fun ") a.name.now (bytes " (") _ ∙ define_fun_line a.name.now (parts a.string.now a.ends.now) a.sort.now a.body.now)
    (offers_then c.put_all-at.ensures (offers_then c.put_pairs-at.ensures c.put_all.ensures))
