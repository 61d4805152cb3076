use mathlib.Core.Path.{◌≡◌}
use lib.ListN.{length, take}
use lib.Seq.{length-take-le}
use Rattle.lent.specs.Left.{onto}
use Rattle.tables_text.proofs.store.copy_words.Goals as goal

pub returns : goal.returns
unfolding onto
returns c =
    let l : length (take c.args.count c.args.words.now) ≡ c.args.count = length-take-le c.args.count c.args.words.now c.requires.0 in
    cc (c.copy_from_slice.ensures.after)
