use mathlib.Core.Path.{ap, ◌∙◌}
use Prim.Native.Nat.{◌-◌}
use Rattle.tables.specs.declared.sort.Key.{Key}
use Rattle.tables.specs.Layout.{count}
use Rattle.tables.specs.View.{is_kind}
use Rattle.tables.specs.Search.{first_row}
use Rattle.tables.proofs.Sorts.{finds_sort}
use Rattle.tables.proofs.sort.find_sort.Goals as goal

pub returns : goal.returns
returns c = let a = c.args in finds_sort a.sorts.now a.wanted _ (c.find_kind.ensures ∙ ap (λ (k : Key). first_row (is_kind a.sorts.now k.kind k.number) 0 (count a.sorts.now - 0)) c.key_of-key.ensures)
