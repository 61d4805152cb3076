use mathlib.Core.Path.{sym, subst}
use mathlib.Core.List.{List}
use Rattle.equality.specs.Notes.{Cleared, ClearsAt}
use Rattle.equality.proofs.Clears.{both_nested, clear-empty, clear-one, clear_both, part_none}
use Prim.Native.Nat.{ℕ}
use Rattle.equality.proofs.flags.+clear_members.Goals as goal

pub returns-then-allow-eq0 : goal.returns-then-allow-eq0
returns-then-allow-eq0 t c = let a = c.args in both_nested a.marks.now a.nodes.now a.text.now a.at c.taken-place.result c.taken-place.ensures c.part_at-part.result c.part_at-part.ensures _ _ c.in-Both.is a.allow (Cleared a.marks.now a.marks.now a.nodes.now a.text.now a.at) c.if-allow-eq0.true

pub returns-in-Empty : goal.returns-in-Empty
returns-in-Empty t c = let a = c.args in clear-empty a.marks.now a.nodes.now a.text.now a.at c.taken-place.result c.taken-place.ensures c.part_at-part.result c.part_at-part.ensures a.allow c.in-Empty.is

pub returns-in-One : goal.returns-in-One
returns-in-One t c = let a = c.args in subst (λ (ns : List ℕ). ClearsAt a.marks.now ns a.nodes.now a.text.now a.at a.allow) (sym c.remember.ensures) (clear-one a.marks.now a.nodes.now a.text.now a.at c.taken-place.result c.taken-place.ensures c.part_at-part.result c.part_at-part.ensures _ c.in-One.is a.allow)

pub returns-else-allow-eq0 : goal.returns-else-allow-eq0
returns-else-allow-eq0 t c = let a = c.args in clear_both a.marks.now a.nodes.now a.text.now a.at c.taken-place.result c.taken-place.ensures c.part_at-part.result c.part_at-part.ensures _ _ c.in-Both.is a.allow c.if-allow-eq0.false _ _ c.clear_members.ensures c.clear_members-in-Both.ensures

pub returns-in-NoSet : goal.returns-in-NoSet
returns-in-NoSet t c = let a = c.args in part_none a.marks.now a.nodes.now a.text.now a.at c.taken-place.result c.taken-place.ensures c.part_at-part.result c.part_at-part.ensures a.allow (Cleared a.marks.now a.marks.now a.nodes.now a.text.now a.at) c.in-NoSet.is
