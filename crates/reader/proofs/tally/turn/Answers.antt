use mathlib.Core.Path.{sym, ◌∙◌}
use Rattle.reader.proofs.Turns.{atomic_kind, turn-atom, turn-plain, turn-opening, turn-closing}
use Rattle.reader.proofs.tally.turn.Goals as goal

pub opens-requires : goal.opens-requires
opens-requires c = (c.requires.depth, c.requires.nodes)

pub adds-requires : goal.adds-requires
adds-requires c = (c.requires.nodes, c.requires.text _ (sym c.atom_size.ensures ∙ c.in_ok-size-in-Bits.was))

pub returns-in-Blank : goal.returns-in-Blank
returns-in-Blank c = let a = c.args in turn-plain a.scan a.kind _ a.content.now c.in-Blank.is

pub returns-in-Opening : goal.returns-in-Opening
returns-in-Opening c = let a = c.args in turn-opening a.scan _ a.kind a.content.now c.in-Opening.is c.opens.ensures

pub returns-in-Closing : goal.returns-in-Closing
returns-in-Closing c = let a = c.args in turn-closing a.scan _ a.kind a.content.now c.in-Closing.is c.closes.ensures

pub returns-in_ok-size-in-Bits : goal.returns-in_ok-size-in-Bits
returns-in_ok-size-in-Bits c = let a = c.args in turn-atom a.scan _ (atomic_kind a.kind a.content.now c.in-Bits.is) _ _ (sym c.atom_size.ensures ∙ c.in_ok-size-in-Bits.was) c.adds.ensures
