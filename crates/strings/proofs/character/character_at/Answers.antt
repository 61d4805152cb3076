use mathlib.Core.Path.{ap, ◌∙◌}
use Rattle.strings.specs.Points.{one}
use Rattle.strings.proofs.Characters.{character-plain, character_point, character-raw, character-last, character-two, character_lone}
use Rattle.strings.proofs.character.character_at.Goals as goal
use Rattle.strings.proofs.character.character_at.Goals.{else-byte-eq34-via-then-byte-eq34+then-at-s+else-s-at-eq34, else-byte-eq34-via-then-byte-eq34+else-at-s, else-byte-eq34-via-else-byte-eq34}

pub returns-in-Some : goal.returns-in-Some
returns-in-Some c = let a = c.args in character_point a.s.now a.at c.requires c.if-byte-eq92.true _ c.escape_at.ensures _ _ c.in-Some.is

pub returns-in-None : goal.returns-in-None
returns-in-None c = let a = c.args in character-plain a.s.now a.at c.requires c.if-byte-eq92.true _ c.escape_at.ensures c.in-None.is

pub returns-then-s-at-eq34 : goal.returns-then-s-at-eq34
returns-then-s-at-eq34 c = let a = c.args in character-two a.s.now a.at c.requires c.if-byte-eq92.false c.if-byte-eq34.true c.if-at-s.true c.if-s-at-eq34.true

pub returns : goal.returns
returns c =
    let a = c.args in
    ap one c.from.ensures ∙
    elim c.else-byte-eq34.branch [
      | else-byte-eq34-via-then-byte-eq34+then-at-s+else-s-at-eq34 w ↦ ap one w.if-byte-eq34.true ∙ character_lone a.s.now a.at c.requires c.if-byte-eq92.false w.if-byte-eq34.true w.if-at-s.true w.if-s-at-eq34.false
      | else-byte-eq34-via-then-byte-eq34+else-at-s w ↦ ap one w.if-byte-eq34.true ∙ character-last a.s.now a.at c.requires c.if-byte-eq92.false w.if-byte-eq34.true w.if-at-s.false
      | else-byte-eq34-via-else-byte-eq34 w ↦ character-raw a.s.now a.at c.requires c.if-byte-eq92.false w.if-byte-eq34.false
    ]
