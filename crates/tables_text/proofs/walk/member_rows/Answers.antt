use mathlib.Core.Path.{refl}
use Rattle.tables_text.specs.Parse.{member_in}
use Rattle.tables_text.specs.Line.{member_line}
use Rattle.tables_text.specs.Words.{member_words}
use Rattle.tables_text.proofs.Spelled.{member-sound}
use Rattle.tables_text.proofs.Walks.{walking_start, walking_full, walking_room, walking_stop, walking_step}
use Rattle.tables_text.proofs.walk.member_rows.Goals as goal

pub loop-row-init : goal.loop-row-init
loop-row-init c = walking_start member_in member_line member_words member-sound c.args.text.now c.args.table.now _ c.requires.0

pub member_line-requires : goal.member_line-requires
member_line-requires c = let a = c.args in (c.loop-row.invariant.within, walking_room member_in member_line member_words member-sound (λ at x. refl) a.text.now a.table.now _ _ _ _ c.loop-row.invariant c.requires.1 c.loop-row-test.true)

pub returns-in_default : goal.returns-in_default
returns-in_default c = let a = c.args in walking_stop member_in member_line member_words member-sound (λ at x. refl) a.text.now a.table.now _ _ _ _ c.loop-row.invariant c.requires.1 c.loop-row-test.true _ _ c.member_line.ensures c.in_default.is

pub loop-row-preserved : goal.loop-row-preserved
loop-row-preserved c = let a = c.args in walking_step member_in member_line member_words member-sound (λ at x. refl) a.text.now a.table.now _ _ _ _ c.loop-row.invariant c.requires.1 c.loop-row-test.true _ _ c.member_line.ensures _ c.in-Some.is

pub returns : goal.returns
returns c = let a = c.args in walking_full member_in member_line member_words member-sound (λ at x. refl) a.text.now a.table.now _ _ _ _ c.loop-row.invariant c.requires.1 c.loop-row-test.false
