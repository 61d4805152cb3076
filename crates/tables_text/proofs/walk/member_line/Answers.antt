use mathlib.Core.Path.{sym, ap, ◌∙◌}
use lib.Seq.{sets}
use Prim.Native.Nat.{ℕ, ◌*◌}
use mathlib.Core.List.{List}
use Rattle.tables.specs.Layout.{stride}
use Rattle.tables_text.specs.Parse.{member_in}
use Rattle.tables_text.specs.Line.{member_line}
use Rattle.tables_text.specs.Words.{member_words}
use Rattle.tables_text.proofs.Spelled.{member-sound}
use Rattle.tables_text.proofs.Walks.{told-no-member, row-member-at, lined-past, lined-other, lined-row}
use Rattle.tables_text.proofs.walk.member_line.Goals as goal

pub returns-then-text-end : goal.returns-then-text-end
returns-then-text-end c = let a = c.args in lined-past member_in member_line member_words member-sound a.text.now _ _ c.requires.0 c.end_at-end.ensures _ a.table.now c.if-text-end.true

pub returns-in_err-name : goal.returns-in_err-name
returns-in_err-name c = let a = c.args in rw c.from_residual.ensures (lined-other member_in member_line member_words member-sound a.text.now _ _ c.requires.0 c.end_at-end.ensures _ a.table.now c.if-text-end.false (told-no-member _ (sym c.in_err-name.was ∙ c.member_in.ensures)))

pub overflow_sub-end : goal.overflow_sub-end
overflow_sub-end c = (row-member-at c.args.text.now _ _ c.requires.0 c.end_at-end.ensures _ _ _ (sym c.in_ok-name.was ∙ c.member_in.ensures)).3

pub returns : goal.returns
returns c = let a = c.args in let t = row-member-at a.text.now _ _ c.requires.0 c.end_at-end.ensures _ _ _ (sym c.in_ok-name.was ∙ c.member_in.ensures) in lined-row member_in member_line member_words member-sound a.text.now _ _ c.requires.0 c.end_at-end.ensures _ a.table.now c.if-text-end.false t.0 t.1 _ (c.put_row.ensures ∙ ap (λ (w : List ℕ). sets a.table.now (a.row * stride) w) t.2)
