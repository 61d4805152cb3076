use Rattle.tables_text.proofs.Forms.{yes, no, form_1, form_2, form_3, form_4, form_5, form-more}
use Rattle.tables_text.proofs.sort.form_of.Goals as goal

pub returns-then-same : goal.returns-then-same
returns-then-same c = form_1 c.args.s.now (yes c.same.ensures c.if-same.true)

pub returns-then-same-2 : goal.returns-then-same-2
returns-then-same-2 c = form_2 c.args.s.now (no c.same.ensures c.if-same.false) (yes c.same-2.ensures c.if-same-2.true)

pub returns-then-same-3 : goal.returns-then-same-3
returns-then-same-3 c = form_3 c.args.s.now (no c.same.ensures c.if-same.false) (no c.same-2.ensures c.if-same-2.false) (yes c.same-3.ensures c.if-same-3.true)

pub returns-then-same-4 : goal.returns-then-same-4
returns-then-same-4 c = form_4 c.args.s.now (no c.same.ensures c.if-same.false) (no c.same-2.ensures c.if-same-2.false) (no c.same-3.ensures c.if-same-3.false) (yes c.same-4.ensures c.if-same-4.true)

pub returns-then-same-5 : goal.returns-then-same-5
returns-then-same-5 c = form_5 c.args.s.now (no c.same.ensures c.if-same.false) (no c.same-2.ensures c.if-same-2.false) (no c.same-3.ensures c.if-same-3.false) (no c.same-4.ensures c.if-same-4.false) (yes c.same-5.ensures c.if-same-5.true)

pub returns : goal.returns
returns c = form-more c.args.s.now (no c.same.ensures c.if-same.false) (no c.same-2.ensures c.if-same-2.false) (no c.same-3.ensures c.if-same-3.false) (no c.same-4.ensures c.if-same-4.false) _ (no c.same-5.ensures c.if-same-5.false) c.numbered_form.ensures
