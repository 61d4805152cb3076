use Rattle.tables_text.proofs.Forms.{yes, no, form-entity, form_record, form-unnamed}
use Rattle.tables_text.proofs.sort.named_form.Goals as goal

pub returns-then-starts : goal.returns-then-starts
returns-then-starts c = form-entity c.args.s.now (yes c.starts.ensures c.if-starts.true)

pub returns-then-starts-2 : goal.returns-then-starts-2
returns-then-starts-2 c = form_record c.args.s.now (no c.starts.ensures c.if-starts.false) (yes c.starts-2.ensures c.if-starts-2.true)

pub returns : goal.returns
returns c = form-unnamed c.args.s.now (no c.starts.ensures c.if-starts.false) (no c.starts-2.ensures c.if-starts-2.false)
