use Rattle.ground.specs.Bytes.{bytes}
use Rattle.tables_text.proofs.Cuts.{begins-long}
use Rattle.tables_text.proofs.Forms.{yes, no, form-bits, form_option, form-set, form-named}
use Rattle.tables_text.proofs.sort.numbered_form.Goals as goal

pub numbered_sort-requires : goal.numbered_sort-requires
numbered_sort-requires c = begins-long (bytes "sort=bitvec ") c.args.s.now (yes c.starts.ensures c.if-starts.true)

pub returns-then-starts : goal.returns-then-starts
returns-then-starts c = form-bits c.args.s.now _ (yes c.starts.ensures c.if-starts.true) c.numbered_sort.ensures

pub numbered_sort-requires-then-starts-2 : goal.numbered_sort-requires-then-starts-2
numbered_sort-requires-then-starts-2 c = begins-long (bytes "sort=option ") c.args.s.now (yes c.starts-2.ensures c.if-starts-2.true)

pub returns-then-starts-2 : goal.returns-then-starts-2
returns-then-starts-2 c = form_option c.args.s.now _ (no c.starts.ensures c.if-starts.false) (yes c.starts-2.ensures c.if-starts-2.true) c.numbered_sort-then-starts-2.ensures

pub numbered_sort-requires-then-starts-3 : goal.numbered_sort-requires-then-starts-3
numbered_sort-requires-then-starts-3 c = begins-long (bytes "sort=set ") c.args.s.now (yes c.starts-3.ensures c.if-starts-3.true)

pub returns-then-starts-3 : goal.returns-then-starts-3
returns-then-starts-3 c = form-set c.args.s.now _ (no c.starts.ensures c.if-starts.false) (no c.starts-2.ensures c.if-starts-2.false) (yes c.starts-3.ensures c.if-starts-3.true) c.numbered_sort-then-starts-3.ensures

pub returns : goal.returns
returns c = form-named c.args.s.now _ (no c.starts.ensures c.if-starts.false) (no c.starts-2.ensures c.if-starts-2.false) (no c.starts-3.ensures c.if-starts-3.false) c.named_form.ensures
