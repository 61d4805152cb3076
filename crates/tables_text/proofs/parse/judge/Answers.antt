use mathlib.Core.Path.{sym}
use lib.Seq.{length-take-le}
use Rattle.tables_text.proofs.Readings.{passing_unparsed, fits_1, fits_2, fits_3, fits_4, fits_5, passing_passed, passing_refused}
use Rattle.tables_text.proofs.parse.judge.Goals as goal

pub returns-in_err-counts : goal.returns-in_err-counts
returns-in_err-counts c = rw c.from_residual.ensures (passing_unparsed c.args.text.now _ _ _ _ _ _ c.requires c.in_err-counts.was)

pub slice_bounds-check_tables-end : goal.slice_bounds-check_tables-end
slice_bounds-check_tables-end c = sym (length-take-le c.in_ok-counts.counts.sorts c.args.a.now (fits_1 c.args.text.now _ _ _ _ _ _ c.requires _ _ _ _ _ c.in_ok-counts.was))

pub slice_bounds-check_tables-end-2 : goal.slice_bounds-check_tables-end-2
slice_bounds-check_tables-end-2 c = sym (length-take-le c.in_ok-counts.counts.fields c.args.b.now (fits_2 c.args.text.now _ _ _ _ _ _ c.requires _ _ _ _ _ c.in_ok-counts.was))

pub slice_bounds-check_tables-end-3 : goal.slice_bounds-check_tables-end-3
slice_bounds-check_tables-end-3 c = sym (length-take-le c.in_ok-counts.counts.variables c.args.c.now (fits_3 c.args.text.now _ _ _ _ _ _ c.requires _ _ _ _ _ c.in_ok-counts.was))

pub slice_bounds-check_tables-end-4 : goal.slice_bounds-check_tables-end-4
slice_bounds-check_tables-end-4 c = sym (length-take-le c.in_ok-counts.counts.functions c.args.d.now (fits_4 c.args.text.now _ _ _ _ _ _ c.requires _ _ _ _ _ c.in_ok-counts.was))

pub slice_bounds-check_tables-end-5 : goal.slice_bounds-check_tables-end-5
slice_bounds-check_tables-end-5 c = sym (length-take-le c.in_ok-counts.counts.members c.args.e.now (fits_5 c.args.text.now _ _ _ _ _ _ c.requires _ _ _ _ _ c.in_ok-counts.was))

pub returns-in-Ok : goal.returns-in-Ok
returns-in-Ok c = passing_passed c.args.text.now _ _ _ _ _ _ c.requires _ _ _ _ _ c.in_ok-counts.was _ c.check_tables-answer.ensures c.in-Ok.is

pub returns-in-Err : goal.returns-in-Err
returns-in-Err c = passing_refused c.args.text.now _ _ _ _ _ _ c.requires _ _ _ _ _ c.in_ok-counts.was _ c.check_tables-answer.ensures _ c.in-Err.is
