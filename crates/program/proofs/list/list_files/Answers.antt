use Rattle.std.proofs.Common.{sym}
use lib.Seq.{length-take-le}
use Rattle.reply.proofs.Bounds.{printed_within}
use Rattle.program.proofs.list.list_files.Goals as goal

pub slice_bounds-write_all-end : goal.slice_bounds-write_all-end
slice_bounds-write_all-end g c = printed_within c.print_reply-count.ensures

pub slice_bounds-write_all-end-2 : goal.slice_bounds-write_all-end-2
slice_bounds-write_all-end-2 g c = sym (length-take-le _ _ (printed_within c.print_reply-count.ensures))
