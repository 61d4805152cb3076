use Rattle.reply.proofs.Given.{prints-listing, prints-refusal}
use Rattle.reply.proofs.show.print_reply.Goals as goal

pub returns-in-Ok : goal.returns-in-Ok
returns-in-Ok c = prints-listing c.list_reply-answer.ensures c.in-Ok.is

pub returns-in-Err : goal.returns-in-Err
returns-in-Err c = prints-refusal c.list_reply-answer.ensures c.in-Err.is c.put_refusal.ensures
