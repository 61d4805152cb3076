use Rattle.reply.proofs.Given.{in_rooms}
use Rattle.reply.proofs.rooms.list_reply.Goals as goal

pub returns : goal.returns
returns c = in_rooms c.node_words-nodes.ensures c.text_bytes-text.ensures c.stack_words-stack.ensures c.list_in.ensures
