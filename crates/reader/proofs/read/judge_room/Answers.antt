use Rattle.reader.proofs.Answers.{room-nodes, room-text, room-depth, room-all}
use Rattle.reader.proofs.read.judge_room.Goals as goal

pub returns-then-nodes-scan : goal.returns-then-nodes-scan
returns-then-nodes-scan c = room-nodes c.args.scan c.args.nodes c.args.text c.args.depth c.if-nodes-scan.true

pub returns-then-text-scan : goal.returns-then-text-scan
returns-then-text-scan c = let a = c.args in room-text a.scan a.nodes a.text a.depth c.if-nodes-scan.false c.if-text-scan.true

pub returns-then-depth-scan : goal.returns-then-depth-scan
returns-then-depth-scan c = let a = c.args in room-depth a.scan a.nodes a.text a.depth c.if-nodes-scan.false c.if-text-scan.false c.if-depth-scan.true

pub returns : goal.returns
returns c = let a = c.args in room-all a.scan a.nodes a.text a.depth c.if-nodes-scan.false c.if-text-scan.false c.if-depth-scan.false
