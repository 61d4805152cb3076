use Rattle.definitions.proofs.Tests.{LeftAt}
use Rattle.definitions.proofs.body.check_tests.Given as goal

abbrev pub invariant-loop : goal.invariant-loop
invariant-loop l = LeftAt l.sorts l.fields l.members l.names l.nodes l.text l.offset l.size l.argument l.first l.count l.at l.total l.counter
