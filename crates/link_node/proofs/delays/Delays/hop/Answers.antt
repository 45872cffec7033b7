use Rattle.std.proofs.Common.{arith}
use Rattle.std.proofs.lemmas.Bool.Decides.{nat_tests}
use Rattle.link_node.specs.Delays.{hop_of}
use Rattle.link_node.proofs.delays.Delays.hop.Goals as goal

pub returns-then-receiver-lt4 : goal.returns-then-receiver-lt4
unfolding hop_of
returns-then-receiver-lt4 c = grind (arith, nat_tests, c.if-sender-lt4.true, c.if-receiver-lt4.true)

pub returns-else-sender-lt4 : goal.returns-else-sender-lt4
unfolding hop_of
returns-else-sender-lt4 c = grind (arith, nat_tests, c.else-sender-lt4.either)
