use Rattle.std.proofs.Common.{arith}
use Rattle.link_node.proofs.DelayLaws.{hop-changed, hop-other, changed-within}
use Rattle.link_node.proofs.delays.Delays.with.Goals as goal

pub returns-then-receiver-lt4-clause-changed : goal.returns-then-receiver-lt4-clause-changed
returns-then-receiver-lt4-clause-changed c s r =
    hop-changed c.args.self.now c.row_with.result c.args.sender c.args.receiver c.args.cycles (omega arith) s r
    c.row_with.ensures.changed

pub returns-then-receiver-lt4-clause-others : goal.returns-then-receiver-lt4-clause-others
returns-then-receiver-lt4-clause-others c j i apart =
    hop-other c.args.self.now c.row_with.result c.args.sender c.args.receiver j i (omega arith) c.if-sender-lt4.true
    c.row_with.ensures.others apart

pub returns-then-receiver-lt4-clause-within : goal.returns-then-receiver-lt4-clause-within
returns-then-receiver-lt4-clause-within c are some short =
    changed-within c.args.self.now _ c.args.sender c.args.receiver c.args.cycles
    (hop-changed c.args.self.now c.row_with.result c.args.sender c.args.receiver c.args.cycles (omega arith)
    c.if-sender-lt4.true c.if-receiver-lt4.true c.row_with.ensures.changed)
    (λ j i apart. hop-other c.args.self.now c.row_with.result c.args.sender c.args.receiver j i (omega arith)
    c.if-sender-lt4.true c.row_with.ensures.others apart) are some short
