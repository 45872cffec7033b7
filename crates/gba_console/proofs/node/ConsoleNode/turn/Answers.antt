use Rattle.std.proofs.Common.{◌∙◌, sym, ap}
use Rattle.gba_console.specs.Machine.{without_limit}
use Rattle.gba_console.proofs.Unlimited.{stepped-unlimited, told-unlimited}
use Rattle.gba_console.proofs.node.ConsoleNode.turn.Goals as goal

pub returns-clause-node : goal.returns-clause-node
returns-clause-node c =
    ap without_limit c.step_with.ensures.step ∙ sym (stepped-unlimited c.args.due.now c.args.self.now)

pub returns-clause-signal : goal.returns-clause-signal
returns-clause-signal c = c.step_with.ensures.signal ∙ sym (told-unlimited c.args.due.now c.args.self.now)
