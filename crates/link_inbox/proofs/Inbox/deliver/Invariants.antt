use Rattle.std.proofs.Common.{◌≡◌, ◌+◌, ◌≤◌, ◌++◌, length}
use Rattle.link_inbox.specs.Waiting.{arrived, later}
use Rattle.link_inbox.proofs.Inbox.deliver.Given as goal

abbrev pub invariant-loop-self : goal.invariant-loop-self
invariant-loop-self l = record {
  delivered : l.self.due ++ arrived l.clock l.self.waits ≡ arrived l.clock l.fn.self.waits;
  left : later l.clock l.self.waits ≡ later l.clock l.fn.self.waits;
  few : length l.self.due + length l.self.waits ≤ 16384;
}

abbrev pub decreases-loop-self : goal.decreases-loop-self
decreases-loop-self l = length l.self.waits
