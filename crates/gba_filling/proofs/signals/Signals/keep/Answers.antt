use Rattle.std.proofs.Common.{sym, subst, rules}
use Rattle.gba_filling.specs.Signals.{AreSignals, LiveSignals}
use Rattle.gba_filling.proofs.SignalsKept.{one-more, too-many}
use Rattle.gba_filling.proofs.signals.Signals.keep.Goals as goal

pub returns : goal.returns
returns c all h =
    let before : LiveSignals = record { sent = c.self.inside.sent.items; more = c.self.inside.more } in
    let held : AreSignals all before = subst (λ (s : LiveSignals). AreSignals all s) (sym c.self.view_is) h in
    one-more all (c.args.sender, c.args.signal) before c.put_behind.new.list.items (search rules) (search rules) held

pub returns-then-len-ge-MOST_SIGNALS : goal.returns-then-len-ge-MOST_SIGNALS
returns-then-len-ge-MOST_SIGNALS c all h =
    let before : LiveSignals = record { sent = c.self.inside.sent.items; more = c.self.inside.more } in
    let held : AreSignals all before = subst (λ (s : LiveSignals). AreSignals all s) (sym c.self.view_is) h in
    too-many all (c.args.sender, c.args.signal) before (search rules) held
