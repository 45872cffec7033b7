use Rattle.std.proofs.Common.{sym, ◌∙◌}
use Rattle.gba_mem.proofs.Storing.{store-wide}
use Rattle.gba_mem.proofs.memory.Memory.store.Goals as goal

pub returns : goal.returns
returns c =
    c.quick_store.ensures
    ∙ sym (store-wide c.args.mode c.args.self.now c.args.address c.args.width c.args.value)
