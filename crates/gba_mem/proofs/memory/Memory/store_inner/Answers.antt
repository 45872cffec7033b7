use Rattle.std.proofs.Common.{sym, ◌∙◌}
use Rattle.gba_bus.specs.Regions.{region_of}
use Rattle.gba_mem.proofs.Storing.{store-wide}
use Rattle.gba_mem.proofs.Telling.{inner_write}
use Rattle.gba_mem.proofs.memory.Memory.store_inner.Goals as goal

pub returns : goal.returns
returns c = λ mode.
    let address = c.args.address in
    let width = c.args.width in
    c.put_inner.ensures
    ∙ sym (store-wide mode c.args.self.now address width c.args.value
    ∙ inner_write (region_of address) mode c.args.self.now address width c.args.value c.requires)
