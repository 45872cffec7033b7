use Rattle.std.proofs.Common.{sym, ◌∙◌}
use Rattle.gba_bus.specs.Regions.{is_bios, region_of}
use Rattle.gba_mem.proofs.Loading.{load-wide}
use Rattle.gba_mem.proofs.Telling.{inner_code}
use Rattle.gba_mem.proofs.memory.Memory.load_inner.Goals as goal

pub returns : goal.returns
returns c = λ from.
    let address = c.args.address in
    let width = c.args.width in
    c.inner_number.ensures
    ∙ sym (load-wide c.args.self.now from address width
    ∙ inner_code (region_of address) (is_bios (region_of from)) c.args.self.now address width c.requires)
