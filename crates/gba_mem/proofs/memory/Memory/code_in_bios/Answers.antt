use Rattle.std.proofs.Common.{sym, ◌∙◌}
use Rattle.gba_bus.specs.Regions.{is_bios, region_of}
use Rattle.gba_mem.proofs.Loading.{load-wide}
use Rattle.gba_mem.proofs.Telling.{bios_code}
use Rattle.gba_mem.proofs.memory.Memory.code_in_bios.Goals as goal

pub returns : goal.returns
returns c =
    let address = c.args.address in
    let width = c.args.width in
    c.bios_number.ensures
    ∙ sym (load-wide c.args.self.now address address width
    ∙ bios_code (region_of address) (is_bios (region_of address)) c.args.self.now address width c.requires c.requires)
