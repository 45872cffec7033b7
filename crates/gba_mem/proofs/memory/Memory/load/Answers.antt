use Rattle.gba_mem.proofs.Loading.{load-wide}
use Rattle.gba_mem.proofs.memory.Memory.load.Goals as goal

pub returns : goal.returns
returns c =
    rw (load-wide c.args.self.now c.args.from c.args.address c.args.width, ← c.is_in_bios.ensures) c.quick_load.ensures
