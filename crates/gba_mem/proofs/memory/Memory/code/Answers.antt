use Rattle.std.proofs.Common.{sym, ◌∙◌}
use Rattle.gba_mem.proofs.Loading.{load-wide}
use Rattle.gba_mem.proofs.memory.Memory.code.Goals as goal

pub returns : goal.returns
returns c =
    c.wide_code.ensures ∙ sym (load-wide c.args.self.now c.args.address c.args.address c.args.width)
