use Rattle.std.proofs.Common.{arith}
use Rattle.gba_psr.proofs.Views.{with_flags_kept}
use Rattle.gba_psr.proofs.registers.Registers.set_flags.Goals as goal

pub returns : goal.returns
returns c =
    let same = rw c.flagged_status.ensures.value at c.flagged_status.ensures.mode in
    rw (← c.self.view_is, c.flagged_status.ensures.value)
    (with_flags_kept c.self.inside.numbers c.args.flags (omega arith) same)
