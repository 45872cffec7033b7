use Rattle.gba_dma.proofs.Consistent.{all_triggered, all_written, at_reset, lowest_ended, unit_ended}
use Rattle.gba_dma.proofs.laws.stays_consistent.Goals as goal

pub returns : goal.returns
returns c =
    record { reset = at_reset; write = all_written; event = all_triggered; unit = unit_ended; lowest = lowest_ended }
