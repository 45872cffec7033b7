use Rattle.gba_dma.proofs.Enabled.{unit_enables}
use Rattle.gba_dma.proofs.channels.Channels.unit_done_of.Goals as goal

pub invariant_of-self-in_default : goal.invariant_of-self-in_default
invariant_of-self-in_default c =
    let h = c.self.invariant in
    rw c.end_unit-in_default.ensures
    (record {
      channel0 = h.channel0;
      channel1 = h.channel1;
      channel2 = h.channel2;
      channel3 = unit_enables 3 c.self.inside.channel3 h.channel3;
    })
