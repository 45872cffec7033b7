use Rattle.std.proofs.Common.{◌∙◌, ap}
use Rattle.gba_devices.specs.State.{rested}
use Rattle.gba_devices.proofs.devices.Devices.rest.Goals as goal

pub returns : goal.returns
returns c =
    rw (← c.self.view_is)
    (c.skips_cycles.ensures.none c.rest.new.self ∙ c.rest.ensures ∙ ap (rested c.args.cycles) c.skip.ensures)
