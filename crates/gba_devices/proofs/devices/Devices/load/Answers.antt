use Rattle.std.proofs.Common.{◌∙◌, ap}
use Rattle.gba_devices.specs.Registers.{io_loaded}
use Rattle.gba_devices.proofs.devices.Devices.load.Goals as goal

pub returns-clause-value : goal.returns-clause-value
returns-clause-value c =
    c.load.ensures ∙ ap (io_loaded c.args.offset c.args.width) (c.skip.ensures ∙ c.self.view_is)
