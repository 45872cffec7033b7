use Rattle.std.proofs.Common.{◌∙◌, arith}
use Rattle.gba_devices.proofs.Passing.{steps_after, steps_few, steps_idle, steps_lineless}
use Rattle.gba_devices.proofs.devices.Devices.owe_unheard.Goals as goal

pub returns : goal.returns
returns c =
    let first = c.owe_looked-first in
    let more = c.owe_looked in
    let d = c.args.self.now in
    record {
      devices =
          steps_after c.args.cycles first.result more.result d first.new.self more.new.self first.ensures.devices
          more.ensures.devices;
      lineless =
          steps_lineless c.args.cycles first.result more.result d first.new.self first.ensures.devices
          first.ensures.lineless
          more.ensures.lineless;
      idle =
          steps_idle c.args.cycles first.result more.result d first.new.self first.ensures.devices first.ensures.idle
          more.ensures.idle;
      calm = more.ensures.calm ∙ first.ensures.calm;
      few =
          steps_few c.args.cycles first.result more.result c.min-rest.result _ first.ensures.few c.min-rest.ensures
          more.ensures.most;
      most = omega (arith, first.ensures.most, more.ensures.most, c.min-rest.ensures);
    }
