use Rattle.std.proofs.Common.{Global}
use Rattle.std.specs.Prelude.{map}
use Rattle.gba_joblog.specs.Views.{console_value}
use Rattle.gba_inputs.specs.Views.{all_inputs_value}
use Rattle.gba_inputs.proofs.SoundInputs.{is-sound}
use Rattle.gba_inputs.proofs.reading.read_inputs.Goals as goal

pub returns-clause-sound : goal.returns-clause-sound
returns-clause-sound g c =
    is-sound g.S.Store.gives
    (all_inputs_value {Z = Global}) (map console_value c.args.consoles.now) _ _ c.read_all.result c.requires
    c.read_all.ensures
