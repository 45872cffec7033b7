use Rattle.std.proofs.Common.{◌≡◌, true}
use Rattle.gba_loose_devices.specs.Checks.{are_sound_tones}
use Rattle.gba_loose_devices.specs.Sound.{tone_halves, tone_numbers}
use Rattle.gba_loose_devices.specs.Values.{bytes_cut}
use Rattle.gba_loose_devices.proofs.Checked.{sound-tones}
use Rattle.gba_loose_devices.proofs.checks.tones_are_sound.Goals as goal

pub returns-clause-sound : goal.returns-clause-sound
returns-clause-sound c =
    λ test.
    let is : are_sound_tones (tone_numbers c.args.numbers.now) (tone_halves c.args.io.now) ≡ true = cc in
    sound-tones (tone_numbers c.args.numbers.now) (bytes_cut c.args.numbers.now.wave0)
    (bytes_cut c.args.numbers.now.wave1) (tone_halves c.args.io.now) is
