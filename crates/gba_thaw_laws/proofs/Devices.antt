-- All devices together.
use Rattle.gba_loose.proofs.Made.{made-again}
use Rattle.gba_thaw_laws.specs.Laws.{DevicesThawAgain}
use Rattle.gba_thaw_laws.proofs.Channels.{channels-again}
use Rattle.gba_thaw_laws.proofs.Control.{control-thaws-again, posted-again, waits-half}
use Rattle.gba_thaw_laws.proofs.Picture.{picture-again}
use Rattle.gba_thaw_laws.proofs.Sounds.{sound-thaws-again}

pub devices-again : DevicesThawAgain
devices-again b n io says clock holds =
    let made = made-again b n says.numbers says.range in
    let sounds = sound-thaws-again b n io says holds in
    let control = control-thaws-again b io says.halves holds in
    let channels = channels-again b n io says holds.channels in
    let picture = picture-again b n io says holds.picture in
    let waits = waits-half b io says.halves holds in
    let posted = posted-again b io says.halves holds in
    λ i. record {
      clock = clock i;
      timers = made.timers i;
      sound = sounds.sound i;
      tones = sounds.tones i;
      channels = channels i;
      place = made.place i;
      picture = picture i;
      interrupts = control.interrupts i;
      keys = control.keys i;
      waits = waits i;
      priced = waits i;
      posted = posted i;
      halted = made.halted i;
    }
