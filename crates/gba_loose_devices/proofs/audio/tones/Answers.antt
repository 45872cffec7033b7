use Rattle.std.proofs.Common.{◌≡◌, ℕ, List, subst}
use Rattle.gba_psg.specs.Numbers.{tones_of}
use Rattle.gba_psg.specs.Soundness.{AreSound}
use Rattle.gba_loose_devices.proofs.audio.tones.Goals as goal

sound-again : (numbers own bank0 own0 bank1 own1 halves ones : List ℕ) → numbers ≡ own → bank0 ≡ own0 → bank1 ≡ own1
    → halves ≡ ones → AreSound (tones_of own own0 own1 ones) → AreSound (tones_of numbers bank0 bank1 halves)
sound-again numbers own bank0 own0 bank1 own1 halves ones a b c d sound =
    let same : tones_of own own0 own1 ones ≡ tones_of numbers bank0 bank1 halves = cc in subst AreSound same sound

pub of-requires : goal.of-requires
of-requires c =
    sound-again _ _ _ _ _ _ _ _ c.tone_numbers-values.ensures c.wave-bank0.ensures c.wave-bank1.ensures
    c.tone_halves.ensures c.requires
