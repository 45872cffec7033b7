use Rattle.gba_loose_devices.specs.Sound.{tone_field}
use Rattle.gba_loose_devices.specs.Values.{number_cut}
use Rattle.gba_loose_devices.proofs.Filling.{IsFilled}
use Rattle.gba_loose_devices.proofs.audio.tone_numbers.Given as goal

abbrev pub invariant-loop-place : goal.invariant-loop-place
invariant-loop-place l = IsFilled (λ place. number_cut 32 (tone_field place) l.numbers) 33 l.place l.values
