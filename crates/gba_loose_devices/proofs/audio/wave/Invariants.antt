use Rattle.std.proofs.Common.{◌%◌, ◌^◌, get_or}
use Rattle.gba_loose_devices.specs.Sound.{wave_in}
use Rattle.gba_loose_devices.proofs.Filling.{IsFilled}
use Rattle.gba_loose_devices.proofs.audio.wave.Given as goal

abbrev pub invariant-loop-place : goal.invariant-loop-place
invariant-loop-place l = IsFilled (λ k. get_or (wave_in l.bank l.numbers) k 0 % 2 ^ 8) 16 l.place l.bytes
