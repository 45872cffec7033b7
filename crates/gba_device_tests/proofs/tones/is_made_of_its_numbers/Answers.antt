use Rattle.std.proofs.Common.{arith}
use Rattle.gba_psg.specs.Numbers.{tones_of}
use Rattle.gba_psg.proofs.Sound.{differ, reset-sound}
use Rattle.gba_device_tests.proofs.tones.is_made_of_its_numbers.Goals as goal

pub of-tones-requires : goal.of-tones-requires
unfolding tones_of
of-tones-requires g c = record {
  sequencer = omega arith;
  square1 = record {
    place = omega arith;
    wait = omega arith;
    left = omega arith;
    volume = omega arith;
    fade = omega arith;
    sweep = omega arith;
    shadow = omega arith;
    waits = λ e. omega arith;
    lasts = λ e. omega arith;
  };
  square2 = reset-sound 8 (omega arith);
  wave = record {
    place = omega arith;
    wait = omega arith;
    left = omega arith;
    volume = omega arith;
    fade = omega arith;
    sweep = omega arith;
    shadow = omega arith;
    waits = λ e. omega arith;
    lasts = λ e. omega arith;
  };
  noise = reset-sound 0x8000 (omega arith);
  off = λ e. absurd (differ e);
}
