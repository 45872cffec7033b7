use Rattle.std.proofs.Common.{ℕ, ◌%◌, ◌^◌, ◌∙◌, ap, get_or, arith, refl}
use Rattle.gba_loose_devices.specs.Sound.{wave_in}
use Rattle.gba_loose_devices.proofs.Filling.{filled-bytes, filled-more, filled-none}
use Rattle.gba_loose_devices.proofs.Places.{wave-length, wave-value}
use Rattle.gba_loose_devices.proofs.audio.wave.Goals as goal

pub loop-place-init : goal.loop-place-init
loop-place-init c = filled-none (λ k. get_or (wave_in c.args.bank c.args.numbers.now) k 0 % 2 ^ 8) 16 _ refl

pub loop-place-preserved : goal.loop-place-preserved
loop-place-preserved c =
    filled-more (λ k. get_or (wave_in c.args.bank c.args.numbers.now) k 0 % 2 ^ 8) 16 c.loop-place.place _
    c.loop-place.bytes (omega arith)
    (c.byte_number.ensures
    ∙ ap (λ (v : ℕ). v % 2 ^ 8) (wave-value c.args.bank c.loop-place.place c.args.numbers.now c.requires (omega arith)))
    c.loop-place.invariant

pub returns : goal.returns
returns c =
    filled-bytes (wave_in c.args.bank c.args.numbers.now) 16 c.loop-place.place c.loop-place.bytes (omega arith)
    (wave-length c.args.bank c.args.numbers.now c.requires c.is_whole.ensures) c.loop-place.invariant
