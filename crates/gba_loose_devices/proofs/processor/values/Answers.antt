use Rattle.std.proofs.Common.{arith, refl, ◌%◌, ◌^◌}
use Rattle.gba_numbers.specs.Numbers.{value_of}
use Rattle.gba_numbers.specs.declared.fields.Field.TheVariants.{Register}
use Rattle.gba_loose_devices.proofs.Filling.{filled-all, filled-more, filled-none}
use Rattle.gba_loose_devices.proofs.processor.values.Goals as goal

pub loop-place-init : goal.loop-place-init
loop-place-init c = filled-none (λ place. value_of (Register place) c.args.numbers.now % 2 ^ 32) 37 _ refl

pub loop-place-preserved : goal.loop-place-preserved
loop-place-preserved c =
    filled-more (λ place. value_of (Register place) c.args.numbers.now % 2 ^ 32) 37 c.loop-place.place _
    c.loop-place.values (omega arith) c.register.ensures c.loop-place.invariant

pub returns : goal.returns
returns c =
    filled-all (λ place. value_of (Register place) c.args.numbers.now % 2 ^ 32) 37 c.loop-place.place
    c.loop-place.values (omega arith) c.loop-place.invariant
