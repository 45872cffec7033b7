use Rattle.std.proofs.Common.{◌%◌, ◌^◌}
use Rattle.gba_numbers.specs.Numbers.{value_of}
use Rattle.gba_numbers.specs.declared.fields.Field.TheVariants.{Register}
use Rattle.gba_loose_devices.proofs.Filling.{IsFilled}
use Rattle.gba_loose_devices.proofs.processor.values.Given as goal

abbrev pub invariant-loop-place : goal.invariant-loop-place
invariant-loop-place l = IsFilled (λ place. value_of (Register place) l.numbers % 2 ^ 32) 37 l.place l.values
