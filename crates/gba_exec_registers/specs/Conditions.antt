use Rattle.std.specs.Bool.{beq}
use Rattle.std.specs.Prelude.{Bool, true, false, not, ◌&&◌, ◌||◌}
use Rattle.gba_arm_table.specs.declared.operation.Condition.{Condition}
use Rattle.gba_arm_table.specs.declared.operation.Condition.TheVariants.{Equal, NotEqual, CarrySet, CarryClear, Minus, Plus, Overflow, NoOverflow, Higher, LowerOrSame, GreaterOrEqual, Less, Greater, LessOrEqual, Always, Never}
use Rattle.gba_psr.specs.declared.condition.Flags.{Flags}

-- whether a condition holds (ARM Architecture Reference Manual, A3.2; that the last never does is this
-- project's profile)
abbrev pub holds : Condition → Flags → Bool
holds Equal flags = flags.zero
holds NotEqual flags = not flags.zero
holds CarrySet flags = flags.carry
holds CarryClear flags = not flags.carry
holds Minus flags = flags.negative
holds Plus flags = not flags.negative
holds Overflow flags = flags.overflow
holds NoOverflow flags = not flags.overflow
holds Higher flags = flags.carry && not flags.zero
holds LowerOrSame flags = not flags.carry || flags.zero
holds GreaterOrEqual flags = beq flags.negative flags.overflow
holds Less flags = not (beq flags.negative flags.overflow)
holds Greater flags = not flags.zero && beq flags.negative flags.overflow
holds LessOrEqual flags = flags.zero || not (beq flags.negative flags.overflow)
holds Always flags = true
holds Never flags = false
