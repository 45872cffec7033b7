use Rattle.std.specs.Prelude.{ℕ, ◌-◌, ◌^◌, ◌==◌, nat_lt, Bool, if◌then◌else◌, ℤ, pos, negsuc}
use Rattle.gba_word.specs.declared.kinds.Shift.{Shift}
use Rattle.gba_word.specs.declared.kinds.Shift.TheVariants.{Lsl, Lsr, Asr, Ror}
use Rattle.gba_arm_table.specs.declared.operation.Condition.{Condition}
use Rattle.gba_arm_table.specs.declared.operation.Condition.TheVariants.{Equal, NotEqual, CarrySet, CarryClear, Minus, Plus, Overflow, NoOverflow, Higher, LowerOrSame, GreaterOrEqual, Less, Greater, LessOrEqual, Always, Never}
use Rattle.gba_arm_table.specs.declared.operation.ComputeOp.{ComputeOp}
use Rattle.gba_arm_table.specs.declared.operation.ComputeOp.TheVariants.{And, Eor, Sub, Rsb, Add, Adc, Sbc, Rsc, Orr, Mov, Bic, Mvn}
use Rattle.gba_arm_table.specs.declared.operation.CompareOp.{CompareOp}
use Rattle.gba_arm_table.specs.declared.operation.CompareOp.TheVariants.{Tst, Teq, Cmp, Cmn}

-- the condition of a number below 16 (ARM Architecture Reference Manual, A3.2; 15 is this project's profile)
abbrev pub condition_of : ℕ → Condition
condition_of n =
    if n == 0 then Equal else if n == 1 then NotEqual
    else if n == 2 then CarrySet else if n == 3 then CarryClear
    else if n == 4 then Minus else if n == 5 then Plus
    else if n == 6 then Overflow else if n == 7 then NoOverflow
    else if n == 8 then Higher else if n == 9 then LowerOrSame
    else if n == 10 then GreaterOrEqual else if n == 11 then Less
    else if n == 12 then Greater else if n == 13 then LessOrEqual
    else if n == 14 then Always else Never

-- the data processing operation of a number below 16 that is none of 8 to 11 (A3.4)
abbrev pub compute_of : ℕ → ComputeOp
compute_of n =
    if n == 0 then And else if n == 1 then Eor
    else if n == 2 then Sub else if n == 3 then Rsb
    else if n == 4 then Add else if n == 5 then Adc
    else if n == 6 then Sbc else if n == 7 then Rsc
    else if n == 12 then Orr else if n == 13 then Mov
    else if n == 14 then Bic else Mvn

-- the data processing operation of a number from 8 to 11 (A3.4)
abbrev pub compare_of : ℕ → CompareOp
compare_of n = if n == 8 then Tst else if n == 9 then Teq else if n == 10 then Cmp else Cmn

-- the shift of a number below 4 (A5.1)
abbrev pub shift_of : ℕ → Shift
shift_of n = if n == 0 then Lsl else if n == 1 then Lsr else if n == 2 then Asr else Ror

-- The numbers of these, the other way round.
abbrev pub condition_number : Condition → ℕ
condition_number Equal = 0
condition_number NotEqual = 1
condition_number CarrySet = 2
condition_number CarryClear = 3
condition_number Minus = 4
condition_number Plus = 5
condition_number Overflow = 6
condition_number NoOverflow = 7
condition_number Higher = 8
condition_number LowerOrSame = 9
condition_number GreaterOrEqual = 10
condition_number Less = 11
condition_number Greater = 12
condition_number LessOrEqual = 13
condition_number Always = 14
condition_number Never = 15

abbrev pub compute_number : ComputeOp → ℕ
compute_number And = 0
compute_number Eor = 1
compute_number Sub = 2
compute_number Rsb = 3
compute_number Add = 4
compute_number Adc = 5
compute_number Sbc = 6
compute_number Rsc = 7
compute_number Orr = 12
compute_number Mov = 13
compute_number Bic = 14
compute_number Mvn = 15

abbrev pub compare_number : CompareOp → ℕ
compare_number Tst = 8
compare_number Teq = 9
compare_number Cmp = 10
compare_number Cmn = 11

abbrev pub shift_number : Shift → ℕ
shift_number Lsl = 0
shift_number Lsr = 1
shift_number Asr = 2
shift_number Ror = 3

-- a number below 2 ^ 24 as a signed one of 24 bits
abbrev pub signed_of : ℕ → ℤ
signed_of n = if nat_lt n (2 ^ 23) then pos n else negsuc (2 ^ 24 - 1 - n)
