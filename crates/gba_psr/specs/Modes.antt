use Rattle.std.specs.Prelude.{ℕ, Bool, ◌&&◌, ◌||◌, ◌==◌, ◌+◌, nat_le, if◌then◌else◌}

-- the seven modes: USR, FIQ, IRQ, SVC, ABT, UND, SYS (ARM Architecture Reference Manual, A2.2)
abbrev pub is_mode : ℕ → Bool
is_mode mode =
    mode == 0x10 || mode == 0x11 || mode == 0x12 || mode == 0x13 || mode == 0x17 || mode == 0x1b || mode == 0x1f

-- the lowest register of which a mode has its own: FIQ has r8 to r14, the others r13 and r14
-- (ARM Architecture Reference Manual, A2.3)
abbrev pub first_banked : ℕ → ℕ
first_banked mode = if mode == 0x11 then 8 else 13

-- how far the banked registers of a mode stand behind the user's of the same number, in the order of the register
-- names; USR and SYS have none of their own
abbrev pub bank_distance : ℕ → ℕ
bank_distance mode =
    if mode == 0x11 then 8
    else if mode == 0x12 then 10
    else if mode == 0x13 then 12
    else if mode == 0x17 then 14
    else if mode == 0x1b then 16
    else 0

-- which of the 37 is register `number` in this mode (ARM Architecture Reference Manual, figure A2-1)
unfoldable pub place : ℕ → ℕ → ℕ
place mode number =
    if nat_le (first_banked mode) number && nat_le number 14 then number + bank_distance mode else number

-- which of the 37 is this mode's SPSR; USR and SYS have none, and read CPSR in its stead (this project's profile)
unfoldable pub saved_place : ℕ → ℕ
saved_place mode =
    if mode == 0x11 then 32
    else if mode == 0x12 then 33
    else if mode == 0x13 then 34
    else if mode == 0x17 then 35
    else if mode == 0x1b then 36
    else 31
