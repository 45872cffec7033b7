use Rattle.std.specs.Prelude.{ℕ, zero, suc, ◌+◌, ◌==◌, Bool, false, List, [], ◌∷◌, bit_and, slice_set, if◌then◌else◌}
use Rattle.gba_terms.specs.Bits.{bit}
use Rattle.gba_word.specs.Weights.{weight}
use Rattle.gba_register.specs.Rows.{Row, row, row_at}
use Rattle.gba_timer.specs.declared.timer.Timer.{Timer}
use Rattle.gba_timer.specs.Timer.{timer_after, asks_interrupt, overflows, with_control, with_reload}

-- the four timers
pub record FourTimers : Type 0 where
  pub timer0 : Timer
  pub timer1 : Timer
  pub timer2 : Timer
  pub timer3 : Timer

-- which of them overflow in a cycle; a cascade timer asks the one below
abbrev pub overflow0 : FourTimers → Bool
overflow0 ts = overflows false ts.timer0

abbrev pub overflow1 : FourTimers → Bool
overflow1 ts = overflows (overflow0 ts) ts.timer1

abbrev pub overflow2 : FourTimers → Bool
overflow2 ts = overflows (overflow1 ts) ts.timer2

abbrev pub overflow3 : FourTimers → Bool
overflow3 ts = overflows (overflow2 ts) ts.timer3

-- one cycle of the four timers, from 0 to 3
unfoldable pub cycle : FourTimers → FourTimers
cycle ts = record {
  timer0 = timer_after false ts.timer0;
  timer1 = timer_after (overflow0 ts) ts.timer1;
  timer2 = timer_after (overflow1 ts) ts.timer2;
  timer3 = timer_after (overflow2 ts) ts.timer3;
}

-- the mark of a cycle: bit k is set where timer k overflows in it
unfoldable pub overflow_mark : FourTimers → ℕ
overflow_mark ts = weight 1 (overflow0 ts) + weight 2 (overflow1 ts) + weight 4 (overflow2 ts) + weight 8 (overflow3 ts)

-- so many cycles
unfoldable pub after_cycles : ℕ → FourTimers → FourTimers
after_cycles zero ts = ts
after_cycles (suc count) ts = cycle (after_cycles count ts)

-- the marks of so many cycles at the front of a list, whose other entries stay
unfoldable pub with_marks : ℕ → FourTimers → List ℕ → List ℕ
with_marks zero ts marks = marks
with_marks (suc count) ts marks = slice_set (with_marks count ts marks) count (overflow_mark (after_cycles count ts))

-- the timers of a mark that ask for their interrupt
abbrev pub requests : ℕ → FourTimers → ℕ
requests marked ts =
    weight 1 (if bit marked 0 then asks_interrupt ts.timer0 else false)
    + weight 2 (if bit marked 1 then asks_interrupt ts.timer1 else false)
    + weight 4 (if bit marked 2 then asks_interrupt ts.timer2 else false)
    + weight 8 (if bit marked 3 then asks_interrupt ts.timer3 else false)

-- The timers' halfwords: the first of each reads the counter and writes the reload, the second is the control. Timer 0
-- is no cascade timer (GBATEK, GBA Timers).
unfoldable pub timer_rows : List Row
timer_rows =
    row 0x100 0xffff 0xffff ∷ row 0x102 0x00c3 0x00c3
    ∷ row 0x104 0xffff 0xffff ∷ row 0x106 0x00c7 0x00c7
    ∷ row 0x108 0xffff 0xffff ∷ row 0x10a 0x00c7 0x00c7
    ∷ row 0x10c 0xffff 0xffff ∷ row 0x10e 0x00c7 0x00c7 ∷ []

-- what stands at a halfword, and what a byte write keeps of its other byte: of a first halfword the reload
abbrev pub timer_shown : ℕ → FourTimers → ℕ
timer_shown offset ts =
    if offset == 0x100 then ts.timer0.counter
    else if offset == 0x102 then ts.timer0.control
    else if offset == 0x104 then ts.timer1.counter
    else if offset == 0x106 then ts.timer1.control
    else if offset == 0x108 then ts.timer2.counter
    else if offset == 0x10a then ts.timer2.control
    else if offset == 0x10c then ts.timer3.counter
    else if offset == 0x10e then ts.timer3.control
    else 0

abbrev pub timer_kept : ℕ → FourTimers → ℕ
timer_kept offset ts =
    if offset == 0x100 then ts.timer0.reload
    else if offset == 0x104 then ts.timer1.reload
    else if offset == 0x108 then ts.timer2.reload
    else if offset == 0x10c then ts.timer3.reload
    else timer_shown offset ts

-- what a halfword reads
abbrev pub timer_read : ℕ → FourTimers → ℕ
timer_read offset ts = bit_and (timer_shown offset ts) (row_at timer_rows offset).read_mask

-- what a write of these bits leaves
abbrev pub timer_set : ℕ → ℕ → FourTimers → FourTimers
timer_set offset value ts =
    if offset == 0x100 then record ts { timer0 = with_reload value ts.timer0 }
    else if offset == 0x102 then record ts { timer0 = with_control value ts.timer0 }
    else if offset == 0x104 then record ts { timer1 = with_reload value ts.timer1 }
    else if offset == 0x106 then record ts { timer1 = with_control value ts.timer1 }
    else if offset == 0x108 then record ts { timer2 = with_reload value ts.timer2 }
    else if offset == 0x10a then record ts { timer2 = with_control value ts.timer2 }
    else if offset == 0x10c then record ts { timer3 = with_reload value ts.timer3 }
    else if offset == 0x10e then record ts { timer3 = with_control value ts.timer3 }
    else ts

-- what a halfword write leaves
abbrev pub timer_written : ℕ → ℕ → FourTimers → FourTimers
timer_written offset value ts = timer_set offset (bit_and value (row_at timer_rows offset).write_mask) ts

-- a timer by its number, 3 for any above
abbrev pub timer_at : ℕ → FourTimers → Timer
timer_at number ts =
    if number == 0 then ts.timer0
    else if number == 1 then ts.timer1
    else if number == 2 then ts.timer2
    else ts.timer3

-- the timers at reset: all numbers are 0
abbrev pub timer_at_reset : Timer
timer_at_reset = record { counter = 0; reload = 0; control = 0; phase = 0 }

abbrev pub timers_at_reset : FourTimers
timers_at_reset = record {
  timer0 = timer_at_reset;
  timer1 = timer_at_reset;
  timer2 = timer_at_reset;
  timer3 = timer_at_reset;
}
