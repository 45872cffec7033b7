use Rattle.std.specs.Prelude.{ℕ, ◌+◌, ◌==◌, Bool, not, ◌&&◌, nat_le, if◌then◌else◌}
use Rattle.gba_terms.specs.Bits.{bit, field}
use Rattle.gba_timer.specs.declared.timer.Timer.{Timer}

-- A timer has its counter, its reload, its control, and the cycles since it last counted (GBATEK, GBA Timers). In the
-- control, bits 0 and 1 choose the prescaler, bit 2 makes a cascade timer, bit 6 asks for the interrupt, bit 7 runs it.
abbrev pub prescaler_of : ℕ → ℕ
prescaler_of choice = if choice == 0 then 1 else if choice == 1 then 64 else if choice == 2 then 256 else 1024

abbrev pub prescaler : Timer → ℕ
prescaler t = prescaler_of (field t.control 0 2)

abbrev pub is_cascade : Timer → Bool
is_cascade t = bit t.control 2

abbrev pub asks_interrupt : Timer → Bool
asks_interrupt t = bit t.control 6

abbrev pub is_running : Timer → Bool
is_running t = bit t.control 7

-- whether the phase goes on in a cycle, and whether it comes to the prescaler
abbrev pub has_phase : Timer → Bool
has_phase t = is_running t && not (is_cascade t)

abbrev pub completes_phase : Timer → Bool
completes_phase t = nat_le (prescaler t) (t.phase + 1)

-- whether a timer counts in a cycle; `below` says whether the timer below overflowed in it
abbrev pub counts : Bool → Timer → Bool
counts below t = is_running t && (if is_cascade t then below else completes_phase t)

-- counting from FFFFh is the overflow, and then the counter takes the reload
abbrev pub overflows : Bool → Timer → Bool
overflows below t = counts below t && (t.counter == 0xffff)

abbrev pub next_count : Timer → ℕ
next_count t = if t.counter == 0xffff then t.reload else t.counter + 1

abbrev pub next_phase : Timer → ℕ
next_phase t = if has_phase t then (if completes_phase t then 0 else t.phase + 1) else t.phase

-- one cycle of a timer
abbrev pub timer_after : Bool → Timer → Timer
timer_after below t = record t { counter = if counts below t then next_count t else t.counter; phase = next_phase t }

-- a write of the reload, and of the control: a start makes the counter the reload and the phase 0
abbrev pub with_reload : ℕ → Timer → Timer
with_reload value t = record t { reload = value }

abbrev pub starts : ℕ → Timer → Bool
starts value t = bit value 7 && not (is_running t)

abbrev pub with_control : ℕ → Timer → Timer
with_control value t = record t {
  counter = if starts value t then t.reload else t.counter;
  control = value;
  phase = if starts value t then 0 else t.phase;
}
