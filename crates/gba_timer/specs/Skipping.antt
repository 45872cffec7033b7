use Rattle.std.specs.Prelude.{ℕ, ◌+◌, ◌-◌, ◌*◌, ◌/◌, ◌%◌, ◌==◌, Bool, ◌&&◌, min, nat_le, if◌then◌else◌}
use Rattle.gba_timer.specs.declared.timer.Timer.{Timer}
use Rattle.gba_timer.specs.Timer.{has_phase, is_cascade, is_running, prescaler}
use Rattle.gba_timer.specs.Timers.{FourTimers}

-- The cycles of a timer by arithmetic; only private functions cite it.

-- a phase as it counts: one at or past the prescaler is as one just below it
abbrev pub phase_within : Timer → ℕ
phase_within t = min t.phase (prescaler t - 1)

-- for how many cycles, so many at most, a timer doesn't overflow where the timer below doesn't
abbrev pub own_quiet : ℕ → Timer → ℕ
own_quiet most t =
    if has_phase t && nat_le t.counter 0xffff
    then min ((0xffff - t.counter) * prescaler t + (prescaler t - phase_within t - 1)) most
    else most

-- whether a timer counts the overflows of the timer below
abbrev pub follows : Timer → Bool
follows t = is_running t && is_cascade t

-- so many cycles at once of a timer that doesn't overflow in them
abbrev pub skipped_counter : ℕ → Timer → ℕ
skipped_counter count t = if count == 0 then t.counter else t.counter + (phase_within t + count) / prescaler t

abbrev pub skipped_phase : ℕ → Timer → ℕ
skipped_phase count t = if count == 0 then t.phase else (phase_within t + count) % prescaler t

abbrev pub skipped_timer : ℕ → Timer → Timer
skipped_timer count t = record t {
  counter = if has_phase t then skipped_counter count t else t.counter;
  phase = if has_phase t then skipped_phase count t else t.phase;
}

-- the same of the four timers
abbrev pub own_quiets : ℕ → FourTimers → ℕ
own_quiets most ts =
    min (min (own_quiet most ts.timer0) (own_quiet most ts.timer1))
    (min (own_quiet most ts.timer2) (own_quiet most ts.timer3))

unfoldable pub after_skip : ℕ → FourTimers → FourTimers
after_skip count ts = record {
  timer0 = skipped_timer count ts.timer0;
  timer1 = skipped_timer count ts.timer1;
  timer2 = skipped_timer count ts.timer2;
  timer3 = skipped_timer count ts.timer3;
}
