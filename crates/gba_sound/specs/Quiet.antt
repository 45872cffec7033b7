use Rattle.std.specs.Prelude.{ℕ, zero, suc, Bool, ◌||◌, if◌then◌else◌}
use Rattle.gba_timer.specs.Quiet.{cycles_before, overflow_at}
use Rattle.gba_timer.specs.Timers.{FourTimers, after_cycles, overflow0, overflow1}
use Rattle.gba_sound.specs.Queues.{DirectSound, after_overflow, timer_of}

-- The queues beside the timers: in a cycle each queue takes a byte where the timer that it chose overflows.
abbrev pub rung : ℕ → Bool → DirectSound → DirectSound
rung timer rings s = if rings then after_overflow timer s else s

abbrev pub heard : FourTimers → DirectSound → DirectSound
heard ts s = rung 1 (overflow1 ts) (rung 0 (overflow0 ts) s)

-- so many cycles, from these timers on
unfoldable pub sound_after : ℕ → FourTimers → DirectSound → DirectSound
sound_after zero ts s = s
sound_after (suc count) ts s = heard (after_cycles count ts) (sound_after count ts s)

-- whether a timer overflows that a queue chose
abbrev pub hears : DirectSound → FourTimers → Bool
hears s ts = overflow_at (timer_of 0 s) ts || overflow_at (timer_of 1 s) ts

-- the greatest number of cycles up to 512 in none of which one does
unfoldable pub quiet : FourTimers → DirectSound → ℕ
quiet ts s = cycles_before (hears s) 512 ts
