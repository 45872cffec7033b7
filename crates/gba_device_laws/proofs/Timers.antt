-- What timers keep.
use Rattle.std.proofs.Common.{◌≡◌, ℕ, ◌<◌, ◌==◌, Bool, true, false, ◌||◌, refl, arith, if◌then◌else◌}
use Rattle.std.specs.Prelude.{bit_and}
use Rattle.std.proofs.lemmas.Bool.Decides.{nat_tests}
use lib.Bits.{and_zero_r}
use Rattle.std.proofs.lemmas.Nat.{and_mask}
use Rattle.gba_register.specs.Rows.{row_at}
use Rattle.gba_timer.specs.Timer.{timer_after, with_control}
use Rattle.gba_timer.specs.Timers.{FourTimers, cycle, overflow0, overflow1, overflow2, timer_kept, timer_rows, timer_set, timer_written, timers_at_reset}
use Rattle.gba_timer.specs.declared.timer.Timer.{Timer}
use Rattle.gba_device_laws.specs.Holding.{TimerHolds, TimersHold}
use Rattle.gba_device_laws.proofs.Masks.{after_write, stored-write}

-- a reload has 16 bits
half-bound : (value : ℕ) → bit_and value 0xffff ≡ value → value < 0x10000
half-bound value stored = let cut = and_mask value 16 in omega (arith, stored, cut)

-- the bounds of each timer's counter, reload and phase
record IsBounded (t : Timer) : Type 0 where
  counter : t.counter < 0x10000
  reload : t.reload < 0x10000
  phase : t.phase < 1024

bounded-cycle : (below : Bool) (t : Timer) → IsBounded t → TimerHolds (timer_after below t)
bounded-cycle below t is = record {
  counter = grind (arith, nat_tests, is.counter, is.reload);
  phase = grind (arith, nat_tests, is.phase);
}

bounded-control : (value : ℕ) (t : Timer) → IsBounded t → TimerHolds (with_control value t)
bounded-control value t is = record {
  counter = grind (arith, nat_tests, is.counter, is.reload);
  phase = grind (arith, nat_tests, is.phase);
}

-- a cycle leaves what stands at each halfword
kept-cycle : (at : ℕ) (ts : FourTimers) → timer_kept at (cycle ts) ≡ timer_kept at ts
unfolding cycle
kept-cycle at ts = grind (arith, nat_tests)

-- the halfwords that there are
abbrev listed : ℕ → Bool
listed offset =
    (offset == 0x100) || (offset == 0x102) || (offset == 0x104) || (offset == 0x106) || (offset == 0x108)
    || (offset == 0x10a) || (offset == 0x10c) || (offset == 0x10e)

unlisted-mask : (offset : ℕ) → listed offset ≡ false → (row_at timer_rows offset).write_mask ≡ 0
unfolding timer_rows row_at
unlisted-mask offset none = grind (arith, nat_tests, none)

kept-stored : (at offset value : ℕ) (ts : FourTimers) → listed offset ≡ true
    → timer_kept at (timer_set offset value ts) ≡ (if at == offset then value else timer_kept at ts)
kept-stored at offset value ts here = grind (arith, nat_tests, here)

kept-dropped : (at offset : ℕ) (ts : FourTimers) → listed offset ≡ false
    → timer_kept at (timer_set offset 0 ts) ≡ (if at == offset then 0 else timer_kept at ts)
kept-dropped at offset ts none = grind (arith, nat_tests, none)

kept-write : (at offset value : ℕ) (ts : FourTimers)
    → timer_kept at (timer_written offset value ts) ≡ after_write timer_rows offset value (λ k. timer_kept k ts) at
kept-write at offset value ts =
    by_listed (listed offset) refl
  where
    by_listed : (test : Bool) → listed offset ≡ test
        → timer_kept at (timer_written offset value ts) ≡ after_write timer_rows offset value (λ k. timer_kept k ts) at
    by_listed true here = kept-stored at offset (bit_and value (row_at timer_rows offset).write_mask) ts here
    by_listed false none = rw (unlisted-mask offset none, and_zero_r value) (kept-dropped at offset ts none)

module _ (ts : FourTimers) (hold : TimersHold ts) where
  reload0 : ts.timer0.reload < 0x10000
  unfolding row_at timer_rows
  reload0 = half-bound ts.timer0.reload (hold.stored 0x100)

  reload1 : ts.timer1.reload < 0x10000
  unfolding row_at timer_rows
  reload1 = half-bound ts.timer1.reload (hold.stored 0x104)

  reload2 : ts.timer2.reload < 0x10000
  unfolding row_at timer_rows
  reload2 = half-bound ts.timer2.reload (hold.stored 0x108)

  reload3 : ts.timer3.reload < 0x10000
  unfolding row_at timer_rows
  reload3 = half-bound ts.timer3.reload (hold.stored 0x10c)

  bounded0 : IsBounded ts.timer0
  bounded0 = record { counter = hold.timer0.counter; reload = reload0; phase = hold.timer0.phase }

  bounded1 : IsBounded ts.timer1
  bounded1 = record { counter = hold.timer1.counter; reload = reload1; phase = hold.timer1.phase }

  bounded2 : IsBounded ts.timer2
  bounded2 = record { counter = hold.timer2.counter; reload = reload2; phase = hold.timer2.phase }

  bounded3 : IsBounded ts.timer3
  bounded3 = record { counter = hold.timer3.counter; reload = reload3; phase = hold.timer3.phase }

  pub timers-cycle : TimersHold (cycle ts)
  unfolding cycle
  timers-cycle = record {
    timer0 = bounded-cycle false ts.timer0 bounded0;
    timer1 = bounded-cycle (overflow0 ts) ts.timer1 bounded1;
    timer2 = bounded-cycle (overflow1 ts) ts.timer2 bounded2;
    timer3 = bounded-cycle (overflow2 ts) ts.timer3 bounded3;
    stored = λ at. rw (kept-cycle at ts) (hold.stored at);
  }

  stored-timer0 : (offset value : ℕ) → TimerHolds (timer_set offset value ts).timer0
  stored-timer0 offset value = record {
    counter = grind (arith, nat_tests, hold.timer0.counter, reload0);
    phase = grind (arith, nat_tests, hold.timer0.phase);
  }

  stored-timer1 : (offset value : ℕ) → TimerHolds (timer_set offset value ts).timer1
  stored-timer1 offset value = record {
    counter = grind (arith, nat_tests, hold.timer1.counter, reload1);
    phase = grind (arith, nat_tests, hold.timer1.phase);
  }

  stored-timer2 : (offset value : ℕ) → TimerHolds (timer_set offset value ts).timer2
  stored-timer2 offset value = record {
    counter = grind (arith, nat_tests, hold.timer2.counter, reload2);
    phase = grind (arith, nat_tests, hold.timer2.phase);
  }

  stored-timer3 : (offset value : ℕ) → TimerHolds (timer_set offset value ts).timer3
  stored-timer3 offset value = record {
    counter = grind (arith, nat_tests, hold.timer3.counter, reload3);
    phase = grind (arith, nat_tests, hold.timer3.phase);
  }

  pub timers-write : (offset value : ℕ) → TimersHold (timer_written offset value ts)
  timers-write offset value =
      let number = bit_and value (row_at timer_rows offset).write_mask in
      record {
        timer0 = stored-timer0 offset number;
        timer1 = stored-timer1 offset number;
        timer2 = stored-timer2 offset number;
        timer3 = stored-timer3 offset number;
        stored =
            stored-write timer_rows (λ at. timer_kept at ts) (λ at. timer_kept at (timer_written offset value ts))
            offset value (λ at. kept-write at offset value ts) hold.stored;
      }

pub timers-reset : TimersHold timers_at_reset
timers-reset = record {
  timer0 = record { counter = omega arith; phase = omega arith };
  timer1 = record { counter = omega arith; phase = omega arith };
  timer2 = record { counter = omega arith; phase = omega arith };
  timer3 = record { counter = omega arith; phase = omega arith };
  stored = λ at. grind (arith, nat_tests);
}
