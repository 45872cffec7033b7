use Rattle.std.specs.Prelude.{◌≡◌, ℕ, ◌<◌, ◌≤◌, ◌==◌, Bool, true, false, ◌||◌, min, if◌then◌else◌}
use Rattle.gba_register.specs.Before.{steps_before}
use Rattle.gba_timer.specs.Timers.{FourTimers, after_cycles, cycle, overflow0, overflow1, overflow2, overflow3, overflow_mark}

-- For how many cycles nothing comes, if nothing is written. An event is what a cycle has or hasn't, as an overflow.

-- of so many cycles, those before the first one that has an event
abbrev pub cycles_before : (FourTimers → Bool) → ℕ → FourTimers → ℕ
cycles_before event most ts = steps_before cycle event most ts

-- whether a timer by its number overflows in a cycle, 3 for any above, and whether any does
abbrev pub overflow_at : ℕ → FourTimers → Bool
overflow_at number ts =
    if number == 0 then overflow0 ts
    else if number == 1 then overflow1 ts
    else if number == 2 then overflow2 ts
    else overflow3 ts

abbrev pub any_overflow : FourTimers → Bool
any_overflow ts = (overflow0 ts || overflow1 ts) || (overflow2 ts || overflow3 ts)

-- the greatest number of cycles up to so many in none of which any timer overflows; up to 512; and those in none of
-- which a timer does
unfoldable pub quiet_within : ℕ → FourTimers → ℕ
quiet_within most ts = cycles_before any_overflow most ts

abbrev pub quiet : FourTimers → ℕ
quiet ts = quiet_within 512 ts

unfoldable pub quiet_of : ℕ → FourTimers → ℕ
quiet_of number ts = cycles_before (overflow_at number) 512 ts

-- What the cycles before an event are: in none of them it comes, and in the next it does where they are not the most
-- that are counted. Of two events the one that comes first decides.
pub record CountsBefore : Type 0 where
  pub most : (event : FourTimers → Bool) (most : ℕ) (ts : FourTimers) → cycles_before event most ts ≤ most
  pub silent : (event : FourTimers → Bool) (most count : ℕ) (ts : FourTimers) → count < cycles_before event most ts
      → event (after_cycles count ts) ≡ false
  pub next : (event : FourTimers → Bool) (most : ℕ) (ts : FourTimers) → cycles_before event most ts < most
      → event (after_cycles (cycles_before event most ts) ts) ≡ true
  pub either : (one other : FourTimers → Bool) (most : ℕ) (ts : FourTimers)
      → cycles_before (λ t. one t || other t) most ts ≡ min (cycles_before one most ts) (cycles_before other most ts)

-- In the quiet cycles the marks are 0, however many are looked at; and of fewer cycles than are quiet all are.
pub record QuietMarks : Type 0 where
  pub none : (most count : ℕ) (ts : FourTimers) → count < quiet_within most ts
      → overflow_mark (after_cycles count ts) ≡ 0
  pub fewer : (most count : ℕ) (ts : FourTimers) → count ≤ quiet_within most ts → quiet_within count ts ≡ count
