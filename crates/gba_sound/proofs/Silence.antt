-- Queues take no byte while no timer overflows that they chose.
use Rattle.std.proofs.Common.{◌≡◌, ℕ, zero, suc, ◌≤◌, Bool, true, false, refl, ap, sym, ◌∙◌, arith}
use Rattle.std.specs.Prelude.{◌==◌, ◌||◌, min, if◌then◌else◌}
use Rattle.gba_terms.specs.Bits.{bit}
use Rattle.gba_timer.specs.Quiet.{overflow_at, quiet_of}
use Rattle.gba_timer.specs.Timers.{FourTimers, after_cycles, overflow0, overflow1, overflow2, overflow3}
use Rattle.gba_timer.proofs.Before.{before-either, before-silent}
use Rattle.gba_sound.specs.Queues.{DirectSound, timer_of}
use Rattle.gba_sound.specs.Quiet.{heard, hears, quiet, rung, sound_after}

-- one of four by its number
abbrev chosen : ℕ → Bool → Bool → Bool → Bool → Bool
chosen number first second third fourth =
    if number == 0 then first
    else if number == 1 then second
    else if number == 2 then third
    else fourth

rung-none : (s : DirectSound) (first second third fourth a b : Bool) → bit s.control 10 ≡ a → bit s.control 14 ≡ b
    → (chosen (timer_of 0 s) first second third fourth || chosen (timer_of 1 s) first second third fourth) ≡ false
    → rung 1 second (rung 0 first s) ≡ s
rung-none s false false third fourth a b e h none = refl
rung-none s true false third fourth true true e h none = rw (e, h) refl
rung-none s false true third fourth false false e h none = rw (e, h) refl
rung-none s true second third fourth false b e h none = (let never = rw e at none in cc)
rung-none s true false third fourth true false e h none = (let never = rw (e, h) at none in cc)
rung-none s first true third fourth true b e h none = (let never = rw e at none in cc)
rung-none s false true third fourth false true e h none = (let never = rw (e, h) at none in cc)

heard-none : (ts : FourTimers) (s : DirectSound) → hears s ts ≡ false → heard ts s ≡ s
heard-none ts s none =
    rung-none s (overflow0 ts) (overflow1 ts) (overflow2 ts) (overflow3 ts) (bit s.control 10) (bit s.control 14) refl
    refl none

pub still : (count : ℕ) (ts : FourTimers) (s : DirectSound) → count ≤ quiet ts s → sound_after count ts s ≡ s
unfolding sound_after quiet
still zero ts s h = refl
still (suc count) ts s h =
    ap (heard (after_cycles count ts)) (still count ts s (omega (arith, h)))
    ∙ heard-none (after_cycles count ts) s (before-silent (hears s) 512 count ts (omega (arith, h)))

pub quiet-is : (ts : FourTimers) (s : DirectSound)
    → min (quiet_of (timer_of 0 s) ts) (quiet_of (timer_of 1 s) ts) ≡ quiet ts s
unfolding quiet quiet_of
quiet-is ts s = sym (before-either (overflow_at (timer_of 0 s)) (overflow_at (timer_of 1 s)) 512 ts)
