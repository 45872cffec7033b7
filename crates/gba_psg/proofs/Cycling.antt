-- The cycles between two ticks, and a cycle that ticks.
use Rattle.std.proofs.Common.{◌≡◌, ℕ, zero, suc, ◌+◌, ◌-◌, ◌%◌, ◌<◌, Bool, true, false, refl, ap, sym, ◌∙◌, arith}
use Rattle.std.specs.Prelude.{nat_eq, if◌then◌else◌}
use Rattle.gba_psg.specs.declared.tone.Tone.{Tone}
use Rattle.gba_psg.specs.declared.square.Square.{Square}
use Rattle.gba_psg.specs.declared.wave.Wave.{Wave}
use Rattle.gba_psg.specs.declared.noise.Noise.{Noise}
use Rattle.gba_psg.specs.declared.four.FourTones.{FourTones}
use Rattle.gba_psg.specs.Tone.{after_wait}
use Rattle.gba_psg.specs.Square.{next_eighth, square_moved, square_period}
use Rattle.gba_psg.specs.Wave.{next_digit, wave_moved, wave_period}
use Rattle.gba_psg.specs.Noise.{is_narrow, next_noise, noise_moved, noise_period}
use Rattle.gba_psg.specs.Tones.{after_cycles, counted, cycle, moved, ticked}
use Rattle.gba_psg.specs.Running.{moves_in, noise_run, repeated, run, square_run, tone_run, wait_after, wave_run}
use Rattle.gba_psg.specs.Soundness.{AreSound}
use Rattle.gba_psg.proofs.Fields.{field-below, noise-period-positive}
use Rattle.gba_psg.proofs.Moves.{moves-none, next-move, no-move, repeated-more, repeated-none, wait-none}

-- a tone that is on has cycles to wait
abbrev Waits : Tone → Type 0
Waits t = t.on ≡ true → 0 < t.wait

abbrev Follows : (ℕ → ℕ) → ℕ → ℕ → Tone → Type 0
Follows next p n t = after_wait next p (tone_run next p n t) ≡ tone_run next p (n + 1) t

tone-on : (next : ℕ → ℕ) (p n : ℕ) (t : Tone) (due : Bool) → t.on ≡ true → nat_eq (wait_after p n t.wait - 1) 0 ≡ due
    → 0 < p → 0 < t.wait → Follows next p n t
tone-on next p n t true e due some waits =
    let step = next-move p n t.wait some waits due in
    let place = ap (λ m. repeated next m t.place) step.moves ∙ repeated-more next (moves_in p n t.wait) t.place in
    rw (e, due) (λ i. record t { on = true; place = sym place i; wait = sym step.wait i })
tone-on next p n t false e due some waits =
    let step = no-move p n t.wait some waits due in
    let place = ap (λ m. repeated next m t.place) step.moves in
    rw (e, due) (λ i. record t { on = true; place = sym place i; wait = sym step.wait i })

tone-by : (next : ℕ → ℕ) (p n : ℕ) (t : Tone) (on : Bool) → t.on ≡ on → 0 < p → Waits t → Follows next p n t
tone-by next p n t false e some waits = rw e refl
tone-by next p n t true e some waits =
    tone-on next p n t (nat_eq (wait_after p n t.wait - 1) 0) e refl some (waits e)

tone-next : (next : ℕ → ℕ) (p n : ℕ) (t : Tone) → 0 < p → Waits t → Follows next p n t
tone-next next p n t some waits = tone-by next p n t t.on refl some waits

-- before the first cycle
tone-none-by : (next : ℕ → ℕ) (p : ℕ) (t : Tone) (on : Bool) → t.on ≡ on → Waits t → tone_run next p 0 t ≡ t
tone-none-by next p t false e waits =
    rw e (λ i. record t { on = false; place = repeated-none next t.place i })
tone-none-by next p t true e waits =
    let place = ap (λ m. repeated next m t.place) (moves-none p t.wait (waits e)) ∙ repeated-none next t.place in
    rw e (λ i. record t { on = true; place = place i; wait = wait-none p t.wait (waits e) i })

tone-none : (next : ℕ → ℕ) (p : ℕ) (t : Tone) → Waits t → tone_run next p 0 t ≡ t
tone-none next p t waits = tone-none-by next p t t.on refl waits

-- the periods are positive
pub square-period-positive : (c : Square) → 0 < square_period c
square-period-positive c = (let below = field-below c.control 0 11 in omega (arith, below))

pub wave-period-positive : (c : Wave) → 0 < wave_period c
wave-period-positive c = (let below = field-below c.control 0 11 in omega (arith, below))

square-next : (n : ℕ) (c : Square) → Waits c.tone → square_moved (square_run n c) ≡ square_run (n + 1) c
square-next n c waits =
    λ i. record c { tone = tone-next next_eighth (square_period c) n c.tone (square-period-positive c) waits i }

wave-next : (n : ℕ) (c : Wave) → Waits c.tone → wave_moved (wave_run n c) ≡ wave_run (n + 1) c
wave-next n c waits =
    λ i. record c { tone = tone-next (next_digit c) (wave_period c) n c.tone (wave-period-positive c) waits i }

noise-next : (n : ℕ) (c : Noise) → Waits c.tone → noise_moved (noise_run n c) ≡ noise_run (n + 1) c
noise-next n c waits =
    λ i. record c {
      tone = tone-next (next_noise (is_narrow c)) (noise_period c) n c.tone (noise-period-positive c) waits i;
    }

-- all four
pub record AreWaiting (ts : FourTones) : Type 0 where
  pub square1 : Waits ts.square1.tone
  pub square2 : Waits ts.square2.tone
  pub wave : Waits ts.wave.tone
  pub noise : Waits ts.noise.tone

pub sound-waits : (ts : FourTones) → AreSound ts → AreWaiting ts
sound-waits ts h =
    record { square1 = h.square1.waits; square2 = h.square2.waits; wave = h.wave.waits; noise = h.noise.waits }

pub run-next : (n : ℕ) (ts : FourTones) → AreWaiting ts → moved (run n ts) ≡ run (n + 1) ts
unfolding run
run-next n ts h =
    λ i. record ts {
      square1 = square-next n ts.square1 h.square1 i;
      square2 = square-next n ts.square2 h.square2 i;
      wave = wave-next n ts.wave h.wave i;
      noise = noise-next n ts.noise h.noise i;
    }

pub run-none : (ts : FourTones) → AreWaiting ts → run 0 ts ≡ ts
unfolding run
run-none ts h =
    λ i. record ts {
      square1 =
          record ts.square1 { tone = tone-none next_eighth (square_period ts.square1) ts.square1.tone h.square1 i };
      square2 =
          record ts.square2 { tone = tone-none next_eighth (square_period ts.square2) ts.square2.tone h.square2 i };
      wave = record ts.wave { tone = tone-none (next_digit ts.wave) (wave_period ts.wave) ts.wave.tone h.wave i };
      noise = record ts.noise {
        tone = tone-none (next_noise (is_narrow ts.noise)) (noise_period ts.noise) ts.noise.tone h.noise i;
      };
    }

-- a cycle without a tick
no-second : (s : ℕ) → nat_eq (s % 0x10000) 0 ≡ false → nat_eq (s % 0x20000) 0 ≡ false
no-second s e = grind arith

no-third : (s : ℕ) → nat_eq (s % 0x10000) 0 ≡ false → nat_eq s 0 ≡ false
no-third s e = grind arith

ticked-none : (ts : FourTones) → nat_eq (ts.sequencer % 0x10000) 0 ≡ false → ticked ts ≡ ts
unfolding ticked
ticked-none ts e = rw (e, no-second ts.sequencer e, no-third ts.sequencer e) refl

-- the sequencer of tones that go on
abbrev at : ℕ → FourTones → FourTones
at s ts = record ts { sequencer = s }

counted-at : (s : ℕ) (ts : FourTones) → s % 0x10000 + 1 < 0x10000 → s < 0x40000 → counted (at s ts) ≡ at (s + 1) ts
counted-at s ts before low =
    let next : (s + 1) % 0x40000 ≡ s + 1 = grind (arith, before, low) in
    λ i. at (next i) ts

not-ticking : (s : ℕ) → s % 0x10000 + 1 < 0x10000 → nat_eq ((s + 1) % 0x10000) 0 ≡ false
not-ticking s h = grind (arith, h)

pub cycle-on : (ts : FourTones) → ts.is_on ≡ true → cycle ts ≡ moved (ticked (counted ts))
unfolding cycle
cycle-on ts on = ap (λ b. if b then moved (ticked (counted ts)) else ts) on

pub cycle-off : (ts : FourTones) → ts.is_on ≡ false → cycle ts ≡ ts
unfolding cycle
cycle-off ts off = ap (λ b. if b then moved (ticked (counted ts)) else ts) off

cycle-at : (s : ℕ) (ts : FourTones) → ts.is_on ≡ true → s % 0x10000 + 1 < 0x10000 → s < 0x40000
    → cycle (at s ts) ≡ moved (at (s + 1) ts)
cycle-at s ts on before low =
    cycle-on (at s ts) on
    ∙ ap (λ t. moved (ticked t)) (counted-at s ts before low)
    ∙ ap moved (ticked-none (at (s + 1) ts) (not-ticking s before))

-- so many of them, from tones on that have run for k cycles
pub runs-on : (n k s : ℕ) (ts : FourTones) → ts.is_on ≡ true → AreWaiting ts → s % 0x10000 + n < 0x10000 → s < 0x40000
    → after_cycles n (record (run k ts) { sequencer = s }) ≡ record (run (k + n) ts) { sequencer = s + n }
unfolding after_cycles run
runs-on zero k s ts on h before low =
    let same : k ≡ k + 0 = omega arith in
    let stays : s ≡ s + 0 = omega arith in
    λ i. record (run (same i) ts) { sequencer = stays i }
runs-on (suc n) k s ts on h before low =
    let earlier = runs-on n k s ts on h (omega (arith, before)) low in
    let below : (s + n) % 0x10000 + 1 < 0x10000 = grind (arith, before) in
    let small : s + n < 0x40000 = grind (arith, before, low) in
    let more : k + n + 1 ≡ k + suc n = omega arith in
    let later : s + n + 1 ≡ s + suc n = omega arith in
    ap cycle earlier
    ∙ cycle-at (s + n) (run (k + n) ts) on below small
    ∙ (λ i. record (run-next (k + n) ts h i) { sequencer = s + n + 1 })
    ∙ (λ i. record (run (more i) ts) { sequencer = later i })

-- from the start on, without a tick
pub passes : (n : ℕ) (ts : FourTones) → ts.is_on ≡ true → AreWaiting ts → ts.sequencer % 0x10000 + n < 0x10000
    → ts.sequencer < 0x40000
    → record (run n ts) { sequencer = (run n ts).sequencer + n } ≡ after_cycles n ts
unfolding run
passes n ts on h before low =
    let none : n ≡ 0 + n = omega arith in
    let first : record (run 0 ts) { sequencer = ts.sequencer } ≡ ts = run-none ts h in
    (λ i. record (run (none i) ts) { sequencer = ts.sequencer + n })
    ∙ sym (runs-on n 0 ts.sequencer ts on h before low)
    ∙ ap (after_cycles n) first
