-- Cycles of which one ticks.
use Rattle.std.proofs.Common.{◌≡◌, ℕ, zero, suc, ◌+◌, ◌-◌, ◌%◌, ◌<◌, true, false, refl, ap, sym, ◌∙◌, arith, add-one}
use Rattle.std.specs.Prelude.{nat_eq}
use Rattle.gba_psg.specs.declared.four.FourTones.{FourTones}
use Rattle.gba_psg.specs.Tones.{after_cycles, after_envelopes, after_lengths, after_sweeps, counted, cycle, moved, ticked, with_lengths, with_sweeps}
use Rattle.gba_psg.specs.Running.{run}
use Rattle.gba_psg.specs.Soundness.{AreSound}
use Rattle.gba_psg.proofs.Cycling.{AreWaiting, cycle-off, cycle-on, passes, run-next, run-none, runs-on, sound-waits}
use Rattle.gba_psg.proofs.Sound.{counted-sound, either, ticked-sound}

pub cycles-none : (ts : FourTones) → after_cycles 0 ts ≡ ts
unfolding after_cycles
cycles-none ts = refl

pub cycles-more : (count : ℕ) (ts : FourTones) → after_cycles (count + 1) ts ≡ cycle (after_cycles count ts)
unfolding after_cycles
cycles-more count ts = rw add-one refl

-- cycles and more cycles
pub cycles-add : (count more : ℕ) (ts : FourTones)
    → after_cycles (count + more) ts ≡ after_cycles more (after_cycles count ts)
unfolding after_cycles
cycles-add count zero ts = (let none : count + 0 ≡ count = omega arith in ap (λ n. after_cycles n ts) none)
cycles-add count (suc more) ts =
    let next : count + suc more ≡ count + more + 1 = omega arith in
    ap (λ n. after_cycles n ts) next ∙ cycles-more (count + more) ts ∙ ap cycle (cycles-add count more ts)

-- what a tick leaves
ticked-keeps : {A : Type 0} (of : FourTones → A) (ts : FourTones) → ((t : FourTones) → of (after_lengths t) ≡ of t)
    → ((t : FourTones) → of (after_sweeps t) ≡ of t) → ((t : FourTones) → of (after_envelopes t) ≡ of t)
    → of (ticked ts) ≡ of ts
unfolding ticked
ticked-keeps of ts lengths sweeps envelopes =
    let first = with_lengths ts in
    let second = with_sweeps first in
    either (λ t. of t ≡ of second) (nat_eq second.sequencer 0) (after_envelopes second) second (envelopes second) refl
    ∙ either (λ t. of t ≡ of first) (nat_eq (first.sequencer % 0x20000) 0) (after_sweeps first) first
    (sweeps first) refl
    ∙ either (λ t. of t ≡ of ts) (nat_eq (ts.sequencer % 0x10000) 0) (after_lengths ts) ts (lengths ts) refl

pub ticked-sequencer : (ts : FourTones) → (ticked ts).sequencer ≡ ts.sequencer
ticked-sequencer ts = ticked-keeps (λ t. t.sequencer) ts (λ t. refl) (λ t. refl) (λ t. refl)

pub ticked-on : (ts : FourTones) → (ticked ts).is_on ≡ ts.is_on
ticked-on ts = ticked-keeps (λ t. t.is_on) ts (λ t. refl) (λ t. refl) (λ t. refl)

cycle-stays-on : (ts : FourTones) → ts.is_on ≡ true → (cycle ts).is_on ≡ true
cycle-stays-on ts on = ap (λ (t : FourTones). t.is_on) (cycle-on ts on) ∙ ticked-on (counted ts) ∙ on

pub cycles-stay-on : (count : ℕ) (ts : FourTones) → ts.is_on ≡ true → (after_cycles count ts).is_on ≡ true
unfolding after_cycles
cycles-stay-on zero ts on = on
cycles-stay-on (suc count) ts on = cycle-stays-on (after_cycles count ts) (cycles-stay-on count ts on)

-- a cycle that may tick, and more without a tick
first-run : (ts : FourTones) → AreWaiting ts → moved ts ≡ run 1 ts
first-run ts h = ap moved (sym (run-none ts h)) ∙ run-next 0 ts h

run-sequencer : (n : ℕ) (ts : FourTones) → record (run n ts) { sequencer = ts.sequencer } ≡ run n ts
unfolding run
run-sequencer n ts = refl

run-on-from : (more : ℕ) (ts : FourTones) → ts.is_on ≡ true → AreWaiting ts → ts.sequencer % 0x10000 + more < 0x10000
    → ts.sequencer < 0x40000
    → record (run (more + 1) ts) { sequencer = (run (more + 1) ts).sequencer + more } ≡ after_cycles more (moved ts)
unfolding run
run-on-from more ts on h before low =
    let one : more + 1 ≡ 1 + more = omega arith in
    (λ i. record (run (one i) ts) { sequencer = ts.sequencer + more })
    ∙ sym (runs-on more 1 ts.sequencer ts on h before low)
    ∙ ap (after_cycles more) (run-sequencer 1 ts ∙ sym (first-run ts h))

starts-again : (s : ℕ) → s % 0x10000 ≡ 0xffff → (s + 1) % 0x40000 % 0x10000 ≡ 0
starts-again s e = grind (arith, e)

pub passes-tick : (more : ℕ) (ts : FourTones) → ts.is_on ≡ true → AreSound ts → ts.sequencer % 0x10000 ≡ 0xffff
    → more < 1024 → record (run (more + 1) (ticked (counted ts))) {
      sequencer = (run (more + 1) (ticked (counted ts))).sequencer + more;
    }
    ≡ after_cycles (more + 1) ts
unfolding after_cycles
passes-tick more ts on h before few =
    let next = ticked (counted ts) in
    let sound = ticked-sound (counted ts) on (counted-sound ts on h) in
    let is_on = ticked-on (counted ts) ∙ on in
    let begun = ap (λ s. s % 0x10000) (ticked-sequencer (counted ts)) ∙ starts-again ts.sequencer before in
    let all : 1 + more ≡ more + 1 = omega arith in
    run-on-from more next is_on (sound-waits next sound) (omega (arith, begun, few)) sound.sequencer
    ∙ ap (after_cycles more) (sym (cycle-on ts on))
    ∙ sym (cycles-add 1 more ts)
    ∙ ap (λ n. after_cycles n ts) all

-- the sequencer before a tick
pub passed-sequencer : (n : ℕ) (ts : FourTones) → ts.is_on ≡ true → AreSound ts → ts.sequencer % 0x10000 + n < 0x10000
    → (after_cycles n ts).sequencer ≡ ts.sequencer + n
unfolding run
passed-sequencer n ts on h before =
    sym (ap (λ (t : FourTones). t.sequencer) (passes n ts on (sound-waits ts h) before h.sequencer))

pub last-before : (s : ℕ) → (s + (0xffff - s % 0x10000)) % 0x10000 ≡ 0xffff
last-before s = grind arith

pub still-cycles : (count : ℕ) (ts : FourTones) → ts.is_on ≡ false → after_cycles count ts ≡ ts
unfolding after_cycles
still-cycles zero ts off = refl
still-cycles (suc count) ts off = ap cycle (still-cycles count ts off) ∙ cycle-off ts off
