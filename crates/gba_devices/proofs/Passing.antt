use Rattle.std.proofs.Common.{◌≡◌, ℕ, zero, suc, Bool, true, false, ◌+◌, ◌-◌, ◌*◌, ◌/◌, ◌%◌, ◌<◌, ◌≤◌, ◌∙◌, ⊎_elim, refl, ap, sym, arith, add-one, add-zero, if◌then◌else◌}
use Rattle.std.specs.Prelude.{◌==◌, ◌||◌, ◌&&◌, min}
use Rattle.std.specs.Int.Bits.{or_zero_r}
use Rattle.std.proofs.Math.Nat.{le_trans, mul-div-le, mul-le-mul_left}
use Rattle.std.proofs.lemmas.Bool.{cases_lt, or_parts}
use Rattle.std.proofs.lemmas.Bool.Decides.{nat_tests}
use Rattle.gba_ppu_reg.specs.Position.{after_cycles as place_after, begins_hblank, begins_line, cycle as place_cycle}
use Rattle.gba_ppu_reg.specs.Quiet.{QuietPlaces, quiet_within as quiet_place}
use Rattle.gba_ppu_reg.specs.declared.position.Position.{Position}
use Rattle.gba_psg.specs.Tones.{after_cycles as tones_after, cycle as tones_cycle}
use Rattle.gba_psg.specs.declared.four.FourTones.{FourTones}
use Rattle.gba_timer.specs.Quiet.{QuietMarks, quiet_within as quiet_timers}
use Rattle.gba_timer.specs.Timers.{FourTimers, after_cycles as timers_after, cycle as timer_cycle}
use Rattle.gba_devices.specs.Cycles.{CyclePasses, CyclesPass, SkipsCycles, after_cycles, at_hblank, at_line, at_place, device_cycle, draws_at, draws_line, draws_within, farthest, is_seen, makes_pair, makes_within, pairless, placed, quiet, rung, skipped, sounded, with_timer_requests}
use Rattle.gba_devices.specs.State.{Devices, is_idle}

-- Cycles one after another, and cycles at once.

pub after-none : (d : Devices) → after_cycles 0 d ≡ d
unfolding after_cycles
after-none d = refl

pub after-sum : (count more : ℕ) (d : Devices) → after_cycles count (after_cycles more d)
    ≡ after_cycles (count + more) d
unfolding after_cycles
after-sum zero more d = ap (λ n. after_cycles n d) (omega arith)
after-sum (suc count) more d =
    let sum : suc (count + more) ≡ suc count + more = omega arith in
    ap device_cycle (after-sum count more d) ∙ ap (λ n. after_cycles n d) sum

-- what begins at a place leaves these
record Keeps (d after : Devices) : Type 0 where
  clock : after.clock ≡ d.clock
  place : after.place ≡ d.place
  waits : after.waits ≡ d.waits
  priced : after.priced ≡ d.priced

either-keeps : (test : Bool) (d one other : Devices) → Keeps d one → Keeps d other
    → Keeps d (if test then one else other)
either-keeps true d one other here there = here
either-keeps false d one other here there = there

hblank-keeps : (d : Devices) → Keeps d (at_hblank d)
unfolding at_hblank
hblank-keeps d = record { clock = refl; place = refl; waits = refl; priced = refl }

line-keeps : (d : Devices) → Keeps d (at_line d)
unfolding at_line
line-keeps d = record { clock = refl; place = refl; waits = refl; priced = refl }

place-keeps : (d : Devices) → Keeps d (at_place d)
unfolding at_place
place-keeps d =
    either-keeps (begins_hblank d.place) d (at_hblank d) (if begins_line d.place then at_line d else d) (hblank-keeps d)
    (either-keeps (begins_line d.place) d (at_line d) d (line-keeps d)
    (record { clock = refl; place = refl; waits = refl; priced = refl }))

pub cycle-keeps : (d : Devices) → CyclePasses d
unfolding device_cycle sounded rung
cycle-keeps d =
    let kept = place-keeps (placed (sounded d)) in
    record { clock = kept.clock; place = kept.place; waits = kept.waits; priced = kept.priced }

pub cycles-pass : (count : ℕ) (d : Devices) → CyclesPass count d
unfolding after_cycles
cycles-pass zero d = record { clock = omega arith; waits = refl; priced = refl }
cycles-pass (suc count) d =
    let before = cycles-pass count d in
    let last = cycle-keeps (after_cycles count d) in
    record {
      clock = omega (arith, last.clock, before.clock);
      waits = last.waits ∙ before.waits;
      priced = last.priced ∙ before.priced;
    }

-- whole steps that there is room for
pub whole_steps : (cycles count most room : ℕ) → count ≡ min (room / cycles) most → cycles * count ≤ room
whole_steps cycles count most room e =
    let few : count ≤ room / cycles = omega (arith, e) in
    le_trans (mul-le-mul_left cycles few) (mul-div-le room cycles)

-- no pair is made in the cycles before one
pair-later : (clock count : ℕ) → count + 1 ≤ 511 - clock % 512 → ((clock + count + 1) % 512 == 0) ≡ false
pair-later clock count within = grind (arith, nat_tests)

no-pair : (count more : ℕ) (d : Devices) → count + 1 ≤ pairless (skipped more d)
    → makes_pair (skipped (more + count) d) ≡ false
no-pair count more d within =
    let sum : d.clock + (more + count) + 1 ≡ d.clock + more + count + 1 = omega arith in
    ap (λ n. n % 512 == 0) sum ∙ pair-later (d.clock + more) count within

neither : (one other : Bool) → one ≡ false → other ≡ false → (one || other) ≡ false
neither false false here there = refl
neither true other here there = cc
neither false true here there = cc

not-there : (one other : Bool) → one ≡ false → (one && other) ≡ false
not-there false other none = refl
not-there true other none = cc

-- nothing begins at other dots
nothing-begins : (d : Devices) → begins_hblank d.place ≡ false → begins_line d.place ≡ false → at_place d ≡ d
unfolding at_place
nothing-begins d no_hblank no_line = rw (no_hblank, no_line) refl

timers-next : (count : ℕ) (ts : FourTimers) → timer_cycle (timers_after count ts) ≡ timers_after (count + 1) ts
unfolding timers_after
timers-next count ts = ap (λ n. timers_after n ts) (sym (add-one count))

place-next : (count : ℕ) (p : Position) → place_cycle (place_after count p) ≡ place_after (count + 1) p
unfolding place_after
place-next count p = ap (λ n. place_after n p) (sym (add-one count))

tones-next : (count : ℕ) (ts : FourTones) → tones_cycle (tones_after count ts) ≡ tones_after (count + 1) ts
unfolding tones_after
tones-next count ts = ap (λ n. tones_after n ts) (sym (add-one count))

skip-none : (d : Devices) → skipped 0 d ≡ d
unfolding timers_after place_after tones_after
skip-none d = rw add-zero refl

-- timers of which none overflows request nothing
pub none_requested : (mark : ℕ) (d : Devices) → mark ≡ 0 → d ≡ with_timer_requests mark d
none_requested mark d e =
    rw e (sym (ap (λ (n : ℕ). record d { interrupts = record d.interrupts { raised = n } })
    (or_zero_r d.interrupts.raised)))

module _ (timers : QuietMarks) (places : QuietPlaces) where
  sounded-skipped : (count : ℕ) (d : Devices) → count + 1 ≤ quiet_timers farthest d.timers
      → count + 1 ≤ quiet_place farthest d.place
      → placed (sounded (skipped count d)) ≡ skipped (count + 1) d
  unfolding sounded rung
  sounded-skipped count d least near =
      let sum : d.clock + count + 1 ≡ d.clock + (count + 1) = omega arith in
      rw (
        timers.none farthest count d.timers (omega (arith, least)),
        timers-next count d.timers,
        tones-next count d.tones,
        place-next count d.place,
        sum,
        or_zero_r d.interrupts.raised,
      ) refl

  cycle-skipped : (count : ℕ) (d : Devices) → count + 1 ≤ quiet d
      → device_cycle (skipped count d) ≡ skipped (count + 1) d
  unfolding device_cycle quiet
  cycle-skipped count d within =
      let least : count + 1 ≤ quiet_timers farthest d.timers = omega (arith, within) in
      let near : count + 1 ≤ quiet_place farthest d.place = omega (arith, within) in
      ap at_place (sounded-skipped count d least near)
      ∙ nothing-begins (skipped (count + 1) d) (places.no_hblank farthest count d.place (omega (arith, near)))
      (places.no_line farthest count d.place (omega (arith, near)))

  skips-all : (count more : ℕ) (d : Devices) → more + count ≤ quiet d
      → after_cycles count (skipped more d) ≡ skipped (more + count) d
  unfolding after_cycles
  skips-all zero more d within = ap (λ n. skipped n d) (omega arith)
  skips-all (suc count) more d within =
      let sum : more + count + 1 ≡ more + suc count = omega arith in
      ap device_cycle (skips-all count more d (omega (arith, within)))
      ∙ cycle-skipped (more + count) d (omega (arith, within))
      ∙ ap (λ n. skipped n d) sum

  draws-none : (count : ℕ) (d : Devices) → count + 1 ≤ quiet d → draws_line (skipped count d) ≡ false
  unfolding quiet
  draws-none count d within =
      let near : count + 1 ≤ quiet_place farthest d.place = omega (arith, within) in
      ap draws_at (place-next count d.place)
      ∙ not-there (begins_hblank (place_after (count + 1) d.place)) (is_seen (place_after (count + 1) d.place))
      (places.no_hblank farthest count d.place (omega (arith, near)))

  makes-none : (count more : ℕ) (d : Devices) → more + count ≤ quiet d → count ≤ pairless (skipped more d)
      → makes_within count (skipped more d) ≡ false
  unfolding makes_within
  makes-none zero more d within before = refl
  makes-none (suc count) more d within before =
      let last = after_cycles count (skipped more d) in
      let quietly = skips-all count more d (omega (arith, within)) in
      neither (makes_within count (skipped more d)) (makes_pair last || draws_line last)
      (makes-none count more d (omega (arith, within)) (omega (arith, before)))
      (neither (makes_pair last) (draws_line last)
      (ap makes_pair quietly ∙ no-pair count more d (omega (arith, before)))
      (ap draws_line quietly ∙ draws-none (more + count) d (omega (arith, within))))

  draws-nothing : (count more : ℕ) (d : Devices) → more + count ≤ quiet d → draws_within count (skipped more d) ≡ false
  unfolding draws_within
  draws-nothing zero more d within = refl
  draws-nothing (suc count) more d within =
      neither (draws_within count (skipped more d)) (draws_line (after_cycles count (skipped more d)))
      (draws-nothing count more d (omega (arith, within)))
      (ap draws_line (skips-all count more d (omega (arith, within)))
      ∙ draws-none (more + count) d (omega (arith, within)))

  timers-still : (count : ℕ) (d : Devices) → count ≤ quiet d → quiet_timers count d.timers ≡ count
  unfolding quiet
  timers-still count d within = timers.fewer farthest count d.timers (omega (arith, within))

  place-still : (count : ℕ) (d : Devices) → count ≤ quiet d → quiet_place count d.place ≡ count
  unfolding quiet
  place-still count d within = places.fewer farthest count d.place (omega (arith, within))

  pub skips : SkipsCycles
  skips = record {
    timers = timers-still;
    places = place-still;
    none = skip-none;
    pass = skips-all;
    next = cycle-skipped;
    no_line = draws-none;
    silent = makes-none;
    lineless = draws-nothing;
  }

-- steps one after another
pub draws-sum : (count more : ℕ) (d : Devices) → draws_within more d ≡ false
    → draws_within count (after_cycles more d) ≡ false
    → draws_within (count + more) d ≡ false
unfolding draws_within
draws-sum zero more d before after = let sum : 0 + more ≡ more = omega arith in ap (λ n. draws_within n d) sum ∙ before
draws-sum (suc count) more d before after =
    let sum : suc count + more ≡ suc (count + more) = omega arith in
    let here = after_cycles count (after_cycles more d) in
    let parts = or_parts (draws_within count (after_cycles more d)) (draws_line here) after in
    ap (λ n. draws_within n d) sum
    ∙ neither (draws_within (count + more) d) (draws_line (after_cycles (count + more) d))
    (draws-sum count more d before parts.0)
    (ap draws_line (sym (after-sum count more d)) ∙ parts.1)

-- so many steps after so many others
pub steps_after : (cycles first more : ℕ) (d middle after : Devices) → middle ≡ after_cycles (cycles * first) d
    → after ≡ after_cycles (cycles * more) middle → after ≡ after_cycles (cycles * (first + more)) d
steps_after cycles first more d middle after e f =
    let sum : cycles * more + cycles * first ≡ cycles * (first + more) = omega arith in
    f ∙ ap (after_cycles (cycles * more)) e ∙ after-sum (cycles * more) (cycles * first) d
    ∙ ap (λ n. after_cycles n d) sum

pub steps_lineless : (cycles first more : ℕ) (d middle : Devices) → middle ≡ after_cycles (cycles * first) d
    → draws_within (cycles * first) d ≡ false → draws_within (cycles * more) middle ≡ false
    → draws_within (cycles * (first + more)) d ≡ false
steps_lineless cycles first more d middle e before after =
    let sum : cycles * (first + more) ≡ cycles * more + cycles * first = omega arith in
    ap (λ n. draws_within n d) sum
    ∙ draws-sum (cycles * more) (cycles * first) d before (ap (draws_within (cycles * more)) (sym e) ∙ after)

pub steps_idle : (cycles first more : ℕ) (d middle : Devices) → middle ≡ after_cycles (cycles * first) d
    → ((steps : ℕ) → steps ≤ first → is_idle (after_cycles (cycles * steps) d) ≡ is_idle d)
    → ((steps : ℕ) → steps ≤ more → is_idle (after_cycles (cycles * steps) middle) ≡ is_idle middle)
    → (steps : ℕ) → steps ≤ first + more → is_idle (after_cycles (cycles * steps) d) ≡ is_idle d
steps_idle cycles first more d middle e before after steps within =
    ⊎_elim
    (λ (late : first < steps).
    let rest : steps - first ≤ more = omega (arith, within) in
    let sum : first + (steps - first) ≡ steps = omega (arith, late) in
    let there : is_idle middle ≡ is_idle d = ap is_idle e ∙ before first (omega arith) in
    ap (λ n. is_idle (after_cycles (cycles * n) d)) (sym sum)
    ∙ ap is_idle (sym
    (steps_after cycles first (steps - first) d middle (after_cycles (cycles * (steps - first)) middle) e refl))
    ∙ after (steps - first) rest
    ∙ there)
    (λ (early : steps ≤ first). before steps early)
    (cases_lt first steps)

pub steps_few : (cycles first more rest most : ℕ) → cycles * first ≤ 1024
    → rest ≡ min ((1024 - cycles * first) / cycles) most
    → more ≤ rest → cycles * (first + more) ≤ 1024
steps_few cycles first more rest most few e within =
    let whole = whole_steps cycles rest most (1024 - cycles * first) e in
    let less = mul-le-mul_left cycles within in
    omega (arith, few, whole, less)
