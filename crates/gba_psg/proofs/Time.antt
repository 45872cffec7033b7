-- A square wave that was started keeps time.
use Rattle.std.proofs.Common.{◌≡◌, ℕ, zero, suc, ◌+◌, ◌-◌, ◌*◌, ◌/◌, ◌%◌, ◌^◌, ◌<◌, Bool, true, false, refl, ap, subst, sym, ◌∙◌, arith}
use Rattle.std.specs.Prelude.{nat_eq, ◌&&◌, not, bit_and, if◌then◌else◌}
use Rattle.std.proofs.lemmas.Nat.{and_mask, and_mod, and_shr, mod_below}
use Rattle.gba_terms.specs.Bits.{bit, field}
use Rattle.gba_register.specs.Rows.{row_at}
use Rattle.gba_psg.specs.declared.square.Square.{Square}
use Rattle.gba_psg.specs.declared.four.FourTones.{FourTones}
use Rattle.gba_psg.specs.Laws.{KeepsTime}
use Rattle.gba_psg.specs.Registers.{tone_set, tone_rows, tones_written}
use Rattle.gba_psg.specs.Tone.{after_envelope, after_length}
use Rattle.gba_psg.specs.Square.{after_sweep, square_controlled, square_moved, square_started, square_timed, sweep_time}
use Rattle.gba_psg.specs.Tones.{after_cycles, after_envelopes, after_lengths, after_sweeps, counted, cycle, ticked, with_lengths, with_sweeps}
use Rattle.gba_psg.proofs.Cycling.{cycle-on}
use Rattle.gba_psg.proofs.Fields.{field-below}
use Rattle.gba_psg.proofs.Moves.{mod-more, quotient-full, quotient-on, remainder-full, remainder-on, zero-divided, zero-left}
use Rattle.gba_psg.proofs.Sound.{either}

-- a channel that is on, with this control, place and wait
record IsAt (control place wait : ℕ) (c : Square) : Type 0 where
  on : c.tone.on ≡ true
  same_control : c.control ≡ control
  same_place : c.tone.place ≡ place
  same_wait : c.tone.wait ≡ wait

abbrev period : ℕ → ℕ
period control = 16 * (2048 - field control 0 11)

period-positive : (control : ℕ) → 0 < period control
period-positive control = (let below = field-below control 0 11 in omega (arith, below))

-- one cycle of its place and its wait
abbrev next_place : ℕ → ℕ → ℕ
next_place place wait = if nat_eq (wait - 1) 0 then (place + 1) % 8 else place

abbrev next_wait : ℕ → ℕ → ℕ
next_wait control wait = if nat_eq (wait - 1) 0 then period control else wait - 1

moved-at : (control place wait : ℕ) (c : Square) → IsAt control place wait c
    → IsAt control (next_place place wait) (next_wait control wait) (square_moved c)
moved-at control place wait c h = record {
  on = h.on;
  same_control = h.same_control;
  same_place = rw (h.on, h.same_place, h.same_wait) refl;
  same_wait = rw (h.on, h.same_control, h.same_wait) refl;
}

-- where it is after so many cycles
is-full : (p n : ℕ) → 0 < p → nat_eq (p - n % p - 1) 0 ≡ true → n % p + 1 ≡ p
is-full p n some e = (let below = mod_below n p some in grind (arith, e, below))

is-within : (p n : ℕ) → 0 < p → nat_eq (p - n % p - 1) 0 ≡ false → n % p + 1 < p
is-within p n some e = (let below = mod_below n p some in grind (arith, e, below))

place-by : (p n : ℕ) (due : Bool) → nat_eq (p - n % p - 1) 0 ≡ due → 0 < p
    → (if due then (n / p % 8 + 1) % 8 else n / p % 8) ≡ (n + 1) / p % 8
place-by p n true e some =
    mod-more 8 (n / p) (omega arith) ∙ ap (λ q. q % 8) (sym (quotient-full n p some (is-full p n some e)))
place-by p n false e some = ap (λ q. q % 8) (sym (quotient-on n p (is-within p n some e)))

wait-by : (p n : ℕ) (due : Bool) → nat_eq (p - n % p - 1) 0 ≡ due → 0 < p
    → (if due then p else p - n % p - 1) ≡ p - (n + 1) % p
wait-by p n true e some = (let rest = remainder-full n p some (is-full p n some e) in omega (arith, rest))
wait-by p n false e some =
    let within = is-within p n some e in
    let rest = remainder-on n p within in
    omega (arith, rest, within)

place-on : (p n : ℕ) → 0 < p → next_place (n / p % 8) (p - n % p) ≡ (n + 1) / p % 8
place-on p n some = place-by p n (nat_eq (p - n % p - 1) 0) refl some

wait-on : (control n : ℕ)
    → next_wait control (period control - n % period control) ≡ period control - (n + 1) % period control
wait-on control n =
    wait-by (period control) n (nat_eq (period control - n % period control - 1) 0) refl (period-positive control)

-- ticks leave it
stays-on : (on timed last : Bool) → on ≡ true → timed ≡ false → (on && not (timed && last)) ≡ true
stays-on true false last e u = refl
stays-on false timed last e u = cc
stays-on true true last e u = cc

length-at : (control place wait : ℕ) (c : Square) → bit control 14 ≡ false → IsAt control place wait c
    → IsAt control place wait (record c { tone = after_length (square_timed c) c.tone })
length-at control place wait c untimed h = record {
  on = stays-on c.tone.on (bit c.control 14) _ h.on (ap (λ n. bit n 14) h.same_control ∙ untimed);
  same_control = h.same_control;
  same_place = h.same_place;
  same_wait = h.same_wait;
}

envelope-at : (control place wait : ℕ) (c : Square) → IsAt control place wait c
    → IsAt control place wait (record c { tone = after_envelope c.shape c.tone })
envelope-at control place wait c h =
    record { on = h.on; same_control = h.same_control; same_place = h.same_place; same_wait = h.same_wait }

no-sweep-by : (sweep : ℕ) (c : Square) (none : Bool) → nat_eq (sweep_time sweep) 0 ≡ none → sweep_time sweep ≡ 0
    → after_sweep sweep c ≡ c
no-sweep-by sweep c true e h = rw e refl
no-sweep-by sweep c false e h = (let never = rw h at e in cc)

no-sweep : (sweep : ℕ) (c : Square) → sweep_time sweep ≡ 0 → after_sweep sweep c ≡ c
no-sweep sweep c h = no-sweep-by sweep c (nat_eq (sweep_time sweep) 0) refl h

-- what each tick keeps, what all of them keep
ticked-by : (P : FourTones → Type 0) (ts : FourTones) → P ts → ((t : FourTones) → P t → P (after_lengths t))
    → ((t : FourTones) → P t → P (after_sweeps t)) → ((t : FourTones) → P t → P (after_envelopes t)) → P (ticked ts)
unfolding ticked
ticked-by P ts h lengths sweeps envelopes =
    let first = with_lengths ts in
    let one = either P (nat_eq (ts.sequencer % 0x10000) 0) (after_lengths ts) ts (lengths ts h) h in
    let second = with_sweeps first in
    let two = either P (nat_eq (first.sequencer % 0x20000) 0) (after_sweeps first) first (sweeps first one) one in
    either P (nat_eq second.sequencer 0) (after_envelopes second) second (envelopes second two) two

-- channel 1 of tones that are on, without a sweep, and channel 2
record First (control place wait : ℕ) (ts : FourTones) : Type 0 where
  is_on : ts.is_on ≡ true
  sweep : sweep_time ts.sweep ≡ 0
  square : IsAt control place wait ts.square1

record Second (control place wait : ℕ) (ts : FourTones) : Type 0 where
  is_on : ts.is_on ≡ true
  square : IsAt control place wait ts.square2

first-ticked : (control place wait : ℕ) (ts : FourTones) → bit control 14 ≡ false → First control place wait ts
    → First control place wait (ticked ts)
first-ticked control place wait ts untimed h =
    ticked-by (First control place wait) ts h
    (λ t k. record {
      is_on = k.is_on;
      sweep = k.sweep;
      square = length-at control place wait t.square1 untimed k.square;
    })
    (λ t k. record {
      is_on = k.is_on;
      sweep = k.sweep;
      square = subst (IsAt control place wait) (sym (no-sweep t.sweep t.square1 k.sweep)) k.square;
    })
    (λ t k. record { is_on = k.is_on; sweep = k.sweep; square = envelope-at control place wait t.square1 k.square })

second-ticked : (control place wait : ℕ) (ts : FourTones) → bit control 14 ≡ false → Second control place wait ts
    → Second control place wait (ticked ts)
second-ticked control place wait ts untimed h =
    ticked-by (Second control place wait) ts h
    (λ t k. record { is_on = k.is_on; square = length-at control place wait t.square2 untimed k.square })
    (λ t k. record { is_on = k.is_on; square = k.square })
    (λ t k. record { is_on = k.is_on; square = envelope-at control place wait t.square2 k.square })

first-cycle : (control place wait : ℕ) (ts : FourTones) → bit control 14 ≡ false → First control place wait ts
    → First control (next_place place wait) (next_wait control wait) (cycle ts)
first-cycle control place wait ts untimed h =
    let begun : First control place wait (counted ts) =
    record { is_on = h.is_on; sweep = h.sweep; square = h.square } in
    let after = first-ticked control place wait (counted ts) untimed begun in
    subst (First control (next_place place wait) (next_wait control wait)) (sym (cycle-on ts h.is_on))
    (record {
      is_on = after.is_on;
      sweep = after.sweep;
      square = moved-at control place wait (ticked (counted ts)).square1 after.square;
    })

second-cycle : (control place wait : ℕ) (ts : FourTones) → bit control 14 ≡ false → Second control place wait ts
    → Second control (next_place place wait) (next_wait control wait) (cycle ts)
second-cycle control place wait ts untimed h =
    let begun : Second control place wait (counted ts) = record { is_on = h.is_on; square = h.square } in
    let after = second-ticked control place wait (counted ts) untimed begun in
    subst (Second control (next_place place wait) (next_wait control wait)) (sym (cycle-on ts h.is_on))
    (record { is_on = after.is_on; square = moved-at control place wait (ticked (counted ts)).square2 after.square })

abbrev place_at : ℕ → ℕ → ℕ
place_at control n = n / period control % 8

abbrev wait_at : ℕ → ℕ → ℕ
wait_at control n = period control - n % period control

first-after : (control n : ℕ) (ts : FourTones) → bit control 14 ≡ false → First control 0 (period control) ts
    → First control (place_at control n) (wait_at control n) (after_cycles n ts)
unfolding after_cycles
first-after control zero ts untimed h =
    let none = zero-divided (period control) (period-positive control) in
    let left = zero-left (period control) (period-positive control) in
    subst (λ x. First control x (wait_at control 0) ts) (ap (λ q. q % 8) (sym none))
    (subst (λ y. First control 0 y ts) (omega (arith, left)) h)
first-after control (suc n) ts untimed h =
    let one : n + 1 ≡ suc n = omega arith in
    let earlier = first-after control n ts untimed h in
    let next = first-cycle control (place_at control n) (wait_at control n) (after_cycles n ts) untimed earlier in
    let there = subst (λ x. First control x (next_wait control (wait_at control n)) (cycle (after_cycles n ts)))
    (place-on (period control) n (period-positive control)) next in
    let waits =
    subst (λ y. First control (place_at control (n + 1)) y (cycle (after_cycles n ts))) (wait-on control n) there in
    subst (λ k. First control (place_at control k) (wait_at control k) (cycle (after_cycles n ts))) one waits

second-after : (control n : ℕ) (ts : FourTones) → bit control 14 ≡ false → Second control 0 (period control) ts
    → Second control (place_at control n) (wait_at control n) (after_cycles n ts)
unfolding after_cycles
second-after control zero ts untimed h =
    let none = zero-divided (period control) (period-positive control) in
    let left = zero-left (period control) (period-positive control) in
    subst (λ x. Second control x (wait_at control 0) ts) (ap (λ q. q % 8) (sym none))
    (subst (λ y. Second control 0 y ts) (omega (arith, left)) h)
second-after control (suc n) ts untimed h =
    let one : n + 1 ≡ suc n = omega arith in
    let earlier = second-after control n ts untimed h in
    let next = second-cycle control (place_at control n) (wait_at control n) (after_cycles n ts) untimed earlier in
    let there = subst (λ x. Second control x (next_wait control (wait_at control n)) (cycle (after_cycles n ts)))
    (place-on (period control) n (period-positive control)) next in
    let waits =
    subst (λ y. Second control (place_at control (n + 1)) y (cycle (after_cycles n ts))) (wait-on control n) there in
    subst (λ k. Second control (place_at control k) (wait_at control k) (cycle (after_cycles n ts))) one waits

-- what a write of the control leaves that starts
abbrev masked : ℕ → ℕ
masked value = bit_and value 0x47ff

abbrev started : ℕ → ℕ → Square → Square
started sweep value c = square_started sweep (record c { control = masked value })

written-first : (ts : FourTones) (value : ℕ) → ts.is_on ≡ true → bit value 15 ≡ true
    → tones_written 0x064 value ts ≡ record ts { square1 = started ts.sweep value ts.square1 }
unfolding tones_written tone_rows row_at
written-first ts value on starts =
    ap (λ b. if b then tone_set 0x064 (masked value) (bit value 15) ts else ts) on
    ∙ (λ i. record ts { square1 = square_controlled ts.sweep (masked value) (starts i) ts.square1 })

written-second : (ts : FourTones) (value : ℕ) → ts.is_on ≡ true → bit value 15 ≡ true
    → tones_written 0x06c value ts ≡ record ts { square2 = started 0 value ts.square2 }
unfolding tones_written tone_rows row_at
written-second ts value on starts =
    ap (λ b. if b then tone_set 0x06c (masked value) (bit value 15) ts else ts) on
    ∙ (λ i. record ts { square2 = square_controlled 0 (masked value) (starts i) ts.square2 })

started-at : (sweep value : ℕ) (c : Square) → IsAt (masked value) 0 (period (masked value)) (started sweep value c)
started-at sweep value c = record { on = refl; same_control = refl; same_place = refl; same_wait = refl }

-- the mask takes nothing from frequency and timing
same-frequency : (value : ℕ) → field (masked value) 0 11 ≡ field value 0 11
same-frequency value =
    let low = and_mod value 0x47ff 11 in
    let rest = and_mask (value % 2 ^ 11) 11 in
    let below = mod_below value (2 ^ 11) (omega arith) in
    grind (arith, low, rest, below)

same-timing : (value : ℕ) → bit value 14 ≡ false → bit (masked value) 14 ≡ false
same-timing value untimed =
    let high = and_shr value 0x47ff 14 in
    let rest = and_mask (value / 2 ^ 14) 1 in
    grind (arith, high, rest, untimed)

first-keeps : (ts : FourTones) (value count : ℕ) → ts.is_on ≡ true → bit value 15 ≡ true → bit value 14 ≡ false
    → sweep_time ts.sweep ≡ 0
    → (after_cycles count (tones_written 0x064 value ts)).square1.tone.place
    ≡ count / (16 * (2048 - field value 0 11)) % 8
first-keeps ts value count on starts untimed sweep =
    let begun = record ts { square1 = started ts.sweep value ts.square1 } in
    let at : First (masked value) 0 (period (masked value)) begun =
    record { is_on = on; sweep = sweep; square = started-at ts.sweep value ts.square1 } in
    let after = first-after (masked value) count begun (same-timing value untimed) at in
    ap (λ (t : FourTones). (after_cycles count t).square1.tone.place) (written-first ts value on starts)
    ∙ after.square.same_place
    ∙ ap (λ f. count / (16 * (2048 - f)) % 8) (same-frequency value)

second-keeps : (ts : FourTones) (value count : ℕ) → ts.is_on ≡ true → bit value 15 ≡ true → bit value 14 ≡ false
    → (after_cycles count (tones_written 0x06c value ts)).square2.tone.place
    ≡ count / (16 * (2048 - field value 0 11)) % 8
second-keeps ts value count on starts untimed =
    let begun = record ts { square2 = started 0 value ts.square2 } in
    let at : Second (masked value) 0 (period (masked value)) begun =
    record { is_on = on; square = started-at 0 value ts.square2 } in
    let after = second-after (masked value) count begun (same-timing value untimed) at in
    ap (λ (t : FourTones). (after_cycles count t).square2.tone.place) (written-second ts value on starts)
    ∙ after.square.same_place
    ∙ ap (λ f. count / (16 * (2048 - f)) % 8) (same-frequency value)

pub keeps-time : KeepsTime
keeps-time = record { square1 = first-keeps; square2 = second-keeps }
