-- A timer that is skipped is stepped.
use Rattle.std.proofs.Common.{◌≡◌, ℕ, zero, suc, ◌+◌, ◌-◌, ◌*◌, ◌/◌, ◌%◌, ◌<◌, ◌≤◌, Bool, true, false, List, slice_set, refl, ap, sym, ◌∙◌, add-one, arith}
use Rattle.std.specs.Prelude.{◌==◌, ◌&&◌, min, nat_eq, nat_le, if◌then◌else◌}
use Rattle.gba_terms.specs.Bits.{field}
use Rattle.gba_timer.specs.declared.timer.Timer.{Timer}
use Rattle.gba_timer.specs.Timer.{has_phase, is_cascade, is_running, overflows, prescaler, prescaler_of, timer_after}
use Rattle.gba_timer.specs.Timers.{FourTimers, after_cycles, cycle, overflow0, overflow1, overflow2, overflow3, overflow_mark, with_marks}
use Rattle.gba_timer.specs.Skipping.{after_skip, own_quiet, own_quiets, skipped_timer}

-- the four prescalers
data Prescaler : ℕ → Type 0 where
  P1 : Prescaler 1
  P64 : Prescaler 64
  P256 : Prescaler 256
  P1024 : Prescaler 1024

by_choice : (choice : ℕ) (first second third : Bool) → nat_eq choice 0 ≡ first → nat_eq choice 1 ≡ second
    → nat_eq choice 2 ≡ third → Prescaler (prescaler_of choice)
by_choice choice true second third a b c = rw a P1
by_choice choice false true third a b c = rw (a, b) P64
by_choice choice false false true a b c = rw (a, b, c) P256
by_choice choice false false false a b c = rw (a, b, c) P1024

is_prescaler : (choice : ℕ) → Prescaler (prescaler_of choice)
is_prescaler choice = by_choice choice (nat_eq choice 0) (nat_eq choice 1) (nat_eq choice 2) refl refl refl

-- the counter and the phase of a counting timer after so many skipped cycles
abbrev count_at : ℕ → ℕ → ℕ → ℕ → ℕ
count_at p counter phase count = if count == 0 then counter else counter + (min phase (p - 1) + count) / p

abbrev phase_at : ℕ → ℕ → ℕ → ℕ
phase_at p phase count = if count == 0 then phase else (min phase (p - 1) + count) % p

-- the cycles before the overflow of a counting timer
abbrev left_of : ℕ → ℕ → ℕ → ℕ
left_of p counter phase = (0xffff - counter) * p + (p - min phase (p - 1) - 1)

-- and a cycle later
abbrev NextCount : ℕ → ℕ → ℕ → ℕ → ℕ → Type 0
NextCount p counter reload phase count =
    (if nat_le p (phase_at p phase count + 1)
    then (if count_at p counter phase count == 0xffff then reload else count_at p counter phase count + 1)
    else count_at p counter phase count)
    ≡ counter + (min phase (p - 1) + (count + 1)) / p

count-next : (p : ℕ) → Prescaler p → (counter reload phase count : ℕ) → count + 1 ≤ left_of p counter phase
    → NextCount p counter reload phase count
count-next _ P1 counter reload phase count h = grind arith
count-next _ P64 counter reload phase count h = grind arith
count-next _ P256 counter reload phase count h = grind arith
count-next _ P1024 counter reload phase count h = grind arith

-- a counter above FFFFh, which no timer has, never overflows
count-beyond : (p : ℕ) → Prescaler p → (counter reload phase count : ℕ) → 0x10000 ≤ counter
    → NextCount p counter reload phase count
count-beyond _ P1 counter reload phase count h = grind arith
count-beyond _ P64 counter reload phase count h = grind arith
count-beyond _ P256 counter reload phase count h = grind arith
count-beyond _ P1024 counter reload phase count h = grind arith

phase-next : (p : ℕ) → Prescaler p → (phase count : ℕ)
    → (if nat_le p (phase_at p phase count + 1) then 0 else phase_at p phase count + 1)
    ≡ (min phase (p - 1) + (count + 1)) % p
phase-next _ P1 phase count = grind arith
phase-next _ P64 phase count = grind arith
phase-next _ P256 phase count = grind arith
phase-next _ P1024 phase count = grind arith

-- whether it overflows in the next cycle
abbrev ends_at : ℕ → ℕ → ℕ → ℕ → Bool
ends_at p counter phase count = nat_le p (phase_at p phase count + 1) && (count_at p counter phase count == 0xffff)

no-overflow : (p : ℕ) → Prescaler p → (counter phase count : ℕ) → count + 1 ≤ left_of p counter phase
    → ends_at p counter phase count ≡ false
no-overflow _ P1 counter phase count h = grind arith
no-overflow _ P64 counter phase count h = grind arith
no-overflow _ P256 counter phase count h = grind arith
no-overflow _ P1024 counter phase count h = grind arith

no-overflow-beyond : (p : ℕ) → Prescaler p → (counter phase count : ℕ) → 0x10000 ≤ counter
    → ends_at p counter phase count ≡ false
no-overflow-beyond _ P1 counter phase count h = grind arith
no-overflow-beyond _ P64 counter phase count h = grind arith
no-overflow-beyond _ P256 counter phase count h = grind arith
no-overflow-beyond _ P1024 counter phase count h = grind arith

an-overflow : (p : ℕ) → Prescaler p → (counter phase count : ℕ) → counter ≤ 0xffff → count ≡ left_of p counter phase
    → ends_at p counter phase count ≡ true
an-overflow _ P1 counter phase count h e = grind arith
an-overflow _ P64 counter phase count h e = grind arith
an-overflow _ P256 counter phase count h e = grind arith
an-overflow _ P1024 counter phase count h e = grind arith

apart : (count : ℕ) → nat_eq (count + 1) 0 ≡ false
apart count = grind arith

above : (counter : ℕ) → nat_le counter 0xffff ≡ false → 0x10000 ≤ counter
above counter e = grind arith

below_is : (counter : ℕ) → nat_le counter 0xffff ≡ true → counter ≤ 0xffff
below_is counter e = grind arith

module _ (most : ℕ) where
  -- a timer that counts cycles, after so many that it is quiet
  next-count : (count : ℕ) (t : Timer) (low : Bool) → is_running t ≡ true → is_cascade t ≡ false
      → nat_le t.counter 0xffff ≡ low → count + 1 ≤ own_quiet most t
      → NextCount (prescaler t) t.counter t.reload t.phase count
  next-count count t true r k l h =
      let within = rw (r, k, l) at h in
      count-next (prescaler t) (is_prescaler (field t.control 0 2)) t.counter t.reload t.phase count
      (omega (arith, within))
  next-count count t false r k l h =
      count-beyond (prescaler t) (is_prescaler (field t.control 0 2)) t.counter t.reload t.phase count
      (above t.counter l)

  next-end : (count : ℕ) (t : Timer) (low : Bool) → is_running t ≡ true → is_cascade t ≡ false
      → nat_le t.counter 0xffff ≡ low → count + 1 ≤ own_quiet most t
      → ends_at (prescaler t) t.counter t.phase count ≡ false
  next-end count t true r k l h =
      let within = rw (r, k, l) at h in
      no-overflow (prescaler t) (is_prescaler (field t.control 0 2)) t.counter t.phase count (omega (arith, within))
  next-end count t false r k l h =
      no-overflow-beyond (prescaler t) (is_prescaler (field t.control 0 2)) t.counter t.phase count (above t.counter l)

  cycle-skipped_by : (count : ℕ) (t : Timer) (running cascade : Bool) → is_running t ≡ running → is_cascade t ≡ cascade
      → count + 1 ≤ own_quiet most t → timer_after false (skipped_timer count t) ≡ skipped_timer (count + 1) t
  cycle-skipped_by count t false cascade r k h = rw r refl
  cycle-skipped_by count t true true r k h = rw (r, k) refl
  cycle-skipped_by count t true false r k h =
      let p = prescaler t in
      let pre = is_prescaler (field t.control 0 2) in
      let counter = next-count count t (nat_le t.counter 0xffff) r k refl h in
      let phase = phase-next p pre t.phase count in
      rw (r, k, apart count) (λ i. record t { counter = counter i; phase = phase i })

  pub cycle-skipped : (count : ℕ) (t : Timer) → count + 1 ≤ own_quiet most t
      → timer_after false (skipped_timer count t) ≡ skipped_timer (count + 1) t
  cycle-skipped count t h = cycle-skipped_by count t (is_running t) (is_cascade t) refl refl h

  overflows-skipped_by : (count : ℕ) (t : Timer) (running cascade : Bool) → is_running t ≡ running
      → is_cascade t ≡ cascade → count + 1 ≤ own_quiet most t → overflows false (skipped_timer count t) ≡ false
  overflows-skipped_by count t false cascade r k h = rw r refl
  overflows-skipped_by count t true true r k h = rw (r, k) refl
  overflows-skipped_by count t true false r k h = rw (r, k) (next-end count t (nat_le t.counter 0xffff) r k refl h)

  pub overflows-skipped : (count : ℕ) (t : Timer) → count + 1 ≤ own_quiet most t
      → overflows false (skipped_timer count t) ≡ false
  overflows-skipped count t h = overflows-skipped_by count t (is_running t) (is_cascade t) refl refl h

  -- where it is quiet for fewer cycles than are looked at, it overflows in the next, whatever the timer below does
  few : (n : ℕ) → n ≡ most → n < most → ⊥
  few n e h = omega (arith, e, h)

  overflows-next_by : (below : Bool) (t : Timer) (running cascade low : Bool) → is_running t ≡ running
      → is_cascade t ≡ cascade → nat_le t.counter 0xffff ≡ low → own_quiet most t < most
      → overflows below (skipped_timer (own_quiet most t) t) ≡ true
  overflows-next_by below t false cascade low r k l h = absurd (few (own_quiet most t) (rw r refl) h)
  overflows-next_by below t true true low r k l h = absurd (few (own_quiet most t) (rw (r, k) refl) h)
  overflows-next_by below t true false false r k l h = absurd (few (own_quiet most t) (rw (r, k, l) refl) h)
  overflows-next_by below t true false true r k l h =
      let p = prescaler t in
      let whole : own_quiet most t ≡ min (left_of p t.counter t.phase) most = rw (r, k, l) refl in
      let count : own_quiet most t ≡ left_of p t.counter t.phase = omega (arith, whole, h) in
      let ends =
      an-overflow p (is_prescaler (field t.control 0 2)) t.counter t.phase (own_quiet most t) (below_is t.counter l)
      count in
      let counts : overflows below (skipped_timer (own_quiet most t) t)
      ≡ ends_at p t.counter t.phase (own_quiet most t) = rw (r, k) refl in
      counts ∙ ends

  pub overflows-next : (below : Bool) (t : Timer) → own_quiet most t < most
      → overflows below (skipped_timer (own_quiet most t) t) ≡ true
  overflows-next below t h =
      overflows-next_by below t (is_running t) (is_cascade t) (nat_le t.counter 0xffff) refl refl refl h

  pub own-most : (t : Timer) → own_quiet most t ≤ most
  own-most t = grind arith

skipped-none_by : (t : Timer) (moves : Bool) → has_phase t ≡ moves → skipped_timer 0 t ≡ t
skipped-none_by t true m = rw m refl
skipped-none_by t false m = rw m refl

pub skipped-none : (t : Timer) → skipped_timer 0 t ≡ t
skipped-none t = skipped-none_by t (has_phase t) refl

none-skipped : (ts : FourTimers) → after_skip 0 ts ≡ ts
unfolding after_skip
none-skipped ts =
    let a = skipped-none ts.timer0 in
    let b = skipped-none ts.timer1 in
    let c = skipped-none ts.timer2 in
    let d = skipped-none ts.timer3 in
    λ i. record { timer0 = a i; timer1 = b i; timer2 = c i; timer3 = d i }

module _ (most : ℕ) where
  -- each timer is quiet where all are
  pub record IsQuietEach (count : ℕ) (ts : FourTimers) : Type 0 where
    pub timer0 : count ≤ own_quiet most ts.timer0
    pub timer1 : count ≤ own_quiet most ts.timer1
    pub timer2 : count ≤ own_quiet most ts.timer2
    pub timer3 : count ≤ own_quiet most ts.timer3

  pub quiet-each : (count : ℕ) (ts : FourTimers) → count ≤ own_quiets most ts → IsQuietEach count ts
  quiet-each count ts h =
      let a = own_quiet most ts.timer0 in
      let b = own_quiet most ts.timer1 in
      let c = own_quiet most ts.timer2 in
      let d = own_quiet most ts.timer3 in
      record {
        timer0 = first count a b c d h;
        timer1 = second count a b c d h;
        timer2 = third count a b c d h;
        timer3 = fourth count a b c d h;
      } where
        first : (n a b c d : ℕ) → n ≤ min (min a b) (min c d) → n ≤ a
        first n a b c d h = omega arith

        second : (n a b c d : ℕ) → n ≤ min (min a b) (min c d) → n ≤ b
        second n a b c d h = omega arith

        third : (n a b c d : ℕ) → n ≤ min (min a b) (min c d) → n ≤ c
        third n a b c d h = omega arith

        fourth : (n a b c d : ℕ) → n ≤ min (min a b) (min c d) → n ≤ d
        fourth n a b c d h = omega arith

  -- in a quiet cycle no timer overflows
  pub record IsSilent (count : ℕ) (ts : FourTimers) : Type 0 where
    pub timer0 : overflow0 (after_skip count ts) ≡ false
    pub timer1 : overflow1 (after_skip count ts) ≡ false
    pub timer2 : overflow2 (after_skip count ts) ≡ false
    pub timer3 : overflow3 (after_skip count ts) ≡ false

  pub silent-cycle : (count : ℕ) (ts : FourTimers) → count + 1 ≤ own_quiets most ts → IsSilent count ts
  unfolding after_skip
  silent-cycle count ts h =
      let each = quiet-each (count + 1) ts h in
      let a = overflows-skipped most count ts.timer0 each.timer0 in
      let b = ap (λ below. overflows below (skipped_timer count ts.timer1)) a
      ∙ overflows-skipped most count ts.timer1 each.timer1 in
      let c = ap (λ below. overflows below (skipped_timer count ts.timer2)) b
      ∙ overflows-skipped most count ts.timer2 each.timer2 in
      let d = ap (λ below. overflows below (skipped_timer count ts.timer3)) c
      ∙ overflows-skipped most count ts.timer3 each.timer3 in
      record { timer0 = a; timer1 = b; timer2 = c; timer3 = d }

  next-skipped : (count : ℕ) (ts : FourTimers) → count + 1 ≤ own_quiets most ts
      → cycle (after_skip count ts) ≡ after_skip (count + 1) ts
  unfolding after_skip cycle
  next-skipped count ts h =
      let each = quiet-each (count + 1) ts h in
      let silent = silent-cycle count ts h in
      let a = cycle-skipped most count ts.timer0 each.timer0 in
      let b = ap (λ below. timer_after below (skipped_timer count ts.timer1)) silent.timer0
      ∙ cycle-skipped most count ts.timer1 each.timer1 in
      let c = ap (λ below. timer_after below (skipped_timer count ts.timer2)) silent.timer1
      ∙ cycle-skipped most count ts.timer2 each.timer2 in
      let d = ap (λ below. timer_after below (skipped_timer count ts.timer3)) silent.timer2
      ∙ cycle-skipped most count ts.timer3 each.timer3 in
      λ i. record { timer0 = a i; timer1 = b i; timer2 = c i; timer3 = d i }

  -- so a skip is so many cycles
  pub skip-is : (count : ℕ) (ts : FourTimers) → count ≤ own_quiets most ts → after_skip count ts ≡ after_cycles count ts
  unfolding after_cycles
  skip-is zero ts h = none-skipped ts
  skip-is (suc count) ts h =
      ap (λ n. after_skip n ts) (sym (add-one count))
      ∙ sym (next-skipped count ts (omega (arith, h)))
      ∙ ap cycle (skip-is count ts (omega (arith, h)))

-- one cycle more
pub after_cycles-more : (n : ℕ) (ts : FourTimers) → after_cycles (n + 1) ts ≡ cycle (after_cycles n ts)
unfolding after_cycles
after_cycles-more n ts = rw add-one refl

pub with_marks-more : (n : ℕ) (ts : FourTimers) (marks : List ℕ)
    → with_marks (n + 1) ts marks ≡ slice_set (with_marks n ts marks) n (overflow_mark (after_cycles n ts))
unfolding with_marks
with_marks-more n ts marks = rw add-one refl

pub after_cycles-none : (ts : FourTimers) → after_cycles 0 ts ≡ ts
unfolding after_cycles
after_cycles-none ts = refl

pub with_marks-none : (ts : FourTimers) (marks : List ℕ) → with_marks 0 ts marks ≡ marks
unfolding with_marks
with_marks-none ts marks = refl
