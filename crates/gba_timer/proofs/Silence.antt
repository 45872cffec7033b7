-- For how many cycles the timers are quiet, by arithmetic.
use Rattle.std.proofs.Common.{◌≡◌, ℕ, zero, suc, ◌+◌, ◌-◌, ◌<◌, ◌≤◌, Bool, true, false, refl, ap, sym, ◌∙◌, add-one, arith}
use Rattle.std.specs.Prelude.{◌==◌, ◌||◌, min, nat_eq, nat_le, if◌then◌else◌}
use Rattle.std.proofs.lemmas.Bool.Decides.{nat_tests}
use Rattle.gba_terms.specs.Bits.{bit}
use Rattle.gba_timer.specs.declared.timer.Timer.{Timer}
use Rattle.gba_timer.specs.Timer.{is_cascade, is_running, overflows, timer_after}
use Rattle.gba_timer.specs.Timers.{FourTimers, after_cycles, cycle, overflow0, overflow1, overflow2, overflow3, overflow_mark, timer_at}
use Rattle.gba_timer.specs.Quiet.{QuietMarks, any_overflow, cycles_before, overflow_at, quiet_of, quiet_within}
use Rattle.gba_timer.specs.Skipping.{after_skip, follows, own_quiet, own_quiets, skipped_timer}
use Rattle.gba_timer.proofs.Before.{before-after, before-here, before-is, before-past, before-silent, neither, none-of, nor-other, that-one, this-one}
use Rattle.gba_timer.proofs.Counting.{IsQuietEach, cycle-skipped, overflows-next, overflows-skipped, own-most, quiet-each, silent-cycle, skip-is, skipped-none}

module _ (most : ℕ) where
  -- the nearest overflow comes after the quiet cycles
  comes-first : (q : ℕ) (ts : FourTimers) → own_quiet most ts.timer0 ≡ q → q < most
      → any_overflow (after_skip q ts) ≡ true
  unfolding after_skip
  comes-first q ts e small =
      let due = overflows-next most false ts.timer0 (omega (arith, e, small)) in
      let here : overflow0 (after_skip q ts) ≡ true =
      ap (λ n. overflows false (skipped_timer n ts.timer0)) (sym e) ∙ due in
      this-one (overflow0 (after_skip q ts) || overflow1 (after_skip q ts)) _
      (this-one (overflow0 (after_skip q ts)) _ here)

  comes-second : (q : ℕ) (ts : FourTimers) → own_quiet most ts.timer1 ≡ q → q < most
      → any_overflow (after_skip q ts) ≡ true
  unfolding after_skip
  comes-second q ts e small =
      let below = overflow0 (after_skip q ts) in
      let due = overflows-next most below ts.timer1 (omega (arith, e, small)) in
      let here : overflow1 (after_skip q ts) ≡ true =
      ap (λ n. overflows below (skipped_timer n ts.timer1)) (sym e) ∙ due in
      this-one (overflow0 (after_skip q ts) || overflow1 (after_skip q ts)) _
      (that-one (overflow0 (after_skip q ts)) _ here)

  comes-third : (q : ℕ) (ts : FourTimers) → own_quiet most ts.timer2 ≡ q → q < most
      → any_overflow (after_skip q ts) ≡ true
  unfolding after_skip
  comes-third q ts e small =
      let below = overflow1 (after_skip q ts) in
      let due = overflows-next most below ts.timer2 (omega (arith, e, small)) in
      let here : overflow2 (after_skip q ts) ≡ true =
      ap (λ n. overflows below (skipped_timer n ts.timer2)) (sym e) ∙ due in
      that-one (overflow0 (after_skip q ts) || overflow1 (after_skip q ts)) _
      (this-one (overflow2 (after_skip q ts)) _ here)

  comes-fourth : (q : ℕ) (ts : FourTimers) → own_quiet most ts.timer3 ≡ q → q < most
      → any_overflow (after_skip q ts) ≡ true
  unfolding after_skip
  comes-fourth q ts e small =
      let below = overflow2 (after_skip q ts) in
      let due = overflows-next most below ts.timer3 (omega (arith, e, small)) in
      let here : overflow3 (after_skip q ts) ≡ true =
      ap (λ n. overflows below (skipped_timer n ts.timer3)) (sym e) ∙ due in
      that-one (overflow0 (after_skip q ts) || overflow1 (after_skip q ts)) _
      (that-one (overflow2 (after_skip q ts)) _ here)

  at-most : (a b : ℕ) → nat_le a b ≡ true → a ≤ b
  at-most a b e = grind arith

  more-than : (a b : ℕ) → nat_le a b ≡ false → b < a
  more-than a b e = grind arith

  one-comes : (q : ℕ) (ts : FourTimers) (lower left right : Bool) → own_quiets most ts ≡ q
      → nat_le (min (own_quiet most ts.timer0) (own_quiet most ts.timer1)) (min (own_quiet most ts.timer2)
      (own_quiet most ts.timer3)) ≡ lower
      → nat_le (own_quiet most ts.timer0) (own_quiet most ts.timer1) ≡ left
      → nat_le (own_quiet most ts.timer2) (own_quiet most ts.timer3) ≡ right
      → q < most → any_overflow (after_skip q ts) ≡ true
  one-comes q ts true true right e a b c small =
      comes-first q ts (omega (arith, e, at-most _ _ a, at-most _ _ b)) small
  one-comes q ts true false right e a b c small =
      comes-second q ts (omega (arith, e, at-most _ _ a, more-than _ _ b)) small
  one-comes q ts false left true e a b c small =
      comes-third q ts (omega (arith, e, more-than _ _ a, at-most _ _ c)) small
  one-comes q ts false left false e a b c small =
      comes-fourth q ts (omega (arith, e, more-than _ _ a, more-than _ _ c)) small

  least-most : (ts : FourTimers) → own_quiets most ts ≤ most
  least-most ts = (let first = own-most most ts.timer0 in omega (arith, first))

  none-comes : (count : ℕ) (ts : FourTimers) → count < own_quiets most ts → any_overflow (after_cycles count ts) ≡ false
  none-comes count ts small =
      let silent = silent-cycle most count ts (omega (arith, small)) in
      ap any_overflow (sym (skip-is most count ts (omega (arith, small))))
      ∙ neither (overflow0 (after_skip count ts) || overflow1 (after_skip count ts)) _
      (neither (overflow0 (after_skip count ts)) _ silent.timer0 silent.timer1)
      (neither (overflow2 (after_skip count ts)) _ silent.timer2 silent.timer3)

  pub quiet-is : (ts : FourTimers) → own_quiets most ts ≡ quiet_within most ts
  unfolding quiet_within
  quiet-is ts =
      let q = own_quiets most ts in
      sym (before-is any_overflow most q ts (least-most ts) (λ k small. none-comes k ts small)
      (λ small. ap any_overflow (sym (skip-is most q ts (omega arith)))
      ∙ one-comes q ts _ _ _ refl refl refl refl small))

-- in quiet cycles no mark is set
no-marks : (a b c d : Bool) → ((a || b) || (c || d)) ≡ false
    → ((if a then 1 else 0) + (if b then 2 else 0) + (if c then 4 else 0) + (if d then 8 else 0)) ≡ 0
no-marks false false false false e = refl
no-marks true b c d e = cc
no-marks false true c d e = cc
no-marks false false true d e = cc
no-marks false false false true e = cc

no-mark : (most count : ℕ) (ts : FourTimers) → count < quiet_within most ts → overflow_mark (after_cycles count ts) ≡ 0
unfolding quiet_within overflow_mark
no-mark most count ts small =
    let t = after_cycles count ts in
    no-marks (overflow0 t) (overflow1 t) (overflow2 t) (overflow3 t) (before-silent any_overflow most count ts small)

pub fewer-quiet : (most count : ℕ) (ts : FourTimers) → count ≤ quiet_within most ts → quiet_within count ts ≡ count
unfolding quiet_within
fewer-quiet most count ts h =
    before-is any_overflow count count ts (omega arith)
    (λ k small. before-silent any_overflow most k ts (omega (arith, small, h))) (λ small. absurd (omega (arith, small)))

pub quiet-marks : QuietMarks
quiet-marks = record { none = no-mark; fewer = fewer-quiet }

-- A timer by itself: one that counts cycles, or is stopped, is what it would be without the others.
below_of : ℕ → FourTimers → Bool
below_of number ts =
    if number == 0 then false
    else if number == 1 then overflow0 ts
    else if number == 2 then overflow1 ts
    else overflow2 ts

cycle-at_by : (number : ℕ) (ts : FourTimers) (a b c : Bool) → nat_eq number 0 ≡ a → nat_eq number 1 ≡ b
    → nat_eq number 2 ≡ c
    → timer_at number (cycle ts) ≡ timer_after (below_of number ts) (timer_at number ts)
unfolding cycle below_of
cycle-at_by number ts true b c e f g = rw e refl
cycle-at_by number ts false true c e f g = rw (e, f) refl
cycle-at_by number ts false false true e f g = rw (e, f, g) refl
cycle-at_by number ts false false false e f g = rw (e, f, g) refl

cycle-at : (number : ℕ) (ts : FourTimers)
    → timer_at number (cycle ts) ≡ timer_after (below_of number ts) (timer_at number ts)
cycle-at number ts = cycle-at_by number ts (nat_eq number 0) (nat_eq number 1) (nat_eq number 2) refl refl refl

overflow-at_by : (number : ℕ) (ts : FourTimers) (a b c : Bool) → nat_eq number 0 ≡ a → nat_eq number 1 ≡ b
    → nat_eq number 2 ≡ c
    → overflow_at number ts ≡ overflows (below_of number ts) (timer_at number ts)
unfolding below_of
overflow-at_by number ts true b c e f g = rw e refl
overflow-at_by number ts false true c e f g = rw (e, f) refl
overflow-at_by number ts false false true e f g = rw (e, f, g) refl
overflow-at_by number ts false false false e f g = rw (e, f, g) refl

overflow-at : (number : ℕ) (ts : FourTimers)
    → overflow_at number ts ≡ overflows (below_of number ts) (timer_at number ts)
overflow-at number ts = overflow-at_by number ts (nat_eq number 0) (nat_eq number 1) (nat_eq number 2) refl refl refl

after-alone_by : (below : Bool) (t : Timer) (running cascade : Bool) → is_running t ≡ running → is_cascade t ≡ cascade
    → follows t ≡ false → timer_after below t ≡ timer_after false t
after-alone_by below t false cascade r k f = rw r refl
after-alone_by below t true false r k f = rw (r, k) refl
after-alone_by below t true true r k f = cc

overflows-alone_by : (below : Bool) (t : Timer) (running cascade : Bool) → is_running t ≡ running
    → is_cascade t ≡ cascade
    → follows t ≡ false → overflows below t ≡ overflows false t
overflows-alone_by below t false cascade r k f = rw r refl
overflows-alone_by below t true false r k f = rw (r, k) refl
overflows-alone_by below t true true r k f = cc

alone-at : (count number : ℕ) (ts : FourTimers) → follows (timer_at number ts) ≡ false
    → count ≤ own_quiet 512 (timer_at number ts)
    → timer_at number (after_cycles count ts) ≡ skipped_timer count (timer_at number ts)
unfolding after_cycles
alone-at zero number ts alone h = sym (skipped-none (timer_at number ts))
alone-at (suc count) number ts alone h =
    let t = timer_at number ts in
    let before = after_cycles count ts in
    cycle-at number before
    ∙ ap (timer_after (below_of number before)) (alone-at count number ts alone (omega (arith, h)))
    ∙ after-alone_by (below_of number before) (skipped_timer count t) (is_running t) (is_cascade t) refl refl alone
    ∙ cycle-skipped 512 count t (omega (arith, h))
    ∙ ap (λ n. skipped_timer n t) (add-one count)

overflow-after : (count number : ℕ) (ts : FourTimers) → follows (timer_at number ts) ≡ false
    → count ≤ own_quiet 512 (timer_at number ts)
    → overflow_at number (after_cycles count ts)
    ≡ overflows (below_of number (after_cycles count ts)) (skipped_timer count (timer_at number ts))
overflow-after count number ts alone h =
    overflow-at number (after_cycles count ts)
    ∙ ap (overflows (below_of number (after_cycles count ts))) (alone-at count number ts alone h)

pub quiet_of-is : (number : ℕ) (ts : FourTimers) → follows (timer_at number ts) ≡ false
    → own_quiet 512 (timer_at number ts) ≡ quiet_of number ts
unfolding quiet_of
quiet_of-is number ts alone =
    let t = timer_at number ts in
    sym (before-is (overflow_at number) 512 (own_quiet 512 t) ts (own-most 512 t)
    (λ k small. overflow-after k number ts alone (omega (arith, small))
    ∙ overflows-alone_by _ (skipped_timer k t) (is_running t) (is_cascade t) refl refl alone
    ∙ overflows-skipped 512 k t (omega (arith, small)))
    (λ small. overflow-after (own_quiet 512 t) number ts alone (omega arith) ∙ overflows-next 512 _ t small))

-- no timer overflows where none does
none-at : (number : ℕ) (ts : FourTimers) (a b c : Bool) → nat_eq number 0 ≡ a → nat_eq number 1 ≡ b
    → nat_eq number 2 ≡ c
    → any_overflow ts ≡ false → overflow_at number ts ≡ false
none-at number ts true b c e f g none = rw e (none-of _ (overflow1 ts) (none-of _ (overflow2 ts || overflow3 ts) none))
none-at number ts false true c e f g none =
    rw (e, f) (nor-other (overflow0 ts) _ (none-of _ (overflow2 ts || overflow3 ts) none))
none-at number ts false false true e f g none =
    rw (e, f, g) (none-of _ (overflow3 ts) (nor-other (overflow0 ts || overflow1 ts) _ none))
none-at number ts false false false e f g none =
    rw (e, f, g) (nor-other (overflow2 ts) _ (nor-other (overflow0 ts || overflow1 ts) _ none))

pub silent-at : (most number count : ℕ) (ts : FourTimers) → count < quiet_within most ts
    → overflow_at number (after_cycles count ts) ≡ false
unfolding quiet_within
silent-at most number count ts small =
    none-at number (after_cycles count ts) _ _ _ refl refl refl (before-silent any_overflow most count ts small)

-- the same for what the code has
all-within : (count : ℕ) (ts now : FourTimers) → ts ≡ now → quiet_within count now ≡ count → count ≤ own_quiets count ts
all-within count ts now same h =
    let here = quiet-is count ts in
    let there = ap (quiet_within count) same in
    omega (arith, h, here, there)

pub each-within : (count : ℕ) (ts now : FourTimers) → ts ≡ now → quiet_within count now ≡ count
    → IsQuietEach count count ts
each-within count ts now same h = quiet-each count count ts (all-within count ts now same h)

pub skip-within : (count : ℕ) (ts now after : FourTimers) → ts ≡ now → quiet_within count now ≡ count
    → after ≡ after_skip count ts → after ≡ after_cycles count now
skip-within count ts now after same h e =
    e ∙ skip-is count count ts (all-within count ts now same h) ∙ ap (after_cycles count) same

-- From overflow to overflow: the quiet cycles, and the next, in which the timer overflows or doesn't.
abbrev pub before : ℕ → ℕ → FourTimers → ℕ
before number most ts = cycles_before (overflow_at number) most ts

pub all-quiet : (most number left : ℕ) (ts : FourTimers) → left ≤ quiet_within most ts → before number left ts ≡ left
all-quiet most number left ts h =
    before-is (overflow_at number) left left ts (omega arith)
    (λ k small. silent-at most number k ts (omega (arith, small, h))) (λ small. absurd (omega (arith, small)))

quiet-part : (most number left q : ℕ) (ts : FourTimers) → q ≡ quiet_within most ts → q < left
    → before number left ts ≡ q + before number (left - q) (after_cycles q ts)
quiet-part most number left q ts e h =
    before-after (overflow_at number) left q ts (omega (arith, h))
    (λ k small. silent-at most number k ts (omega (arith, small, e)))

pub stops-here : (most number left q : ℕ) (ts mid : FourTimers) → q ≡ quiet_within most ts → q < left
    → mid ≡ after_cycles q ts → overflow_at number mid ≡ true → before number left ts ≡ q
stops-here most number left q ts mid e h m due =
    let part = quiet-part most number left q ts e h in
    let here =
    before-here (overflow_at number) (left - q) (after_cycles q ts) (omega (arith, h))
    (ap (overflow_at number) (sym m) ∙ due) in
    omega (arith, part, here)

pub goes-past : (most number left q : ℕ) (ts mid next : FourTimers) → q ≡ quiet_within most ts → q < left
    → mid ≡ after_cycles q ts → overflow_at number mid ≡ false → next ≡ cycle mid
    → before number left ts ≡ q + 1 + before number (left - q - 1) next
goes-past most number left q ts mid next e h m due n =
    let part = quiet-part most number left q ts e h in
    let past =
    before-past (overflow_at number) (left - q) (after_cycles q ts) (omega (arith, h))
    (ap (overflow_at number) (sym m) ∙ due) in
    let rest = ap (before number (left - q - 1)) (n ∙ ap cycle m) in
    omega (arith, part, past, rest)

-- a bit of a mark
weighed : Bool → Bool → Bool → Bool → ℕ
weighed a b c d = (if a then 1 else 0) + (if b then 2 else 0) + (if c then 4 else 0) + (if d then 8 else 0)

bit-0 : (a b c d : Bool) → bit (weighed a b c d) 0 ≡ a
unfolding weighed
bit-0 true b c d = grind (arith, nat_tests)
bit-0 false b c d = grind (arith, nat_tests)

bit-1 : (a b c d : Bool) → bit (weighed a b c d) 1 ≡ b
unfolding weighed
bit-1 a true c d = grind (arith, nat_tests)
bit-1 a false c d = grind (arith, nat_tests)

bit-2 : (a b c d : Bool) → bit (weighed a b c d) 2 ≡ c
unfolding weighed
bit-2 a b true d = grind (arith, nat_tests)
bit-2 a b false d = grind (arith, nat_tests)

bit-3 : (a b c d : Bool) → bit (weighed a b c d) 3 ≡ d
unfolding weighed
bit-3 a b c true = grind (arith, nat_tests)
bit-3 a b c false = grind (arith, nat_tests)

is-numeral : (number k : ℕ) → nat_eq number k ≡ true → number ≡ k
is-numeral number k e = grind arith

is-last : (number : ℕ) → number < 4 → nat_eq number 0 ≡ false → nat_eq number 1 ≡ false → nat_eq number 2 ≡ false
    → number ≡ 3
is-last number h e f g = grind arith

mark-at_by : (number : ℕ) (ts : FourTimers) (a b c : Bool) → nat_eq number 0 ≡ a → nat_eq number 1 ≡ b
    → nat_eq number 2 ≡ c
    → number < 4 → bit (overflow_mark ts) number ≡ overflow_at number ts
unfolding overflow_mark weighed
mark-at_by number ts true b c e f g h =
    rw e (ap (bit (overflow_mark ts)) (is-numeral number 0 e)
    ∙ bit-0 (overflow0 ts) (overflow1 ts) (overflow2 ts) (overflow3 ts))
mark-at_by number ts false true c e f g h =
    rw (e, f) (ap (bit (overflow_mark ts)) (is-numeral number 1 f)
    ∙ bit-1 (overflow0 ts) (overflow1 ts) (overflow2 ts) (overflow3 ts))
mark-at_by number ts false false true e f g h =
    rw (e, f, g) (ap (bit (overflow_mark ts)) (is-numeral number 2 g)
    ∙ bit-2 (overflow0 ts) (overflow1 ts) (overflow2 ts) (overflow3 ts))
mark-at_by number ts false false false e f g h =
    rw (e, f, g) (ap (bit (overflow_mark ts)) (is-last number h e f g)
    ∙ bit-3 (overflow0 ts) (overflow1 ts) (overflow2 ts) (overflow3 ts))

pub mark-at : (number : ℕ) (ts : FourTimers) → number < 4 → bit (overflow_mark ts) number ≡ overflow_at number ts
mark-at number ts h = mark-at_by number ts (nat_eq number 0) (nat_eq number 1) (nat_eq number 2) refl refl refl h
