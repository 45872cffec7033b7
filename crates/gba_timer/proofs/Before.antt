-- The cycles before an event.
use Rattle.std.proofs.Common.{◌≡◌, ℕ, zero, suc, ◌+◌, ◌-◌, ◌<◌, ◌≤◌, Bool, true, false, refl, ap, sym, ◌∙◌, arith}
use Rattle.std.specs.Prelude.{◌||◌, min, nat_le}
use Rattle.gba_register.proofs.Before as steps
use Rattle.gba_timer.specs.Timers.{FourTimers, after_cycles, cycle}
use Rattle.gba_timer.specs.Quiet.{CountsBefore, cycles_before}

after_cycles-inside : (count : ℕ) (ts : FourTimers) → after_cycles count (cycle ts) ≡ cycle (after_cycles count ts)
unfolding after_cycles
after_cycles-inside zero ts = refl
after_cycles-inside (suc count) ts = ap cycle (after_cycles-inside count ts)

is_after : steps.IsAfter FourTimers cycle after_cycles
unfolding after_cycles
is_after = record { none = λ ts. refl; more = λ count ts. sym (after_cycles-inside count ts) }

-- so many cycles without the event, and then one with it or the last
pub before-is : (event : FourTimers → Bool) (most count : ℕ) (ts : FourTimers) → count ≤ most
    → ((k : ℕ) → k < count → event (after_cycles k ts) ≡ false)
    → (count < most → event (after_cycles count ts) ≡ true)
    → cycles_before event most ts ≡ count
before-is event most count ts within silent next =
    steps.before-is cycle after_cycles is_after event most count ts within silent next

before-now : (event : FourTimers → Bool) (most : ℕ) (ts : FourTimers) → event ts ≡ true
    → cycles_before event (suc most) ts ≡ 0
before-now event most ts e = steps.before-now cycle event most ts e

before-later : (event : FourTimers → Bool) (most : ℕ) (ts : FourTimers) → event ts ≡ false
    → cycles_before event (suc most) ts ≡ suc (cycles_before event most (cycle ts))
before-later event most ts e = steps.before-later cycle event most ts e

pub before-none : (event : FourTimers → Bool) (ts : FourTimers) → cycles_before event 0 ts ≡ 0
before-none event ts = steps.before-none cycle event ts

most_by : (event : FourTimers → Bool) (most : ℕ) (ts : FourTimers) (now : Bool) → event ts ≡ now
    → cycles_before event most ts ≤ most
most_by event zero ts now e = (let none = before-none event ts in omega (arith, none))
most_by event (suc most) ts true e = (let none = before-now event most ts e in omega (arith, none))
most_by event (suc most) ts false e =
    let later = before-later event most ts e in
    let rest = most_by event most (cycle ts) (event (cycle ts)) refl in
    omega (arith, later, rest)

pub before-most : (event : FourTimers → Bool) (most : ℕ) (ts : FourTimers) → cycles_before event most ts ≤ most
before-most event most ts = most_by event most ts (event ts) refl

pub before-silent : (event : FourTimers → Bool) (most count : ℕ) (ts : FourTimers) → count < cycles_before event most ts
    → event (after_cycles count ts) ≡ false
before-silent event most count ts h = steps.before-silent cycle after_cycles is_after event most count ts h

pub before-next : (event : FourTimers → Bool) (most : ℕ) (ts : FourTimers) → cycles_before event most ts < most
    → event (after_cycles (cycles_before event most ts) ts) ≡ true
before-next event most ts h = steps.before-next cycle after_cycles is_after event most ts h

pub neither : (one other : Bool) → one ≡ false → other ≡ false → (one || other) ≡ false
neither false false here there = refl
neither true other here there = cc
neither false true here there = cc

pub none-of : (one other : Bool) → (one || other) ≡ false → one ≡ false
none-of false other none = refl
none-of true other none = cc

pub nor-other : (one other : Bool) → (one || other) ≡ false → other ≡ false
nor-other false other none = none
nor-other true other none = cc

pub this-one : (one other : Bool) → one ≡ true → (one || other) ≡ true
this-one true other here = refl
this-one false other here = cc

pub that-one : (one other : Bool) → other ≡ true → (one || other) ≡ true
that-one true other there = refl
that-one false other there = there

-- of two events the first
first-comes : (one other : FourTimers → Bool) (most a b : ℕ) (ts : FourTimers) (le : Bool) → nat_le a b ≡ le
    → cycles_before one most ts ≡ a → cycles_before other most ts ≡ b → min a b < most
    → (one (after_cycles (min a b) ts) || other (after_cycles (min a b) ts)) ≡ true
first-comes one other most a b ts true le is_a is_b small =
    let this : min a b ≡ cycles_before one most ts = grind (arith, le, is_a) in
    this-one (one (after_cycles (min a b) ts)) (other (after_cycles (min a b) ts))
    (ap (λ n. one (after_cycles n ts)) this ∙ before-next one most ts (omega (arith, this, small)))
first-comes one other most a b ts false le is_a is_b small =
    let that : min a b ≡ cycles_before other most ts = grind (arith, le, is_b) in
    that-one (one (after_cycles (min a b) ts)) (other (after_cycles (min a b) ts))
    (ap (λ n. other (after_cycles n ts)) that ∙ before-next other most ts (omega (arith, that, small)))

pub before-either : (one other : FourTimers → Bool) (most : ℕ) (ts : FourTimers)
    → cycles_before (λ t. one t || other t) most ts ≡ min (cycles_before one most ts) (cycles_before other most ts)
before-either one other most ts =
    let a = cycles_before one most ts in
    let b = cycles_before other most ts in
    let a_most = before-most one most ts in
    before-is (λ t. one t || other t) most (min a b) ts (omega (arith, a_most))
    (λ k small. neither (one (after_cycles k ts)) (other (after_cycles k ts))
    (before-silent one most k ts (omega (arith, small))) (before-silent other most k ts (omega (arith, small))))
    (λ small. first-comes one other most a b ts (nat_le a b) refl refl refl small)

-- so many cycles without the event come before the others
pub before-after : (event : FourTimers → Bool) (most count : ℕ) (ts : FourTimers) → count ≤ most
    → ((k : ℕ) → k < count → event (after_cycles k ts) ≡ false)
    → cycles_before event most ts ≡ count + cycles_before event (most - count) (after_cycles count ts)
unfolding after_cycles
before-after event most zero ts within silent =
    let same : most ≡ most - 0 = omega arith in
    let rest = ap (λ n. cycles_before event n ts) same in
    omega (arith, rest)
before-after event zero (suc count) ts within silent = absurd (omega (arith, within))
before-after event (suc most) (suc count) ts within silent =
    let later = before-later event most ts (silent 0 (omega arith)) in
    let rest =
    before-after event most count (cycle ts) (omega (arith, within))
    (λ k small. ap event (after_cycles-inside k ts) ∙ silent (suc k) (omega (arith, small))) in
    let left : most - count ≡ suc most - suc count = omega arith in
    let moved = ap (λ t. cycles_before event (most - count) t) (after_cycles-inside count ts) in
    let same = ap (λ n. cycles_before event n (cycle (after_cycles count ts))) left in
    omega (arith, later, rest, moved, same)

-- an event that comes now, or doesn't
pub before-here : (event : FourTimers → Bool) (most : ℕ) (ts : FourTimers) → 1 ≤ most → event ts ≡ true
    → cycles_before event most ts ≡ 0
before-here event zero ts some e = absurd (omega (arith, some))
before-here event (suc most) ts some e = before-now event most ts e

pub before-past : (event : FourTimers → Bool) (most : ℕ) (ts : FourTimers) → 1 ≤ most → event ts ≡ false
    → cycles_before event most ts ≡ 1 + cycles_before event (most - 1) (cycle ts)
before-past event zero ts some e = absurd (omega (arith, some))
before-past event (suc most) ts some e =
    let later = before-later event most ts e in
    let one : most ≡ suc most - 1 = omega arith in
    let rest = ap (λ n. cycles_before event n (cycle ts)) one in
    omega (arith, later, rest)

pub counts-before : CountsBefore
counts-before = record { most = before-most; silent = before-silent; next = before-next; either = before-either }
