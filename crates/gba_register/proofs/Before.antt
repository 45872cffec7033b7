-- The steps before an event.
use Rattle.std.proofs.Common.{◌≡◌, ℕ, zero, suc, ◌<◌, ◌≤◌, Bool, true, false, refl, ap, sym, ◌∙◌, arith}
use Rattle.gba_register.specs.Before.{steps_before}

-- what a state is after so many steps
pub record IsAfter (State : Type 0) (step : State → State) (after : ℕ → State → State) : Type 0 where
  pub none : (s : State) → after 0 s ≡ s
  pub more : (count : ℕ) (s : State) → after (suc count) s ≡ after count (step s)

-- so many steps without the event, and then one with it or the last
pub before-is : {State : Type 0} (step : State → State) (after : ℕ → State → State) (a : IsAfter State step after)
    (event : State → Bool) (most count : ℕ) (s : State) → count ≤ most
    → ((k : ℕ) → k < count → event (after k s) ≡ false)
    → (count < most → event (after count s) ≡ true)
    → steps_before step event most s ≡ count
unfolding steps_before
before-is step after a event zero zero s within silent next = refl
before-is step after a event zero (suc count) s within silent next = absurd (omega (arith, within))
before-is step after a event (suc most) zero s within silent next =
    rw (sym (ap event (a.none s)) ∙ next (omega arith)) refl
before-is step after a event (suc most) (suc count) s within silent next =
    let later =
    before-is step after a event most count (step s) (omega (arith, within))
    (λ k small. sym (ap event (a.more k s)) ∙ silent (suc k) (omega (arith, small)))
    (λ small. sym (ap event (a.more count s)) ∙ next (omega (arith, small))) in
    rw (sym (ap event (a.none s)) ∙ silent 0 (omega arith)) (ap suc later)

pub before-now : {State : Type 0} (step : State → State) (event : State → Bool) (most : ℕ) (s : State) → event s ≡ true
    → steps_before step event (suc most) s ≡ 0
unfolding steps_before
before-now step event most s e = rw e refl

pub before-later : {State : Type 0} (step : State → State) (event : State → Bool) (most : ℕ) (s : State)
    → event s ≡ false → steps_before step event (suc most) s ≡ suc (steps_before step event most (step s))
unfolding steps_before
before-later step event most s e = rw e refl

pub before-none : {State : Type 0} (step : State → State) (event : State → Bool) (s : State)
    → steps_before step event 0 s ≡ 0
unfolding steps_before
before-none step event s = refl

silent_by : {State : Type 0} (step : State → State) (after : ℕ → State → State) (a : IsAfter State step after)
    (event : State → Bool) (most count : ℕ) (s : State) (now : Bool) → event s ≡ now
    → count < steps_before step event most s → event (after count s) ≡ false
silent_by step after a event zero count s now e h =
    (let none = before-none step event s in absurd (omega (arith, none, h)))
silent_by step after a event (suc most) count s true e h =
    (let none = before-now step event most s e in absurd (omega (arith, none, h)))
silent_by step after a event (suc most) zero s false e h = ap event (a.none s) ∙ e
silent_by step after a event (suc most) (suc count) s false e h =
    let later = before-later step event most s e in
    ap event (a.more count s)
    ∙ silent_by step after a event most count (step s) (event (step s)) refl (omega (arith, later, h))

-- at none of them the event comes
pub before-silent : {State : Type 0} (step : State → State) (after : ℕ → State → State) (a : IsAfter State step after)
    (event : State → Bool) (most count : ℕ) (s : State) → count < steps_before step event most s
    → event (after count s) ≡ false
before-silent step after a event most count s h = silent_by step after a event most count s (event s) refl h

next_by : {State : Type 0} (step : State → State) (after : ℕ → State → State) (a : IsAfter State step after)
    (event : State → Bool) (most : ℕ) (s : State) (now : Bool) → event s ≡ now
    → steps_before step event most s < most → event (after (steps_before step event most s) s) ≡ true
next_by step after a event zero s now e h = absurd (omega (arith, h))
next_by step after a event (suc most) s true e h =
    ap (λ n. event (after n s)) (before-now step event most s e) ∙ (ap event (a.none s) ∙ e)
next_by step after a event (suc most) s false e h =
    let later = before-later step event most s e in
    let rest = steps_before step event most (step s) in
    ap (λ n. event (after n s)) later
    ∙ (ap event (a.more rest s)
    ∙ next_by step after a event most (step s) (event (step s)) refl (omega (arith, later, h)))

-- at the next one it does, where they are not the most that are counted
pub before-next : {State : Type 0} (step : State → State) (after : ℕ → State → State) (a : IsAfter State step after)
    (event : State → Bool) (most : ℕ) (s : State) → steps_before step event most s < most
    → event (after (steps_before step event most s) s) ≡ true
before-next step after a event most s h = next_by step after a event most s (event s) refl h
