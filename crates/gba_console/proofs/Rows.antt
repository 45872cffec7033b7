-- Steps in a row that take nothing.
use Rattle.std.proofs.Common.{◌≡◌, ℕ, ◌+◌, ◌<◌, ◌≤◌, ◌⊎◌, inl, inr, ⊎_elim, true, [], Option, None, Some, refl, sym, ap, ◌∙◌, subst, arith}
use Rattle.std.specs.Prelude.{false, is_some}
use Rattle.link_node.specs.Alone.{Stays, Steps}
use Rattle.link_node.specs.declared.signal.Signal.{Signal}
use Rattle.gba_devices.specs.State.{is_calm, is_idle}
use Rattle.gba_io.specs.Core.{core_is_calm, core_is_idle}
use Rattle.gba_serial.specs.Apart.{StaysQuiet}
use Rattle.gba_serial.specs.Tell.{has_news, outgoing}
use Rattle.gba_console.specs.Machine.{Machine, clock_of, without_limit}
use Rattle.gba_console.specs.Run.{GoesAlone, IsEnough, StepPasses, news, run_to}
use Rattle.gba_console.specs.Step.{next, stepped, told}
use Rattle.gba_console.proofs.Calm.{not-second}
use Rattle.gba_console.proofs.Rises.{run-step}
use Rattle.gba_console.proofs.Unlimited.{stepped-unlimited, told-unlimited}

-- one row after another
pub and-then : {first end : ℕ} {x y z : Machine} {o : Option Signal} → first ≤ end → GoesAlone end x y None
    → GoesAlone first y z o → GoesAlone end x z o
and-then within alone Stays = alone
and-then within alone (Steps w rest early) = Steps w (and-then within alone rest) (omega (arith, early, within))

-- a calm console has told nothing
pub calm-silent : StaysQuiet → (m : Machine) → core_is_calm m.board.core ≡ true → news m ≡ None
calm-silent quiet m calm =
    let core = m.board.core in
    quiet.outgoing m.was core.serial (not-second (is_calm core.devices) (has_news core.serial) calm)

-- nor has one whose serial unit is an idle one's
pub serial-silent : StaysQuiet → (before after : Machine) → core_is_idle before.board.core ≡ true
    → after.board.core.serial ≡ before.board.core.serial → news after ≡ None
serial-silent quiet before after idle same =
    let core = before.board.core in
    ap (outgoing after.was) same
    ∙ quiet.outgoing after.was core.serial (not-second (is_idle core.devices) (has_news core.serial) idle)

-- nothing is told
pub none-told : (o : Option Signal) → is_some o ≡ false → o ≡ None
none-told None is = refl
none-told (Some s) is = cc

-- the same of the consoles without their limits
pub alone-unlimited : {end : ℕ} {x z : Machine} {o : Option Signal} → GoesAlone end x z o
    → GoesAlone end (without_limit x) (without_limit z) o
alone-unlimited Stays = Stays
alone-unlimited {end = end} {x = x} (Steps y alone early) =
    let made : GoesAlone end (without_limit x) (stepped [] (without_limit y)) (told [] (without_limit y))
    = Steps (without_limit y) (alone-unlimited alone) early in
    subst (λ (m : Machine). GoesAlone end (without_limit x) m (told [] y)) (stepped-unlimited [] y)
    (subst (λ (o : Option Signal). GoesAlone end (without_limit x) (stepped [] (without_limit y)) o)
    (told-unlimited [] y) made)

module _ (passes : (m : Machine) → StepPasses [] m) where
  -- what a step tells is what the console then keeps
  pub told-news : (y : Machine) → told [] y ≡ news (next y)
  told-news y = (passes y).tells ∙ ap (λ (n : ℕ). outgoing n (next y).board.core.serial) (sym (passes y).was)

  -- one step more
  pub one-more : (end : ℕ) (x y z : Machine) → GoesAlone end x y None → clock_of y < end → z ≡ next y
      → GoesAlone end x z (news z)
  one-more end x y z alone early is =
      let made : GoesAlone end x (next y) (told [] y) = Steps y alone early in
      subst (λ (m : Machine). GoesAlone end x m (news m)) (sym is)
      (subst (λ (o : Option Signal). GoesAlone end x (next y) o) (told-news y) made)

  -- the clock doesn't fall, and rises with each step
  pub not-back : {end : ℕ} {x z : Machine} {o : Option Signal} → GoesAlone end x z o → clock_of x ≤ clock_of z
  not-back Stays = omega arith
  not-back (Steps y alone early) = omega (arith, not-back alone, (passes y).raised)

  pub told-rises : {end : ℕ} {x z : Machine} {o : Option Signal} (s : Signal) → GoesAlone end x z o → o ≡ Some s
      → clock_of x < clock_of z
  told-rises s Stays is = cc
  told-rises s (Steps y alone early) is = omega (arith, not-back alone, (passes y).raised)

  -- a row that tells something begins below its end
  pub told-early : {end : ℕ} {x z : Machine} {o : Option Signal} → GoesAlone end x z o → is_some o ≡ true
      → clock_of x < end
  told-early Stays is = cc
  told-early (Steps y alone early) is = omega (arith, not-back alone, early)

  stays-or-rises : {end : ℕ} {x z : Machine} {o : Option Signal} → GoesAlone end x z o
      → (z ≡ x) ⊎ (clock_of x < clock_of z)
  stays-or-rises Stays = inl refl
  stays-or-rises (Steps y alone early) = inr (omega (arith, not-back alone, (passes y).raised))

  -- a row that its first step ends is that step
  pub just-one : {x z : Machine} {o : Option Signal} → GoesAlone (clock_of x + 1) x z o → clock_of x < clock_of z
      → z ≡ next x
  just-one Stays later = absurd (omega (arith, later))
  just-one {x = x} (Steps y alone early) later =
      ⊎_elim (λ (same : y ≡ x). ap next same) (λ (past : clock_of x < clock_of y). absurd (omega (arith, early, past)))
      (stays-or-rises alone)

  -- a longer run goes on from there to the same end
  pub same-end : {end : ℕ} {x z : Machine} {o : Option Signal} → IsEnough → (until : ℕ) → end ≤ until
      → GoesAlone end x z o → run_to until z ≡ run_to until x
  same-end enough until within Stays = refl
  same-end enough until within (Steps y alone early) =
      run-step enough until y (next y) (omega (arith, early, within)) (passes y).raised refl
      ∙ same-end enough until within alone
