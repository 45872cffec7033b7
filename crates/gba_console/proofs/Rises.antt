-- Each step raises the clock, so a run reaches its end.
use Rattle.std.proofs.Common.{◌≡◌, ℕ, zero, suc, ◌+◌, ◌-◌, ◌<◌, ◌≤◌, Bool, [], true, false, refl, sym, ap, ◌∙◌, arith}
use Rattle.std.specs.Prelude.{nat_lt, if◌then◌else◌}
use Rattle.std.proofs.lemmas.Bool.Decides.{nat_tests}
use Rattle.gba_console.specs.Machine.{Machine, clock_of}
use Rattle.gba_console.specs.Run.{IsEnough, StepPasses, run, run_to}
use Rattle.gba_console.specs.Step.{next}

module _ (passes : (m : Machine) → StepPasses [] m) where
  by-test : (most until : ℕ) (m : Machine) (test : Bool) → nat_lt (clock_of m) until ≡ test
      → (until ≤ clock_of (next m) + most → until ≤ clock_of (run most until (next m)))
      → until ≤ clock_of m + suc most → until ≤ clock_of (if test then run most until (next m) else m)
  by-test most until m true is rest bound = rest (omega (arith, (passes m).raised))
  by-test most until m false is rest bound = grind arith

  run-reaches : (most until : ℕ) (m : Machine) → until ≤ clock_of m + most → until ≤ clock_of (run most until m)
  unfolding run
  run-reaches zero until m bound = omega arith
  run-reaches (suc most) until m bound =
      by-test most until m (nat_lt (clock_of m) until) refl (run-reaches most until (next m)) bound

  pub reaches : (until : ℕ) (start : Machine) → until ≤ clock_of (run_to until start)
  reaches until start = run-reaches until until start (omega arith)

  same-test : (test : Bool) (m n k : Machine) → n ≡ k → (if test then n else m) ≡ (if test then k else m)
  same-test true m n k same = same
  same-test false m n k same = refl

  run-over : (most until : ℕ) (m : Machine) → until ≤ clock_of m → m ≡ run (suc most) until m
  unfolding run
  run-over most until m past =
      let e : nat_lt (clock_of m) until ≡ false = grind arith in
      rw e refl

  pub enough : (a b until : ℕ) (m : Machine) → until ≤ clock_of m + a → until ≤ clock_of m + b
      → run a until m ≡ run b until m
  unfolding run
  enough zero zero until m one other = refl
  enough zero (suc b) until m one other = run-over b until m (omega arith)
  enough (suc a) zero until m one other = sym (run-over a until m (omega arith))
  enough (suc a) (suc b) until m one other =
      same-test (nat_lt (clock_of m) until) m (run a until (next m)) (run b until (next m))
      (enough a b until (next m) (omega (arith, (passes m).raised)) (omega (arith, (passes m).raised)))

run-more : (most until : ℕ) (m : Machine) → clock_of m < until → run (suc most) until m ≡ run most until (next m)
unfolding run
run-more most until m below =
    let e : nat_lt (clock_of m) until ≡ true = grind (arith, nat_tests) in
    rw e refl

run-none : (most until : ℕ) (m : Machine) → until ≤ clock_of m → run most until m ≡ m
unfolding run
run-none zero until m past = refl
run-none (suc most) until m past =
    let e : nat_lt (clock_of m) until ≡ false = grind (arith, nat_tests) in
    rw e refl

-- a run that is over, and one that begins with a step
pub run-done : (until : ℕ) (m : Machine) → until ≤ clock_of m → run_to until m ≡ m
run-done until m past = run-none until until m past

pub run-step : IsEnough → (until : ℕ) (m n : Machine) → clock_of m < until → clock_of m < clock_of n → n ≡ next m
    → run_to until n ≡ run_to until m
run-step enough until m n below raised step =
    let fewer = until - 1 in
    let some : until ≡ suc fewer = omega arith in
    enough until until fewer n (omega arith) (omega (arith, raised))
    ∙ ap (run fewer until) step
    ∙ sym (ap (λ most. run most until m) some ∙ run-more fewer until m below)
