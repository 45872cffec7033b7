-- The consoles of a job, one after another.
use Rattle.std.proofs.Common.{◌≡◌, ℕ, ◌+◌, ◌<◌, ◌≤◌, List, [], ◌∷◌, ◌++◌, length, drop, get_or, map, Result, Ok, Err}
use Rattle.std.proofs.lemmas.List.{drop_all, map-append}
use Rattle.gba_store.specs.declared.outside.ReadError.{ReadError}
use Rattle.gba_command.specs.Cause.{Stop}
use Rattle.gba_command.specs.Plan.{Plan, each}
use Rattle.gba_command.specs.Reading.{GoesTo}
use Rattle.gba_command.proofs.Each.{Leads, leads-end, leads-more, leads-stop}
use Rattle.gba_joblog.specs.Job.{ConsoleJob}
use Rattle.gba_joblog.proofs.OutputNames.{at_item}
use Rattle.gba_inputs.specs.Inputs.{ConsoleInputs}
use Rattle.gba_inputs.specs.InputsPlan.{console_plan}

module _ {Store X Z : Type 0} (gives : List ℕ → ℕ → Result (List ℕ) ReadError → Store → Store → Type 0)
    (console : X → ConsoleJob) (inputs : Z → ConsoleInputs) (whole : Plan (List ConsoleInputs)) where
  -- the inputs of one console more are read
  pub goes_on : (all : List Z) (xs : List X) (i : ℕ) (x : X) (y : Z) (old mid next : Store)
      → i < length xs → x ≡ get_or xs i x
      → Leads gives whole old (each console_plan (map inputs all) (map console (drop i xs))) mid
      → GoesTo gives (console_plan (console x)) mid next (Ok (inputs y))
      → Leads gives whole old (each console_plan (map inputs (all ++ y ∷ [])) (map console (drop (i + 1) xs))) next
  goes_on all xs i x y old mid next lt is h goes =
      let here = rw (at_item xs i x lt is) at h in
      rw map-append
      (leads-more gives whole console_plan (map inputs all) (console x) (map console (drop (i + 1) xs))
      (inputs y) old mid next here goes)

  -- they aren't
  pub stops : (all : List Z) (xs : List X) (i : ℕ) (x : X) (old mid next : Store) (stop : Stop)
      → i < length xs → x ≡ get_or xs i x
      → Leads gives whole old (each console_plan (map inputs all) (map console (drop i xs))) mid
      → GoesTo gives (console_plan (console x)) mid next (Err stop)
      → GoesTo gives whole old next (Err stop)
  stops all xs i x old mid next stop lt is h goes =
      let here = rw (at_item xs i x lt is) at h in
      leads-stop gives whole console_plan (map inputs all) (console x) (map console (drop (i + 1) xs)) old mid next stop
      here goes

  -- no console is left
  pub ends : (all : List Z) (xs : List X) (i : ℕ) (old mid : Store) → length xs ≤ i
      → Leads gives whole old (each console_plan (map inputs all) (map console (drop i xs))) mid
      → GoesTo gives whole old mid (Ok (map inputs all))
  ends all xs i old mid past h =
      let none : drop i xs ≡ [] = drop_all i xs past in
      let here = rw none at h in
      leads-end gives whole console_plan (map inputs all) old mid here
