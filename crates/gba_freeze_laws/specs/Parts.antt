-- What is thawed of a frozen run goes on as the run does.
use Rattle.std.specs.Prelude.{◌≡◌, ℕ, ◌≤◌, ◌++◌, List, map, length, Ok, Some, if◌then◌else◌, slice_get}
use Rattle.std.specs.List.{All}
use Rattle.gba_console.specs.Machine.{Machine, without_limit}
use Rattle.gba_console.specs.Shorn.{shorn}
use Rattle.gba_freeze_laws.specs.Reached.{HasSavedBytes, reached}
use Rattle.gba_frozen_print.specs.Laws.{AreBelow}
use Rattle.gba_image.specs.declared.images.ConsoleImages.{ConsoleImages}
use Rattle.gba_joblog.specs.Job.{WholeJob}
use Rattle.gba_joblog.specs.Soundness.{IsJob}
use Rattle.gba_joblog.specs.declared.outputs.OutKind.{OutKind}
use Rattle.gba_output.specs.StateFile.{summary_line}
use Rattle.gba_session.specs.Files.{grows, output_bytes}
use Rattle.gba_session.specs.Start.{FitJob, end_of, run_until, start_of}
use Rattle.gba_snapshot.specs.File.{frozen_file}
use Rattle.gba_thaw.specs.Cut.{thaw_of}
use Rattle.link_mapped.specs.Mapped.{mapped}
use Rattle.link_order.specs.Cut.{Cut, plain_cut}

-- an output of a whole run, from that of its first part and that of its second: what grows is made in both, and state
-- and save are there at the end alone
abbrev pub parts_of : OutKind → List ℕ → List ℕ → List ℕ
parts_of kind first second = if grows kind then first ++ second else second

-- a console at the end of a run, where it was frozen, and at the end of the run that goes on from there
pub record ArePartsOf (whole first second : Machine) : Type 0 where
  pub bytes : (kind : OutKind)
      → output_bytes kind whole ≡ parts_of kind (output_bytes kind first) (output_bytes kind second)
  pub summary : summary_line whole ≡ summary_line second

-- the same of the console of a player
pub record HasParts (first second : Cut Machine) (player : ℕ) (whole : Machine) : Type 0 where
  pub before : Machine
  pub is_before : slice_get first.consoles player ≡ Some before
  pub after : Machine
  pub is_after : slice_get second.consoles player ≡ Some after
  pub parts : ArePartsOf whole before after

-- the end of the run that goes on from consoles that were thawed
abbrev pub end_from : WholeJob → Cut Machine → Cut Machine
end_from job thawed = run_until job.cycles (plain_cut without_limit thawed)

-- The frozen file of a job at a clock is thawed to what was frozen, but for what no step looks at, and each console of
-- the job's run has these parts.
pub record GoesOn (digest : List ℕ) (job : WholeJob) (images : List ConsoleImages) (clock : ℕ) : Type 0 where
  pub made : Cut Machine
  pub thawed : thaw_of digest job.cycles (start_of job images) (frozen_file digest (reached job images clock)) ≡ Ok made
  pub same : mapped (λ i. shorn) made ≡ mapped (λ i. shorn) (reached job images clock)
  pub consoles : (player : ℕ) (whole : Machine) → slice_get (end_of job images).consoles player ≡ Some whole
      → HasParts (reached job images clock) (end_from job made) player whole
  pub lines : map summary_line (end_of job images).consoles ≡ map summary_line (end_from job made).consoles

-- So it is of every sound job with images that fit its consoles, at each clock up to its cycles.
abbrev pub FrozenRunsGoOn : Type 0
FrozenRunsGoOn =
    (digest : List ℕ) (job : WholeJob) (images : List ConsoleImages) (clock : ℕ) → length digest ≡ 32
    → AreBelow 2 digest → IsJob job → FitJob job images → All HasSavedBytes images → clock ≤ job.cycles
    → GoesOn digest job images clock
