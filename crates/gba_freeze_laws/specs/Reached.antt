-- What the run of a job reaches.
use Rattle.std.specs.Prelude.{ℕ, ◌≤◌, IfSome, List}
use Rattle.std.specs.List.{All}
use Rattle.gba_terms.specs.Bytes.{AreBytes}
use Rattle.gba_console.specs.Machine.{Machine}
use Rattle.gba_image.specs.declared.images.ConsoleImages.{ConsoleImages}
use Rattle.gba_joblog.specs.Job.{WholeJob}
use Rattle.gba_joblog.specs.Soundness.{IsJob}
use Rattle.gba_session.specs.Start.{FitJob, run_until, start_of}
use Rattle.gba_thaw_laws.specs.Cut.{CanBeFrozen}
use Rattle.link_order.specs.Cut.{Cut}

-- the consoles of a job, from their reset on, once the clock of each is at least this clock
abbrev pub reached : WholeJob → List ConsoleImages → ℕ → Cut Machine
reached job images clock = run_until clock (start_of job images)

-- a save is of bytes
abbrev pub HasSavedBytes : ConsoleImages → Type 0
HasSavedBytes images = IfSome images.save AreBytes

-- Of a sound job with images that fit its consoles, whatever is reached up to its cycles can be frozen.
abbrev pub RunsCanBeFrozen : Type 0
RunsCanBeFrozen =
    (job : WholeJob) (images : List ConsoleImages) (clock : ℕ) → IsJob job → FitJob job images
    → All HasSavedBytes images
    → clock ≤ job.cycles
    → CanBeFrozen job.cycles (start_of job images) (reached job images clock)
