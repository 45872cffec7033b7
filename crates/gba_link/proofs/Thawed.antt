-- What a frozen file comes to, from a start of the same consoles, and the run that goes on from there.
use Rattle.std.proofs.Common.{◌≡◌, ℕ, List, Result, Err, sym, ap, ◌∙◌}
use Rattle.gba_command.specs.Cause.{Cause}
use Rattle.gba_command.specs.Writing.{Run}
use Rattle.gba_console.specs.Machine.{Machine, without_limit}
use Rattle.gba_image.specs.declared.images.ConsoleImages.{ConsoleImages}
use Rattle.gba_joblog.specs.Job.{WholeJob}
use Rattle.gba_joblog.specs.Log.{log_text}
use Rattle.gba_session.specs.Start.{start_of}
use Rattle.gba_thaw.specs.Cut.{thaw_of}
use Rattle.gba_thaw.specs.Law.{ThawsPlainly}
use Rattle.link_order.specs.Cut.{Cut, plain_cut}
use Rattle.sha2.specs.Sha256.{sha256}

-- the cut that is thawed is the one from the consoles of the job, whose digest is that of its log
pub thawed-as : ThawsPlainly
    → (job said : WholeJob) (images read : List ConsoleImages) (digest bytes : List ℕ) (start : Cut Machine)
    → job ≡ said → images ≡ read → digest ≡ sha256 (log_text job) → plain_cut without_limit start ≡ start_of job images
    → thaw_of (sha256 (log_text said)) said.cycles (start_of said read) bytes ≡ thaw_of digest job.cycles start bytes
thawed-as plainly job said images read digest bytes start same seen digested begins =
    ap (λ (j : WholeJob). thaw_of (sha256 (log_text j)) j.cycles (start_of j read) bytes) (sym same)
    ∙ ap (λ (ones : List ConsoleImages). thaw_of (sha256 (log_text job)) job.cycles (start_of job ones) bytes)
    (sym seen)
    ∙ ap (λ (cut : Cut Machine). thaw_of (sha256 (log_text job)) job.cycles cut bytes) (sym begins)
    ∙ ap (λ (one : List ℕ). thaw_of one job.cycles (plain_cut without_limit start) bytes) (sym digested)
    ∙ plainly digest job.cycles start bytes

-- a run that is refused
abbrev pub refused_run : Cause → Result Run Cause
refused_run cause = Err cause
