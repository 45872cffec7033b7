-- A job with what was read for it written in.
use Rattle.std.specs.Prelude.{ℕ, List, [], ◌∷◌, Option, Some, None}
use Rattle.gba_joblog.specs.Job.{ConsoleJob, NamedFile, WholeJob}
use Rattle.gba_joblog.specs.declared.job.KeyChange.{KeyChange}
use Rattle.gba_joblog.specs.declared.job.OutLine.{OutLine}
use Rattle.gba_joblog.specs.declared.outputs.PerKind.{PerKind}
use Rattle.gba_inputs.specs.Inputs.{ConsoleInputs}
use Rattle.gba_inputs.specs.declared.inputs.ImageDigests.{ImageDigests}

-- the line of an input, with this digest stated
abbrev pub with_digest : NamedFile → Option (List ℕ) → NamedFile
with_digest named digest = record named { digest = digest }

-- the same, where the console has it
abbrev pub any_with_digest : Option NamedFile → Option (List ℕ) → Option NamedFile
any_with_digest None digest = None
any_with_digest (Some named) digest = Some (with_digest named digest)

-- A console with the digests of its images stated and its key changes written in. Its key file is named no longer.
abbrev pub filled_with : ConsoleJob → ImageDigests → List KeyChange → ConsoleJob
filled_with console digests changes = record {
  bios = with_digest console.bios (Some digests.bios);
  cart = any_with_digest console.cart digests.cart;
  save = any_with_digest console.save digests.save;
  keys = None;
  changes = changes;
  backup = console.backup;
  off = console.off;
  outs = console.outs;
}

abbrev pub filled_console : ConsoleJob → ConsoleInputs → ConsoleJob
filled_console console inputs = filled_with console inputs.digests inputs.changes

-- each console with its inputs; there are as many of the one as of the other
unfoldable pub filled_consoles : List ConsoleJob → List ConsoleInputs → List ConsoleJob
filled_consoles [] inputs = []
filled_consoles (console ∷ consoles) [] = []
filled_consoles (console ∷ consoles) (read ∷ inputs) = filled_console console read ∷ filled_consoles consoles inputs

abbrev pub filled : WholeJob → List ConsoleInputs → WholeJob
filled job inputs = record job { consoles = filled_consoles job.consoles inputs }

-- each console with these outputs, with the digests stated for them; there are as many of the one as of the other
unfoldable pub with_outputs : List ConsoleJob → List (PerKind (Option OutLine)) → List ConsoleJob
with_outputs [] outs = []
with_outputs (console ∷ consoles) [] = []
with_outputs (console ∷ consoles) (asked ∷ outs) = record console { outs = asked } ∷ with_outputs consoles outs

-- The job that the log of a run says: the digests of the inputs and of the outputs are stated, and the key changes are
-- written in.
abbrev pub log_job : WholeJob → List ConsoleInputs → List (PerKind (Option OutLine)) → WholeJob
log_job job inputs outs = record job { consoles = with_outputs (filled_consoles job.consoles inputs) outs }
