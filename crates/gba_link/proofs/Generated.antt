-- The inputs of a job that is made of a number.
use Rattle.std.proofs.Common.{ℕ, List, refl}
use Rattle.std.specs.List.{AllZip}
use Rattle.gba_generator.proofs.Assembled.{bios-fine}
use Rattle.gba_generator.specs.Job.{console, job}
use Rattle.gba_generator.specs.Source.{bios}
use Rattle.gba_inputs.specs.Law.{AreInputs}
use Rattle.gba_joblog.proofs.SoundChanges as changes
use Rattle.gba_link.specs.GeneratedRun.{bare_inputs, made_inputs}

are-inputs : (number player : ℕ) (out : List ℕ) → AreInputs (console out player) (bare_inputs (bios number player))
are-inputs number player out = record {
  bios = bios-fine number player;
  cart = tt;
  save = tt;
  backup = refl;
  has_cart = refl;
  has_save = refl;
  digests = refl;
  changes = changes.none;
}

pub made-sound : (number cycles : ℕ) (out : List ℕ) → AllZip AreInputs (job cycles out).consoles (made_inputs number)
made-sound number cycles out =
    (are-inputs number 0 out, (are-inputs number 1 out, (are-inputs number 2 out, (are-inputs number 3 out, tt))))
