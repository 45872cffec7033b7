-- A job up to a clock, and one without digests of its outputs.
use Rattle.std.proofs.Common.{◌≡◌, ◌≤◌, ◌^◌, ℕ, List, [], ◌∷◌, ◌++◌, length, take, drop, map, Option, Some, None, arith}
use Rattle.std.specs.List.{AllZip}
use Rattle.std.proofs.lemmas.List.Elements.{All-map, All-weaker}
use Rattle.std.proofs.lemmas.List.{length-map}
use Rattle.gba_image.specs.declared.images.ConsoleImages.{ConsoleImages}
use Rattle.gba_joblog.specs.Job.{ConsoleJob, WholeJob}
use Rattle.gba_joblog.specs.Soundness.{IsConsole, IsJob, IsOutput}
use Rattle.gba_joblog.specs.Views.{console_value}
use Rattle.gba_joblog.specs.declared.job.JobConsole.{JobConsole}
use Rattle.gba_joblog.specs.declared.job.OutLine.{OutLine}
use Rattle.gba_joblog.specs.declared.outputs.OutKind.TheVariants.{Frames, Samples, Words}
use Rattle.gba_joblog.proofs.EachKind.{all-kinds}
use Rattle.gba_run_files.specs.Frozen.{console_so_far, console_unstated, job_unstated, job_until, unstated}
use Rattle.gba_session.specs.Start.{FitsConsole}

-- the consoles that are changed by now, and those that are left once they will be
abbrev pub changed_from : (ConsoleJob → ConsoleJob) → List JobConsole → ℕ → List ConsoleJob
changed_from change consoles i = map console_value (take i consoles) ++ map change (map console_value (drop i consoles))

line-sound : (line : Option OutLine) → IsOutput (unstated line)
line-sound None = tt
line-sound (Some asked) = tt

unstated-sound : (console : ConsoleJob) → IsConsole console → IsConsole (console_unstated console)
unstated-sound console sound = record {
  bios = sound.bios;
  off = sound.off;
  lines = record {
    cart = sound.lines.cart;
    save = sound.lines.save;
    keys = sound.lines.keys;
    changes = sound.lines.changes;
    apart = sound.lines.apart;
    outs =
        all-kinds IsOutput (console_unstated console).outs (line-sound console.outs.frames)
        (line-sound console.outs.samples)
        (line-sound console.outs.words) (line-sound console.outs.state) (line-sound console.outs.save);
  };
}

so-far-sound : (console : ConsoleJob) → IsConsole console → IsConsole (console_so_far console)
so-far-sound console sound = record {
  bios = sound.bios;
  off = sound.off;
  lines = record {
    cart = sound.lines.cart;
    save = sound.lines.save;
    keys = sound.lines.keys;
    changes = sound.lines.changes;
    apart = sound.lines.apart;
    outs = all-kinds IsOutput (console_so_far console).outs (sound.lines.outs Frames) (sound.lines.outs Samples)
        (sound.lines.outs Words) tt tt;
  };
}

pub job-unstated-sound : (job : WholeJob) → IsJob job → IsJob (job_unstated job)
job-unstated-sound job sound =
    let many : length (job_unstated job).consoles ≡ length job.consoles = length-map job.consoles console_unstated in
    record {
      some_cycles = sound.some_cycles;
      few_cycles = sound.few_cycles;
      delays = rw many sound.delays;
      some_consoles = omega (arith, many, sound.some_consoles);
      few_consoles = omega (arith, many, sound.few_consoles);
      each = All-map IsConsole console_unstated job.consoles
          (All-weaker IsConsole (λ console. IsConsole (console_unstated console)) unstated-sound job.consoles
          sound.each);
    }

pub job-until-sound : (clock : ℕ) (job : WholeJob) → 1 ≤ clock → clock ≤ 2 ^ 38 → IsJob job
    → IsJob (job_until clock job)
job-until-sound clock job some most sound =
    let many : length (job_until clock job).consoles ≡ length job.consoles = length-map job.consoles console_so_far in
    record {
      some_cycles = some;
      few_cycles = most;
      delays = rw many sound.delays;
      some_consoles = omega (arith, many, sound.some_consoles);
      few_consoles = omega (arith, many, sound.few_consoles);
      each = All-map IsConsole console_so_far job.consoles
          (All-weaker IsConsole (λ console. IsConsole (console_so_far console)) so-far-sound job.consoles sound.each);
    }

-- the images of the consoles fit as before
pub until-fit : (consoles : List ConsoleJob) (images : List ConsoleImages) → AllZip FitsConsole consoles images
    → AllZip FitsConsole (map console_so_far consoles) images
until-fit [] [] fit = tt
until-fit [] (one ∷ images) fit = absurd fit
until-fit (c ∷ consoles) [] fit = absurd fit
until-fit (c ∷ consoles) (one ∷ images) fit =
    (record { backup = fit.0.backup; save = fit.0.save }, until-fit consoles images fit.1)

pub unstated-fit : (consoles : List ConsoleJob) (images : List ConsoleImages) → AllZip FitsConsole consoles images
    → AllZip FitsConsole (map console_unstated consoles) images
unstated-fit [] [] fit = tt
unstated-fit [] (one ∷ images) fit = absurd fit
unstated-fit (c ∷ consoles) [] fit = absurd fit
unstated-fit (c ∷ consoles) (one ∷ images) fit =
    (record { backup = fit.0.backup; save = fit.0.save }, unstated-fit consoles images fit.1)
