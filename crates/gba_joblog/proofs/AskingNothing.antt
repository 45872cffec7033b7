-- Consoles that are asked for nothing.
use Rattle.std.proofs.Common.{◌≡◌, ℕ, List, ◌++◌, length, take, drop, map, arith}
use Rattle.std.proofs.lemmas.List.Elements.{All-map, All-weaker}
use Rattle.std.proofs.lemmas.List.{length-map}
use Rattle.gba_joblog.specs.Job.{ConsoleJob, WholeJob}
use Rattle.gba_joblog.specs.Soundness.{IsConsole, IsJob, IsOutput}
use Rattle.gba_joblog.specs.Unasked.{console_unasked, unasked}
use Rattle.gba_joblog.specs.Views.{console_value}
use Rattle.gba_joblog.specs.declared.job.JobConsole.{JobConsole}
use Rattle.gba_joblog.proofs.EachKind.{all-kinds}

-- the consoles that are asked for nothing by now, and those that are left once they will be
abbrev pub unasked_from : List JobConsole → ℕ → List ConsoleJob
unasked_from consoles i =
    map console_value (take i consoles) ++ map console_unasked (map console_value (drop i consoles))

-- a sound console is sound without its outputs, and so is a job
console-sound : (console : ConsoleJob) → IsConsole console → IsConsole (console_unasked console)
console-sound console sound = record {
  bios = sound.bios;
  off = sound.off;
  lines = record {
    cart = sound.lines.cart;
    save = sound.lines.save;
    keys = sound.lines.keys;
    changes = sound.lines.changes;
    apart = sound.lines.apart;
    outs = all-kinds IsOutput (console_unasked console).outs tt tt tt tt tt;
  };
}

pub job-sound : (job : WholeJob) → IsJob job → IsJob (unasked job)
job-sound job sound =
    let many : length (unasked job).consoles ≡ length job.consoles = length-map job.consoles console_unasked in
    record {
      some_cycles = sound.some_cycles;
      few_cycles = sound.few_cycles;
      delays = rw many sound.delays;
      some_consoles = omega (arith, many, sound.some_consoles);
      few_consoles = omega (arith, many, sound.few_consoles);
      each = All-map IsConsole console_unasked job.consoles
          (All-weaker IsConsole (λ console. IsConsole (console_unasked console)) console-sound job.consoles sound.each);
    }
