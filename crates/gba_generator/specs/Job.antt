-- The job that runs the consoles whose images are made of a number. This project's profile.
use Rattle.std.specs.Prelude.{ℕ, ◌+◌, ◌*◌, List, [], ◌∷◌, ◌++◌, codes, decimal, Option, Some, None}
use Rattle.link_node.specs.Delays.{all_delays}
use Rattle.gba_joblog.specs.Draft.{silent_console, with_image}
use Rattle.gba_joblog.specs.Job.{ConsoleJob, WholeJob}
use Rattle.gba_joblog.specs.Log.{line_of}
use Rattle.gba_joblog.specs.Outputs.{per_kind, with_kind}
use Rattle.gba_joblog.specs.Statements.{named_file, asked_output}
use Rattle.gba_joblog.specs.declared.job.OutLine.{OutLine}
use Rattle.gba_joblog.specs.declared.outputs.OutKind.TheVariants.{Words, State}
use Rattle.gba_joblog.specs.declared.outputs.PerKind.{PerKind}

-- the names of the files that are made under OUT
abbrev pub bios_file : List ℕ → ℕ → List ℕ
bios_file out player = out ++ (codes "." ++ (decimal player ++ codes ".bios"))

abbrev pub job_file : List ℕ → List ℕ
job_file out = out ++ codes ".job"

-- the words and the state are asked for
abbrev pub asked : PerKind (Option OutLine)
asked = with_kind Words (Some (asked_output None)) (with_kind State (Some (asked_output None)) (per_kind (λ _. None)))

-- a console with its BIOS; four lines say it, after the three lines of the head
abbrev pub console : List ℕ → ℕ → ConsoleJob
console out player =
    with_image (record silent_console { outs = asked }) (named_file (bios_file out player) None (5 + 4 * player))

-- the delay in cycles of each pair of the cable
abbrev pub delay : ℕ
delay = 512

-- four consoles with their images
abbrev pub job : ℕ → List ℕ → WholeJob
job cycles out = record {
  cycles = cycles;
  delays = all_delays delay;
  consoles = console out 0 ∷ console out 1 ∷ console out 2 ∷ console out 3 ∷ [];
}

-- the lines of a console, of all four, and of the job, which is of version 1 of the language
abbrev pub console_text : List ℕ → ℕ → List ℕ
console_text out player =
    line_of (codes "console") (decimal player ∷ [])
    ++ (line_of (codes "bios") (bios_file out player ∷ []) ++ codes "out words\nout state\n")

abbrev pub consoles_text : List ℕ → List ℕ
consoles_text out =
    console_text out 0 ++ (console_text out 1 ++ (console_text out 2 ++ console_text out 3))

abbrev pub job_text : ℕ → List ℕ → List ℕ
job_text cycles out =
    codes "gbalink 1\n"
    ++ (line_of (codes "cycles") (decimal cycles ∷ [])
    ++ (line_of (codes "delay") (decimal delay ∷ []) ++ (consoles_text out ++ codes "end\n")))
