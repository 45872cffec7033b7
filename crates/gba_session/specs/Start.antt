use Rattle.std.specs.Prelude.{◌≡◌, ℕ, ◌+◌, List, [], ◌∷◌, length, map}
use Rattle.std.specs.List.{AllZip}
use Rattle.gba_console.specs.Alone.{console_kind}
use Rattle.gba_console.specs.Machine.{Machine, reset, without_limit}
use Rattle.gba_console.specs.declared.keys.KeyState.{KeyState}
use Rattle.gba_image.specs.Checks.{SaveFits}
use Rattle.gba_image.specs.declared.images.ConsoleImages.{ConsoleImages}
use Rattle.gba_io.specs.declared.made.Room.{Room}
use Rattle.gba_joblog.specs.Job.{ConsoleJob, WholeJob}
use Rattle.gba_joblog.specs.Statements.{asks_for}
use Rattle.gba_joblog.specs.declared.job.KeyChange.{KeyChange}
use Rattle.gba_joblog.specs.declared.outputs.OutKind.TheVariants.{Frames, Samples, Words}
use Rattle.link_node.specs.Delays.{hop_of}
use Rattle.link_order.specs.Cut.{Cut, live, opening}
use Rattle.link_order.specs.GlobalOrder.{run}

-- The consoles of a job at reset, and where they are once the job's cycles are over. The changes of their keys stand in
-- the job, those of key files too.

-- the changes of a console's keys
abbrev pub key_state : KeyChange → KeyState
key_state change = record { clock = change.clock; keys = change.keys }

abbrev pub key_states : List KeyChange → List KeyState
key_states changes = map key_state changes

-- what of a console is kept beside its state: what is asked for, in the steps that begin before the job's
-- cycles are over
abbrev pub room_of : WholeJob → ConsoleJob → Room
room_of job console = record {
  until = job.cycles;
  frames = asks_for console Frames;
  samples = asks_for console Samples;
  words = asks_for console Words;
}

-- how long a signal takes on a job's cable from player 0 to player 1 and back
abbrev pub round_of : WholeJob → ℕ
round_of job = hop_of job.delays 0 1 + hop_of job.delays 1 0

-- The images of a console are for what its cartridge keeps its saves in, and the save, where there is one, was
-- checked for it.
pub record FitsConsole (console : ConsoleJob) (images : ConsoleImages) : Type 0 where
  pub backup : images.backup ≡ console.backup
  pub save : SaveFits images.save images.backup

-- so it is with each console of a job, and there are as many of the one as of the other
abbrev pub FitJob : WholeJob → List ConsoleImages → Type 0
FitJob job images = AllZip FitsConsole job.consoles images

-- the console of a player at reset, with these images
abbrev pub console_at : WholeJob → ℕ → ConsoleJob → ConsoleImages → Machine
console_at job player console images =
    reset player (length job.consoles) (round_of job) console.off images.bios images.cart images.save images.backup
    (key_states console.changes) (room_of job console)

-- the consoles of the players from this one on. No step depends on the end of a console's room, so it is no part of the
-- record that the cable sees.
unfoldable pub consoles_from : WholeJob → ℕ → List ConsoleJob → List ConsoleImages → List Machine
consoles_from job player [] images = []
consoles_from job player (console ∷ consoles) [] = []
consoles_from job player (console ∷ consoles) (one ∷ images) =
    without_limit (console_at job player console one) ∷ consoles_from job (player + 1) consoles images

-- the job's consoles at reset, on a cable with nothing on its way
abbrev pub start_of : WholeJob → List ConsoleImages → Cut Machine
start_of job images = opening (consoles_from job 0 job.consoles images) job.delays

-- the same after the steps of the global order: always the console with the least clock, at a tie the one with the
-- least number, until each clock is at least the job's cycles
abbrev pub run_until : ℕ → Cut Machine → Cut Machine
run_until until cut = live console_kind (run console_kind cut until)

abbrev pub end_of : WholeJob → List ConsoleImages → Cut Machine
end_of job images = run_until job.cycles (start_of job images)
