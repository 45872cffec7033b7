-- What a frozen file comes to: the consoles of its job on their cable.
use Rattle.std.specs.Prelude.{ℕ, Bool, ◌&&◌, nat_le, not, List, [], ◌∷◌, length, map, replicate, Option, Some, None, Result, slice_index_or, if◌then◌else◌}
use Rattle.gba_console.specs.Alone.{console_kind}
use Rattle.gba_console.specs.Machine.{Machine, without_limit}
use Rattle.gba_filling.specs.Drawn.{DrawnLines, are_numbered, bytes_of_line}
use Rattle.gba_filling.specs.Signals.{most_signals, sent_of}
use Rattle.gba_frozen.specs.Places.{memory_length}
use Rattle.gba_frozen.specs.Reading.{ConsoleDraft, Draft, frozen_language}
use Rattle.gba_frozen.specs.declared.kinds.Setup.{Setup}
use Rattle.gba_frozen.specs.declared.kinds.ThawKind.{ThawKind}
use Rattle.gba_frozen.specs.declared.places.MemoryPlace.{MemoryPlace}
use Rattle.gba_frozen_text.specs.Memories.{with_rows}
use Rattle.gba_image.specs.declared.backup.Backup.{Backup}
use Rattle.gba_image.specs.declared.backup.Backup.TheVariants.{Sram}
use Rattle.gba_snapshot.specs.Console.{backup_in}
use Rattle.gba_text.specs.Languages.{answer_of}
use Rattle.gba_text.specs.declared.kinds.LineError.{LineError}
use Rattle.gba_thaw.specs.Console.{MemoryBytes, console_thawed}
use Rattle.link_core.specs.Whole.{is_whole}
use Rattle.link_node.specs.declared.delays.Delays.{Delays}
use Rattle.link_order.specs.Cut.{Cut, plain_cut}
use Rattle.link_order.specs.declared.sent.Sent.{Sent}

-- the memories that lines make of bytes 0, and the drawn lines
abbrev pub memories_read : Backup → List (MemoryPlace × List ℕ) → MemoryBytes
memories_read backup rows name = with_rows name rows (replicate (memory_length backup name) 0)

abbrev pub lines_read : List (ℕ × List ℕ) → DrawnLines
lines_read drawn = record { lines = map bytes_of_line drawn; has_gap = not (are_numbered 0 drawn) }

-- the console of what is said of it
abbrev pub draft_thawed : ℕ → Machine → ConsoleDraft → Option Machine
draft_thawed until m d =
    console_thawed until m d.numbers (memories_read (backup_in m) d.memory) (lines_read d.drawn)

-- the consoles, if there is each of them
abbrev pub in_front : {A : Type 0} → Option A → Option (List A) → Option (List A)
in_front (Some one) (Some rest) = Some (one ∷ rest)
in_front _ _ = None

unfoldable pub consoles_thawed : ℕ → List Machine → List ConsoleDraft → Option (List Machine)
consoles_thawed until [] ds = Some []
consoles_thawed until (m ∷ ms) [] = None
consoles_thawed until (m ∷ ms) (d ∷ ds) = in_front (draft_thawed until m d) (consoles_thawed until ms ds)

-- The consoles with these signals, if a run can go on from them: they are sound and in time, and the signals can still
-- be taken and stand in their order. No more signals than that can be on their way.
abbrev pub joined : Delays → List Sent → List Machine → Cut Machine
joined delays sent machines = record { consoles = machines; delays = delays; sent = sent }

abbrev pub can_run : Cut Machine → Bool
can_run cut = nat_le (length cut.sent) most_signals && is_whole console_kind (plain_cut without_limit cut)

abbrev pub cut_if : Delays → List Sent → Option (List Machine) → Option (Cut Machine)
cut_if delays sent None = None
cut_if delays sent (Some machines) =
    if can_run (joined delays sent machines) then Some (joined delays sent machines) else None

-- What the lines of a frozen file come to, in a job of so many cycles whose consoles stand at their start.
unfoldable pub whole_of : ℕ → Cut Machine → Draft → Option (Cut Machine)
whole_of until start d =
    cut_if start.delays (map sent_of d.sent) (consoles_thawed until start.consoles d.consoles)

-- what a frozen file is read for: the job of this digest and of so many cycles, with these consoles
abbrev pub backup_at : ℕ → List Machine → Backup
backup_at player machines = slice_index_or (map backup_in machines) player Sram

abbrev pub setup_of : List ℕ → ℕ → List Machine → Setup
setup_of digest until machines = record {
  consoles = length machines;
  backups = backup_at 0 machines ∷ backup_at 1 machines ∷ backup_at 2 machines ∷ backup_at 3 machines ∷ [];
  digest = digest;
  until = until;
}

-- A frozen file's consoles on their cable, or its refusal, in a job of this digest and of so many cycles whose consoles
-- stand at their start.
abbrev pub thaw_of : List ℕ → ℕ → Cut Machine → List ℕ → Result (Cut Machine) (LineError ThawKind)
thaw_of digest until start bytes =
    answer_of (frozen_language (setup_of digest until start.consoles) (whole_of until start)) bytes
