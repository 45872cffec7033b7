-- What is held of a console with one line more.
use Rattle.std.proofs.Common.{◌≡◌, ◌≤◌, ℕ, ◌+◌, ◌++◌, List, [], ◌∷◌, length, true, ap, subst, arith}
use Rattle.gba_image.specs.declared.backup.Backup.{Backup}
use Rattle.gba_numbers.specs.Numbers.{ConsoleNumbers}
use Rattle.gba_frozen.specs.Lines.{Said, Nothing, Values, QueueBytes, WaveBytes, MemoryBytes, Colours, Live}
use Rattle.gba_frozen.specs.Places.{backup_of, is_row_place}
use Rattle.gba_frozen.specs.Reading.{ConsoleDraft, wave_byte, with_line_of, with_queue_line, with_values}
use Rattle.gba_frozen.specs.Reading as reading
use Rattle.gba_frozen.specs.declared.kinds.Setup.{Setup}
use Rattle.gba_frozen.specs.declared.places.MemoryPlace.{MemoryPlace}
use Rattle.gba_frozen_read.specs.Thawed.{SaidFits}
use Rattle.gba_frozen.specs.declared.rows.Row.{Row}
use Rattle.link_node.specs.declared.signal.Signal.{Signal}
use Rattle.gba_filling.specs.Consoles.{IsFilled}
use Rattle.gba_filling.specs.Drawn.{AreLines, DrawnLines}
use Rattle.gba_filling.specs.Memories.{bytes_of, with_memory}
use Rattle.gba_filling.specs.Loose.{LooseConsole, with_numbers}
use Rattle.gba_filling.proofs.MemoryPuts.{put-more, row-within}

pub nothing-kept : (backup : Backup) (draft : ConsoleDraft) (f : LooseConsole) (said : Said) → said ≡ Nothing
    → IsFilled backup draft f
    → IsFilled backup (with_line_of said draft) f
unfolding with_line_of
nothing-kept backup draft f said is h = rw is h

pub live-kept : (backup : Backup) (draft : ConsoleDraft) (f : LooseConsole) (said : Said) (sender : ℕ) (signal : Signal)
    → said ≡ Live sender signal → IsFilled backup draft f → IsFilled backup (with_line_of said draft) f
unfolding with_line_of
live-kept backup draft f said sender signal is h = rw is h

pub row-kept : (backup : Backup) (draft : ConsoleDraft) (f new : LooseConsole) (said : Said) (which : Row)
    (values : List ℕ) → said ≡ Values which values → new ≡ with_numbers (with_values which 0 values f.numbers) f
    → IsFilled backup draft f
    → IsFilled backup (with_line_of said draft) new
unfolding with_line_of
row-kept backup draft f new said which values is e h = rw (is, e) (record {
  numbers = ap (with_values which 0 values) h.numbers;
  memories = h.memories;
  drawn = h.drawn;
})

pub queue-kept : (backup : Backup) (draft : ConsoleDraft) (f new : LooseConsole) (said : Said) (queue current : ℕ)
    (bytes : List ℕ) → said ≡ QueueBytes queue current bytes
    → new ≡ with_numbers (with_queue_line queue current bytes f.numbers) f
    → IsFilled backup draft f → IsFilled backup (with_line_of said draft) new
unfolding with_line_of
queue-kept backup draft f new said queue current bytes is e h = rw (is, e) (record {
  numbers = ap (λ (m : ConsoleNumbers). with_queue_line queue current bytes m) h.numbers;
  memories = h.memories;
  drawn = h.drawn;
})

pub wave-kept : (backup : Backup) (draft : ConsoleDraft) (f new : LooseConsole) (said : Said) (bank : ℕ)
    (bytes : List ℕ) → said ≡ WaveBytes bank bytes
    → new ≡ with_numbers (reading.with_bytes (wave_byte bank) 0 bytes f.numbers) f
    → IsFilled backup draft f → IsFilled backup (with_line_of said draft) new
unfolding with_line_of
wave-kept backup draft f new said bank bytes is e h = rw (is, e) (record {
  numbers = ap (reading.with_bytes (wave_byte bank) 0 bytes) h.numbers;
  memories = h.memories;
  drawn = h.drawn;
})

-- what is said of a memory is in its ranges
fits-memory : (setup : Setup) (player : ℕ) (said : Said) (place : MemoryPlace) (bytes : List ℕ)
    → said ≡ MemoryBytes place bytes
    → SaidFits setup player said → (is_row_place (backup_of setup player) place ≡ true) × (length bytes ≡ 32)
fits-memory setup player said place bytes is fits = subst (λ (s : Said). SaidFits setup player s) is fits

pub memory-within : (setup : Setup) (player : ℕ) (draft : ConsoleDraft) (f : LooseConsole) (said : Said)
    (place : MemoryPlace) (bytes : List ℕ)
    → said ≡ MemoryBytes place bytes → SaidFits setup player said → IsFilled (backup_of setup player) draft f
    → place.offset + length bytes ≤ length (bytes_of place.name f.memories)
memory-within setup player draft f said place bytes is fits h =
    let both = fits-memory setup player said place bytes is fits in
    let within = row-within (backup_of setup player) place draft.memory f.memories h.memories both.0 in
    omega (arith, both.1)

pub memory-kept : (setup : Setup) (player : ℕ) (draft : ConsoleDraft) (f new : LooseConsole) (said : Said)
    (place : MemoryPlace) (bytes : List ℕ) → said ≡ MemoryBytes place bytes
    → new ≡ record f { memories = with_memory place bytes f.memories }
    → SaidFits setup player said → IsFilled (backup_of setup player) draft f
    → IsFilled (backup_of setup player) (with_line_of said draft) new
unfolding with_line_of
memory-kept setup player draft f new said place bytes is e fits h =
    let both = fits-memory setup player said place bytes is fits in
    rw (is, e) (record {
      numbers = h.numbers;
      memories = put-more (backup_of setup player) draft.memory place bytes f.memories both.1 both.0 h.memories;
      drawn = h.drawn;
    })

pub drawn-kept : (backup : Backup) (draft : ConsoleDraft) (f : LooseConsole) (said : Said) (line : ℕ) (colours : List ℕ)
    (drawn : DrawnLines)
    → said ≡ Colours line colours → AreLines (draft.drawn ++ (line, colours) ∷ []) drawn → IsFilled backup draft f
    → IsFilled backup (with_line_of said draft) (record f { drawn = drawn })
unfolding with_line_of
drawn-kept backup draft f said line colours drawn is e h =
    rw is (record { numbers = h.numbers; memories = h.memories; drawn = e })
