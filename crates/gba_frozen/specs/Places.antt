-- Where a line stands: which line of a console, or of the file, may stand there, and which one follows.
use Rattle.std.specs.Prelude.{ℕ, ◌+◌, ◌%◌, ◌==◌, Bool, true, false, not, ◌&&◌, ◌||◌, nat_lt, List, [], ◌∷◌, codes, slice_index_or, Option, Some, None, if◌then◌else◌}
use Rattle.std.specs.Str.{bytes_eq}
use Rattle.gba_flash.specs.Flash.{is_flash}
use Rattle.gba_image.specs.Backups.{backup_length}
use Rattle.gba_image.specs.declared.backup.Backup.{Backup}
use Rattle.gba_image.specs.declared.backup.Backup.TheVariants.{Sram}
use Rattle.gba_numbers.specs.declared.names.MemoryName.{MemoryName}
use Rattle.gba_numbers.specs.declared.names.MemoryName.TheVariants as memory
use Rattle.gba_frozen.specs.Rows.{is_row}
use Rattle.gba_frozen.specs.declared.kinds.Setup.{Setup}
use Rattle.gba_frozen.specs.declared.places.MemoryPlace.{MemoryPlace}
use Rattle.gba_frozen.specs.declared.places.Place.{Place}
use Rattle.gba_frozen.specs.declared.places.Slot.{Slot}
use Rattle.gba_frozen.specs.declared.places.Slot.TheVariants.{Version, Digest, Fixed, Queue, Wave, Memory, Drawn, Signals, End, Past}
use Rattle.gba_frozen.specs.declared.rows.Row.{Row}
use Rattle.gba_frozen.specs.declared.rows.Row.TheVariants as row

-- what keeps the saves of a player's console
abbrev pub backup_of : Setup → ℕ → Backup
backup_of setup player = slice_index_or setup.backups player Sram

-- whether the numbers in a place are ones of a player, a row, a queue and a bank
unfoldable pub is_slot : Slot → Bool
is_slot (Fixed which) = is_row which
is_slot (Queue queue) = nat_lt queue 2
is_slot (Wave bank) = nat_lt bank 2
is_slot _ = true

abbrev pub is_place : Place → Bool
is_place at = nat_lt at.player 4 && is_slot at.slot

-- the first line
abbrev pub first_place : Place
first_place = record { player = 0; slot = Version }

abbrev pub placed : ℕ → Slot → Place
placed player slot = record { player = player; slot = slot }

-- what follows the fixed lines of a player's console
unfoldable pub after_row : ℕ → Row → Slot
after_row player row.Heading = Fixed (row.Console player)
after_row player (row.Console _) = Fixed row.Clock
after_row player row.Clock = Fixed row.Halted
after_row player row.Halted = Fixed (row.Register 0)
after_row player (row.Register register) =
    Fixed (if nat_lt register 36 then row.Register (register + 1) else row.Timer 0)
after_row player (row.Timer timer) = Fixed (if nat_lt timer 3 then row.Timer (timer + 1) else row.Dma 0)
after_row player (row.Dma channel) = if nat_lt channel 3 then Fixed (row.Dma (channel + 1)) else Queue 0
after_row player row.Sequencer = Fixed (row.Tone 1)
after_row player (row.Tone tone) = if nat_lt tone 4 then Fixed (row.Tone (tone + 1)) else Wave 0
after_row player row.Position = Fixed (row.Affine 2)
after_row player (row.Affine background) = Fixed (if background == 2 then row.Affine 3 else row.Serial)
after_row player row.Serial = Fixed row.Known
after_row player row.Known = Memory None
after_row player row.Flash = Fixed row.Was
after_row player row.Was = Fixed row.Applied
after_row player row.Applied = Fixed row.Counts
after_row player row.Counts = Drawn None

-- behind the memories stands the line of the flash, where there is one
abbrev pub after_memories : Backup → Slot
after_memories backup = Fixed (if is_flash backup then row.Flash else row.Was)

-- behind the drawn lines stands the next console, or the signals
abbrev pub after_console : ℕ → ℕ → Place
after_console consoles player =
    if nat_lt (player + 1) consoles then placed (player + 1) (Fixed row.Heading) else placed player Signals

-- the place behind one, where no further line of its kind follows
unfoldable pub next_by : Setup → ℕ → Slot → Place
next_by setup player Version = placed player Digest
next_by setup player Digest = placed player (Fixed row.Heading)
next_by setup player (Fixed which) = placed player (after_row player which)
next_by setup player (Queue queue) = placed player (if queue == 0 then Queue 1 else Fixed row.Sequencer)
next_by setup player (Wave bank) = placed player (if bank == 0 then Wave 1 else Fixed row.Position)
next_by setup player (Memory _) = placed player (after_memories (backup_of setup player))
next_by setup player (Drawn _) = after_console setup.consoles player
next_by setup player Signals = placed player End
next_by setup player End = placed player Past
next_by setup player Past = placed player Past

abbrev pub next_place : Setup → Place → Place
next_place setup at = next_by setup at.player at.slot

-- the first word of a line
abbrev pub first_word : List (List ℕ) → List ℕ
first_word [] = []
first_word (word ∷ _) = word

-- whether a line may stand there any number of times, and this one doesn't
unfoldable pub is_left : Slot → List (List ℕ) → Bool
is_left (Memory _) words = not (bytes_eq (first_word words) (codes "mem"))
is_left (Drawn _) words = not (bytes_eq (first_word words) (codes "drawn"))
is_left Signals words = not (bytes_eq (first_word words) (codes "signal"))
is_left _ words = false

abbrev pub left_for : Setup → List (List ℕ) → Place → Place
left_for setup words at = if is_left at.slot words then next_place setup at else at

-- the place of a line: behind the last drawn line of all may stand neither a drawn line nor a signal, so twice
abbrev pub place_for : Setup → List (List ℕ) → Place → Place
place_for setup words at = left_for setup words (left_for setup words at)

-- the order of the memories, and how many bytes each has
abbrev pub memory_order : MemoryName → ℕ
memory_order memory.Io = 0
memory_order memory.Wram = 1
memory_order memory.Iwram = 2
memory_order memory.Palette = 3
memory_order memory.Vram = 4
memory_order memory.Oam = 5
memory_order memory.Backup = 6

abbrev pub memory_length : Backup → MemoryName → ℕ
memory_length backup memory.Io = 0x400
memory_length backup memory.Wram = 0x40000
memory_length backup memory.Iwram = 0x8000
memory_length backup memory.Palette = 0x400
memory_length backup memory.Vram = 0x18000
memory_length backup memory.Oam = 0x400
memory_length backup memory.Backup = backup_length backup

-- whether a line of memory stands behind another one: another memory, or the same one higher up
unfoldable pub is_behind : Option MemoryPlace → MemoryPlace → Bool
is_behind None next = true
is_behind (Some last) next =
    nat_lt (memory_order last.name) (memory_order next.name)
    || ((memory_order last.name == memory_order next.name) && nat_lt last.offset next.offset)

-- whether 32 bytes of a memory begin at an offset
unfoldable pub is_row_place : Backup → MemoryPlace → Bool
is_row_place backup place = (place.offset % 32 == 0) && nat_lt place.offset (memory_length backup place.name)

-- whether a drawn line stands behind another one
unfoldable pub is_below : Option ℕ → ℕ → Bool
is_below None line = true
is_below (Some last) line = nat_lt last line
