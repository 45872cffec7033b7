-- How long a frozen file is, at most.
use Rattle.std.proofs.Common.{◌≡◌, ℕ, zero, suc, ◌+◌, ◌*◌, ◌/◌, ◌≤◌, ◌==◌, ◌&&◌, ◌||◌, Bool, true, false, nat_le, List, [], ◌∷◌, ◌++◌, length, map, take, drop, subst, sym, arith, lit≤, if◌then◌else◌}
use Rattle.std.proofs.lemmas.Bool.Decides.{nat_tests}
use Rattle.std.proofs.lemmas.List.{length-append, length-take, map-append}
use Rattle.gba_console.specs.Machine.{Machine}
use Rattle.gba_flash.specs.Flash.{is_flash}
use Rattle.gba_frozen.specs.Lines.{Said, Values, WaveBytes, all_zero}
use Rattle.gba_frozen.specs.Places.{memory_length}
use Rattle.gba_frozen.specs.Rows.{count_of}
use Rattle.gba_frozen.specs.declared.places.MemoryPlace.{MemoryPlace}
use Rattle.gba_frozen.specs.declared.rows.Row.{Row}
use Rattle.gba_frozen.specs.declared.rows.Row.TheVariants as row
use Rattle.gba_frozen_print.specs.Printed.{digest_text, end_text, ended, signal_text, version_text}
use Rattle.gba_frozen_text.specs.Memories.{memories, rows_in, rows_of, rows_of_all}
use Rattle.gba_frozen_text.specs.Text.{board_rows, console_says, drawn_of, last_rows, memory_of, numbers_say, processor_rows, queue_of, row_of, row_values, rows_behind, said_line, says_text, text_of, tone_rows}
use Rattle.gba_image.proofs.Lengths.{longest_backup}
use Rattle.gba_image.specs.declared.backup.Backup.{Backup}
use Rattle.gba_io.specs.Drawing.{lines_drawn}
use Rattle.gba_numbers.specs.Numbers.{ConsoleNumbers, value_of}
use Rattle.gba_numbers.specs.declared.fields.BoardField.TheVariants as board
use Rattle.gba_numbers.specs.declared.fields.Field.TheVariants as console
use Rattle.gba_numbers.specs.declared.names.MemoryName.{MemoryName}
use Rattle.gba_numbers.specs.declared.names.MemoryName.TheVariants as memory
use Rattle.gba_ppu_reg.specs.declared.position.Position.{Position}
use Rattle.gba_snapshot.proofs.Lines.{says-append}
use Rattle.gba_snapshot.specs.Console.{backup_in, colours_of, console_text, draft_of, drawn_from, memory_bytes}
use Rattle.gba_snapshot.specs.File.{consoles_text, frozen_file, signals_text}
use Rattle.gba_snapshot.specs.Snapshot.{numbers_of}
use Rattle.gba_thaw_laws.proofs.Bytes.{colours-long}
use Rattle.gba_thaw_laws.specs.Cut.{AreReady}
use Rattle.gba_thaw_laws.specs.Holds.{Holds}
use Rattle.link_order.specs.declared.sent.Sent.{Sent}
use Rattle.gba_freeze_laws.specs.Length.{FrozenFilesAreShort}
use Rattle.gba_freeze_laws.proofs.LineLengths.{digest-short, drawn-short, ended-long, memory-short, queue-short, row-few, row-short, signal-short, wave-short}

-- ---- lines, one behind another

-- the text of these lines has at most so many bytes
record IsWithin (most : ℕ) (says : List Said) : Type 0 where
  few : length (says_text says) ≤ most

none : IsWithin 0 []
unfolding text_of
none = record { few = omega arith }

one-more : {most rest : ℕ} {says : List Said} → (said : Said) → length (said_line said) + 1 ≤ most → IsWithin rest says
    → IsWithin (most + rest) (said ∷ says)
unfolding text_of
one-more {most} {rest} {says} said here behind =
    let few = behind.few in
    record {
      few =
          omega (
            arith,
            length-append (ended (said_line said)) (says_text says),
            ended-long (said_line said),
            here,
            few,
          );
    }

both : {most rest : ℕ} {says others : List Said} → IsWithin most says → IsWithin rest others
    → IsWithin (most + rest) (says ++ others)
both {most} {rest} {says} {others} front behind =
    let one = front.few in
    let two = behind.few in
    record {
      few =
          subst (λ (text : List ℕ). length text ≤ most + rest) (sym (says-append says others))
          (omega (arith, length-append (says_text says) (says_text others), one, two));
    }

more : {most : ℕ} {says : List Said} → (greater : ℕ) → most ≤ greater → IsWithin most says → IsWithin greater says
more greater below within = let few = within.few in record { few = omega (arith, below, few) }

-- ---- a console

row-within : (n : ConsoleNumbers) (which : Row) → length (said_line (row_of n which)) + 1 ≤ 1000
unfolding said_line
row-within n which = omega (arith, row-short which (row_values which 0 (count_of which) n) (row-few which n))

rows-within : (n : ConsoleNumbers) (rows : List Row) → IsWithin (1000 * length rows) (map (row_of n) rows)
rows-within n [] = none
rows-within n (which ∷ rows) =
    more (1000 * length (which ∷ rows)) (omega arith)
    (one-more {most = 1000} (row_of n which) (row-within n which) (rows-within n rows))

bytes-within : (place : MemoryPlace) (bytes : List ℕ) → length (said_line (memory_of (place, take 32 bytes))) + 1 ≤ 100
unfolding said_line
bytes-within place bytes =
    let few : length (take 32 bytes) ≤ 32 = omega (arith, length-take 32 bytes) in
    omega (arith, memory-short place (take 32 bytes) few)

memory-within : (name : MemoryName) (offset count : ℕ) (bytes : List ℕ)
    → IsWithin (100 * count) (map memory_of (rows_in name offset count bytes))
unfolding rows_in
memory-within name offset zero bytes = none
memory-within name offset (suc count) bytes =
    by_test (all_zero (take 32 bytes)) (memory-within name (offset + 32) count (drop 32 bytes))
  where
    next : List (MemoryPlace × List ℕ)
    next = rows_in name (offset + 32) count (drop 32 bytes)

    place : MemoryPlace
    place = record { name = name; offset = offset }

    by_test : (zeros : Bool) → IsWithin (100 * count) (map memory_of next)
        → IsWithin (100 * suc count) (map memory_of (if zeros then next else (place, take 32 bytes) ∷ next))
    by_test true rest = more (100 * suc count) (omega arith) rest
    by_test false rest =
        more (100 * suc count) (omega arith)
        (one-more {most = 100} (memory_of (place, take 32 bytes)) (bytes-within place bytes) rest)

-- no memory has more than 8,192 lines
longest-memory : (backup : Backup) (name : MemoryName) → memory_length backup name ≤ 0x40000
longest-memory backup memory.Io = lit≤ tt
longest-memory backup memory.Wram = lit≤ tt
longest-memory backup memory.Iwram = lit≤ tt
longest-memory backup memory.Palette = lit≤ tt
longest-memory backup memory.Vram = lit≤ tt
longest-memory backup memory.Oam = lit≤ tt
longest-memory backup memory.Backup = omega (arith, longest_backup backup)

memories-within : (backup : Backup) (bytes : MemoryName → List ℕ) (names : List MemoryName)
    → IsWithin (819200 * length names) (map memory_of (rows_of_all backup bytes names))
unfolding rows_of rows_of_all
memories-within backup bytes [] = none
memories-within backup bytes (name ∷ names) =
    subst (IsWithin (819200 * length (name ∷ names)))
    (sym (map-append memory_of (rows_of backup bytes name) (rows_of_all backup bytes names)))
    (more (819200 * length (name ∷ names)) (omega (arith, longest-memory backup name))
    (both (memory-within name 0 (memory_length backup name / 32) (bytes name)) (memories-within backup bytes names)))

line-within : (line : ℕ) (bytes : List ℕ) → length (said_line (drawn_of (line, colours_of bytes))) + 1 ≤ 1041
unfolding said_line
line-within line bytes = omega (arith, drawn-short line (colours_of bytes) (colours-long bytes))

-- the drawn lines
drawn-within : (line : ℕ) (lines : List (List ℕ))
    → IsWithin (1041 * length lines) (map drawn_of (drawn_from line lines))
unfolding drawn_from
drawn-within line [] = none
drawn-within line (bytes ∷ lines) =
    more (1041 * length (bytes ∷ lines)) (omega arith)
    (one-more {most = 1041} (drawn_of (line, colours_of bytes)) (line-within line bytes)
    (drawn-within (line + 1) lines))

queue-within : (n : ConsoleNumbers) (queue : ℕ) (bytes : List ℕ) → length bytes ≤ 32
    → length (said_line (queue_of n queue bytes)) + 1 ≤ 1000
unfolding said_line
queue-within n queue bytes few =
    omega (arith, queue-short queue (value_of (console.Board (board.QueueCurrent queue)) n) bytes few)

wave-within : (bank : ℕ) (bytes : List ℕ) → length bytes ≡ 16 → length (said_line (WaveBytes bank bytes)) + 1 ≤ 1000
unfolding said_line
wave-within bank bytes long = omega (arith, wave-short bank bytes long)

heading-within : (which : Row) → length (said_line (Values which [])) + 1 ≤ 1000
unfolding said_line
heading-within which = omega (arith, row-short which [] (omega arith))

few-drawn : (p : Position) → lines_drawn p ≤ 159
few-drawn p = by_place p.line p.dot where
  by_place : (line dot : ℕ)
      → (if nat_le 160 line || ((line == 159) && nat_le 1006 dot) then 0
      else if nat_le 1006 dot then line + 1 else line)
      ≤ 159
  by_place line dot = grind (arith, nat_tests)

-- two lines, 47 and 5 and 5 rows, two queues and two banks of the wave
numbers-within : (player : ℕ) (m : Machine) → Holds m → IsWithin 70000 (numbers_say player (numbers_of m))
unfolding numbers_say numbers_of processor_rows tone_rows board_rows
numbers-within player m holds =
    let n = numbers_of m in
    let sound = holds.devices.sound in
    let wave = holds.devices.tones in
    more 70000 (omega arith)
    (one-more {most = 1000} (Values row.Heading []) (heading-within row.Heading)
    (one-more {most = 1000} (Values (row.Console player) []) (heading-within (row.Console player))
    (both (both (both (both (rows-within n processor_rows)
    (one-more {most = 1000} (queue_of n 0 n.queue_a) (queue-within n 0 n.queue_a sound.queue_a.few)
    (one-more {most = 1000} (queue_of n 1 n.queue_b) (queue-within n 1 n.queue_b sound.queue_b.few) none)))
    (rows-within n tone_rows))
    (one-more {most = 1000} (WaveBytes 0 n.wave0) (wave-within 0 n.wave0 wave.bank0.long)
    (one-more {most = 1000} (WaveBytes 1 n.wave1) (wave-within 1 n.wave1 wave.bank1.long) none)))
    (rows-within n board_rows))))

behind-few : (backup : Backup) → length (rows_behind backup) ≤ 4
unfolding last_rows
behind-few backup = by_test (is_flash backup) where
  by_test : (flash : Bool) → length (if flash then row.Flash ∷ last_rows else last_rows) ≤ 4
  by_test true = lit≤ tt
  by_test false = lit≤ tt

console-short : (player : ℕ) (m : Machine) → Holds m → length (console_text player m) ≤ 6000000
unfolding console_says draft_of
console-short player m holds =
    let n = numbers_of m in
    let backup = backup_in m in
    let few = few-drawn m.board.core.devices.place in
    let drawn = holds.drawn in
    let within : IsWithin 6000000 (console_says backup player (draft_of m)) =
    more 6000000 (omega (arith, few, drawn, behind-few backup))
    (both (both (both (numbers-within player m holds)
    (memories-within backup (memory_bytes m.board.core) memories))
    (rows-within n (rows_behind backup)))
    (drawn-within 0 m.board.core.lines)) in
    within.few

-- ---- the file

consoles-short : (until player : ℕ) (starts ms : List Machine) → AreReady until starts ms
    → length (consoles_text player ms) ≤ 6000000 * length ms
unfolding AreReady consoles_text
consoles-short until player [] [] ready = omega arith
consoles-short until player [] (m ∷ ms) ready = absurd ready
consoles-short until player (start ∷ starts) [] ready = omega arith
consoles-short until player (start ∷ starts) (m ∷ ms) ready =
    omega (
      arith,
      length-append (console_text player m) (consoles_text (player + 1) ms),
      console-short player m ready.0.holds,
      consoles-short until (player + 1) starts ms ready.1,
    )

signals-short : (sent : List Sent) → length (signals_text sent) ≤ 151 * length sent
unfolding signals_text
signals-short [] = omega arith
signals-short (one ∷ sent) =
    omega (
      arith,
      length-append (ended (signal_text one.sender one.signal)) (signals_text sent),
      ended-long (signal_text one.sender one.signal),
      signal-short one.sender one.signal,
      signals-short sent,
    )

pub files-short : FrozenFilesAreShort
unfolding frozen_file
files-short digest until start cut long can =
    let consoles = consoles_text 0 cut.consoles in
    let signals = signals_text cut.sent in
    let few = can.few in
    let sent = can.signals in
    omega (
      arith,
      length-append (ended version_text) (ended (digest_text digest) ++ (consoles ++ (signals ++ ended end_text))),
      length-append (ended (digest_text digest)) (consoles ++ (signals ++ ended end_text)),
      length-append consoles (signals ++ ended end_text),
      length-append signals (ended end_text),
      ended-long (digest_text digest),
      digest-short digest long,
      consoles-short until 0 start.consoles cut.consoles can.consoles,
      signals-short cut.sent,
      few,
      sent,
    )
