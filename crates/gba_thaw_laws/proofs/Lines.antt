-- What the lines of a frozen file say of a console.
use Rattle.std.proofs.Common.{◌≡◌, ℕ, suc, ◌+◌, ◌<◌, ◌≤◌, ◌==◌, ◌∙◌, ap, true, not, ◌&&◌, ◌||◌, nat_le, List, [], ◌∷◌, length, map, replicate, Option, Some, None, option_map, slice_index_or, if◌then◌else◌, refl, arith, lt-ltb, eq-eqb}
use Rattle.std.proofs.lemmas.Bool.Decides.{nat_tests}
use Rattle.gba_console.specs.Machine.{Machine}
use Rattle.gba_console.specs.Shorn.{shorn}
use Rattle.gba_filling.specs.Drawn.{are_numbered, bytes_of_line}
use Rattle.gba_frozen.specs.Places.{is_below, memory_length}
use Rattle.gba_frozen_print.specs.Laws.{AreBelow}
use Rattle.gba_frozen_text.specs.Laws.{AreDrawn}
use Rattle.gba_frozen_text.specs.Memories.{AreMemories, memory_rows, with_rows}
use Rattle.gba_frozen_text.proofs.MemoryRows.{memories-again}
use Rattle.gba_image.specs.declared.backup.Backup.{Backup}
use Rattle.gba_io.specs.Drawing.{lines_drawn}
use Rattle.gba_numbers.specs.declared.names.MemoryName.{MemoryName}
use Rattle.gba_numbers.specs.declared.names.MemoryName.TheVariants as memory
use Rattle.gba_ppu_reg.specs.declared.position.Position.{Position}
use Rattle.gba_snapshot.specs.Console.{HaveLengths, backup_in, draft_of, drawn_from, memory_bytes}
use Rattle.gba_snapshot.specs.Snapshot.{numbers_of}
use Rattle.gba_thaw.specs.Console.{console_thawed}
use Rattle.gba_thaw.specs.Cut.{lines_read, memories_read}
use Rattle.gba_thaw_laws.specs.Holds.{Holds}
use Rattle.gba_thaw_laws.specs.Laws.{drawn_of}
use Rattle.gba_device_laws.specs.Holding.{HasBytes}
use Rattle.gba_thaw_laws.specs.Text.{IsSpelled, LinesStand, LinesThawAgain, MemoriesHold}
use Rattle.gba_thaw_laws.proofs.Bytes.{below-bytes, colours-again, colours-below, colours-long, io-below}
use Rattle.gba_thaw_laws.proofs.Console.{thaws-again}
use Rattle.gba_thaw_laws.proofs.Spelled.{are-frozen}

-- ---- the drawn lines

abbrev AllHold : List (List ℕ) → Type 0
AllHold lines = (line : ℕ) → line < length lines → HasBytes 480 (slice_index_or lines line [])

numbered : (line : ℕ) (lines : List (List ℕ)) → are_numbered line (drawn_from line lines) ≡ true
unfolding are_numbered drawn_from
numbered line [] = refl
numbered line (bytes ∷ lines) =
    let same = eq-eqb line line refl in
    let rest = numbered (line + 1) lines in
    λ i. same i && rest i

lines-again : (line : ℕ) (lines : List (List ℕ)) → AllHold lines → map bytes_of_line (drawn_from line lines) ≡ lines
unfolding drawn_from
lines-again line [] hold = refl
lines-again line (bytes ∷ lines) hold =
    let one = colours-again bytes (hold 0 (omega arith)) in
    let rest = lines-again (line + 1) lines (λ k inside. hold (suc k) (omega (arith, inside))) in
    λ i. one i ∷ rest i

lines-stand : (line : ℕ) (last : Option ℕ) (lines : List (List ℕ)) → is_below last line ≡ true
    → line + length lines ≤ 159
    → AllHold lines → AreDrawn last (drawn_from line lines)
unfolding AreDrawn drawn_from is_below
lines-stand line last [] below few hold = tt
lines-stand line last (bytes ∷ lines) below few hold = (
  colours-long bytes,
  colours-below bytes (hold 0 (omega arith)).bytes,
  omega (arith, few),
  below,
  lines-stand (line + 1) (Some line) lines (lt-ltb line (line + 1) (omega arith)) (omega (arith, few))
      (λ k inside. hold (suc k) (omega (arith, inside))),
)

few-by : (line dot : ℕ)
    → (if nat_le 160 line || ((line == 159) && nat_le 1006 dot) then 0 else if nat_le 1006 dot then line + 1 else line)
    ≤ 159
few-by line dot = grind (arith, nat_tests)

few-drawn : (p : Position) → lines_drawn p ≤ 159
few-drawn p = few-by p.line p.dot

first-below : (line : ℕ) → is_below None line ≡ true
unfolding is_below
first-below line = refl

-- ---- the memories

memories-long : (m : Machine) → HaveLengths m.board.core → (name : MemoryName)
    → length (memory_bytes m.board.core name) ≡ memory_length (backup_in m) name
memories-long m h memory.Io = h.io
memories-long m h memory.Wram = h.work
memories-long m h memory.Iwram = h.inner
memories-long m h memory.Palette = h.palette
memories-long m h memory.Vram = h.vram
memories-long m h memory.Oam = h.oam
memories-long m h memory.Backup = h.backup

memories-small : (m : Machine) → Holds m → MemoriesHold m.board.core.memory → (name : MemoryName)
    → AreBelow 2 (memory_bytes m.board.core name)
memories-small m holds h memory.Io = io-below 512 m.board.core holds.serial
memories-small m holds h memory.Wram = below-bytes _ h.work
memories-small m holds h memory.Iwram = below-bytes _ h.inner
memories-small m holds h memory.Palette = below-bytes _ h.palette
memories-small m holds h memory.Vram = below-bytes _ h.vram
memories-small m holds h memory.Oam = below-bytes _ h.oam
memories-small m holds h memory.Backup = below-bytes _ h.backup

are-memories : (m : Machine) → Holds m → IsSpelled m → AreMemories (backup_in m) (memory_bytes m.board.core)
are-memories m holds spelled = record {
  long = memories-long m holds.lengths;
  small = memories-small m holds spelled.memories;
}

-- ---- all lines

pub lines-of-console-stand : LinesStand
unfolding draft_of
lines-of-console-stand until m holds spelled early =
    let few = few-drawn m.board.core.devices.place in
    record {
      numbers = are-frozen until m holds spelled early;
      memory = memories-again.stand (backup_in m) (memory_bytes m.board.core) (are-memories m holds spelled);
      drawn = lines-stand 0 None m.board.core.lines (first-below 0) (omega (arith, few, holds.drawn)) spelled.lines;
    }

pub lines-thaw-again : LinesThawAgain
unfolding draft_of
lines-thaw-again until start m same holds spelled early =
    let bytes = memory_bytes m.board.core in
    let rows = memory_rows (backup_in m) bytes in
    let are = are-memories m holds spelled in
    let memories : memories_read (backup_in start) rows ≡ bytes =
    (λ i name. (ap (λ (backup : Backup). with_rows name rows (replicate (memory_length backup name) 0)) same.kind
    ∙ memories-again.again (backup_in m) bytes name are) i) in
    let lines = lines-again 0 m.board.core.lines spelled.lines in
    let numbers = numbered 0 m.board.core.lines in
    let drawn : lines_read (drawn_from 0 m.board.core.lines) ≡ drawn_of m =
    (λ i. record { lines = lines i; has_gap = not (numbers i) }) in
    (λ i. option_map shorn (console_thawed until start (numbers_of m) (memories i) (drawn i)))
    ∙ thaws-again until start m same holds early
