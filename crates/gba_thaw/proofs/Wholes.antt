-- What is kept of a frozen file's lines comes to what they do.
use Rattle.std.proofs.Common.{◌≡◌, ℕ, ◌&&◌, Bool, true, false, List, [], ◌∷◌, None, refl, ap, sym, ◌∙◌}
use Rattle.std.specs.Prelude.{not}
use Rattle.gba_console.specs.Machine.{Machine}
use Rattle.gba_filling.specs.Consoles.{IsFilled}
use Rattle.gba_filling.specs.Drawn.{AreLines, DrawnLines, are_numbered}
use Rattle.gba_filling.specs.Memories.{bytes_of}
use Rattle.gba_filling.specs.Loose.{LooseConsole}
use Rattle.gba_frozen.specs.Reading.{ConsoleDraft}
use Rattle.gba_loose_devices.specs.Picture.{place_poured}
use Rattle.gba_ppu_reg.specs.declared.position.Position.{Position}
use Rattle.gba_numbers.specs.Numbers.{ConsoleNumbers}
use Rattle.gba_numbers.specs.declared.names.MemoryName.{MemoryName}
use Rattle.gba_numbers.specs.declared.names.MemoryName.TheVariants as memory
use Rattle.gba_snapshot.specs.Console.{backup_in}
use Rattle.gba_loose_devices.specs.Devices.{channels_poured, keys_poured}
use Rattle.gba_loose_devices.specs.Whole.{registers_poured}
use Rattle.gba_thaw.specs.Checks.{are_applied, are_drawn, are_known, has_mode, have_left, is_aligned, is_timed, runs_rightly}
use Rattle.gba_thaw.specs.Console.{MemoryBytes, can_be_made, can_go_on, console_thawed, machine_thawed, says_io, unit_thawed}
use Rattle.gba_thaw.specs.Cut.{consoles_thawed, draft_thawed, lines_read, memories_read}
use Rattle.gba_thaw.proofs.Thawed.{no-console, second-false}
use Rattle.gba_thaw.specs.Loose.{AllHaveLengths, all_thawed, loose_thawed}

-- only the bytes of the seven memories count
bytes-count : (until : ℕ) (m : Machine) (n : ConsoleNumbers) (one other : MemoryBytes) (drawn : DrawnLines)
    → ((name : MemoryName) → one name ≡ other name)
    → console_thawed until m n one drawn ≡ console_thawed until m n other drawn
unfolding console_thawed
bytes-count until m n one other drawn same =
    let io = same memory.Io in
    let work = same memory.Wram in
    let inner = same memory.Iwram in
    let palette = same memory.Palette in
    let vram = same memory.Vram in
    let oam = same memory.Oam in
    let backup = same memory.Backup in
    rw (io, work, inner, palette, vram, oam, backup) refl

-- lines with a gap are those of no place
gap-drawn : (place : Position) (drawn : DrawnLines) → drawn.has_gap ≡ true → are_drawn place drawn ≡ false
unfolding are_drawn
gap-drawn place drawn e = rw e refl

no-and : (a : Bool) → (a && false) ≡ false
no-and true = refl
no-and false = refl

falses : (a b c d e f g : Bool) → (a && b && c && false && d && e && f && g) ≡ false
falses a b c d e f g = rw (no-and (a && b && c)) refl

gap-stops : (until : ℕ) (m : Machine) (n : ConsoleNumbers) (io : List ℕ) (drawn : DrawnLines) → drawn.has_gap ≡ true
    → can_go_on until m n io drawn ≡ false
unfolding can_go_on
gap-stops until m n io drawn e =
    let lines : are_drawn (place_poured n) drawn ≡ false = gap-drawn (place_poured n) drawn e in
    rw lines (falses (is_aligned (registers_poured n)) (is_timed until n)
    (are_applied m.keys (keys_poured io).pressed n)
    (have_left (channels_poured n io)) (has_mode n (unit_thawed m n io)) (runs_rightly m.off n (unit_thawed m n io))
    (are_known (unit_thawed m n io)))

none-with : (until : ℕ) (m : Machine) (n : ConsoleNumbers) (bytes : MemoryBytes) (d : DrawnLines) → d.has_gap ≡ true
    → console_thawed until m n bytes d ≡ None
unfolding console_thawed
none-with until m n bytes d gap =
    no-console (can_be_made m n (bytes memory.Io) && can_go_on until m n (bytes memory.Io) d
    && says_io bytes (machine_thawed m n bytes d.lines))
    (machine_thawed m n bytes d.lines)
    (second-false (can_be_made m n (bytes memory.Io)) (can_go_on until m n (bytes memory.Io) d)
    (says_io bytes (machine_thawed m n bytes d.lines)) (gap-stops until m n (bytes memory.Io) d gap))

lines-by : (numbered : Bool) (until : ℕ) (m : Machine) (n : ConsoleNumbers) (bytes : MemoryBytes)
    (drawn : List (ℕ × List ℕ)) (d : DrawnLines) → are_numbered 0 drawn ≡ numbered → AreLines drawn d
    → console_thawed until m n bytes d ≡ console_thawed until m n bytes (lines_read drawn)
lines-by true until m n bytes drawn d e are =
    let same : d ≡ lines_read drawn =
    ap (λ (gap : Bool). let whole : DrawnLines = record { lines = d.lines; has_gap = gap } in whole) are.gap
    ∙ ap (λ (ls : List (List ℕ)). let whole : DrawnLines =
    record { lines = ls; has_gap = not (are_numbered 0 drawn) } in whole)
    (are.lines e) in
    ap (console_thawed until m n bytes) same
lines-by false until m n bytes drawn d e are =
    let gap : d.has_gap ≡ true = are.gap ∙ ap not e in
    let read : (lines_read drawn).has_gap ≡ true = ap not e in
    none-with until m n bytes d gap ∙ sym (none-with until m n bytes (lines_read drawn) read)

-- what is kept of a console comes to what its lines do
pub loose-comes : (until : ℕ) (m : Machine) (d : ConsoleDraft) (f : LooseConsole) → IsFilled (backup_in m) d f
    → loose_thawed until m f ≡ draft_thawed until m d
loose-comes until m d f is =
    ap (λ (n : ConsoleNumbers). console_thawed until m n (λ name. bytes_of name f.memories) f.drawn) is.numbers
    ∙ bytes-count until m d.numbers (λ name. bytes_of name f.memories) (memories_read (backup_in m) d.memory) f.drawn
    is.memories.bytes
    ∙ lines-by (are_numbered 0 d.drawn) until m d.numbers (memories_read (backup_in m) d.memory) d.drawn f.drawn refl
    is.drawn

-- so are all consoles, of which each has its draft
unfoldable pub AllMatch : List Machine → List ConsoleDraft → List LooseConsole → Type 0
AllMatch [] ds fs = Unit {0}
AllMatch (m ∷ ms) [] fs = ⊥
AllMatch (m ∷ ms) (d ∷ ds) [] = ⊥
AllMatch (m ∷ ms) (d ∷ ds) (f ∷ fs) = IsFilled (backup_in m) d f × AllMatch ms ds fs

pub all-come : (until : ℕ) (ms : List Machine) (ds : List ConsoleDraft) (fs : List LooseConsole) → AllMatch ms ds fs
    → all_thawed until ms fs ≡ consoles_thawed until ms ds
unfolding all_thawed consoles_thawed AllMatch
all-come until [] ds fs match = refl
all-come until (m ∷ ms) [] fs match = absurd match
all-come until (m ∷ ms) (d ∷ ds) [] match = absurd match
all-come until (m ∷ ms) (d ∷ ds) (f ∷ fs) match =
    let one = loose-comes until m d f match.0 in
    let rest = all-come until ms ds fs match.1 in
    rw (one, rest) refl

pub all-long : (ms : List Machine) (ds : List ConsoleDraft) (fs : List LooseConsole) → AllMatch ms ds fs
    → AllHaveLengths ms fs
unfolding AllMatch AllHaveLengths
all-long [] ds fs match = tt
all-long (m ∷ ms) [] fs match = absurd match
all-long (m ∷ ms) (d ∷ ds) [] match = absurd match
all-long (m ∷ ms) (d ∷ ds) (f ∷ fs) match = (match.0.memories.long, all-long ms ds fs match.1)
