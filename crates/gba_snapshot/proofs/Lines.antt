-- The lines of consoles, of their drawn lines and of signals, one after another.
use Rattle.std.proofs.Common.{◌≡◌, ℕ, zero, suc, ◌+◌, ◌<◌, ◌≤◌, ◌∙◌, List, [], ◌∷◌, ◌++◌, length, drop, get_or, map, slice_index, ◌/◌, ◌^◌, refl, ap, sym, subst, append_assoc, drop-cons, arith}
use Rattle.std.proofs.lemmas.List.{append-nil, length-map, map-append}
use Rattle.gba_console.specs.Alone.{console_kind}
use Rattle.gba_console.specs.Machine.{Machine, clock_of, without_limit}
use Rattle.gba_frozen.specs.Lines.{Said}
use Rattle.gba_frozen.specs.Places.{memory_length}
use Rattle.gba_frozen_print.specs.Printed.{drawn_text, ended, signal_text}
use Rattle.gba_frozen_text.specs.Memories.{memory_lines_text, memory_rows, rows_in, rows_of, rows_of_all}
use Rattle.gba_frozen_text.specs.Text.{console_says, drawn_of, memory_of, numbers_say, row_of, rows_behind, said_line, says_text, text_of}
use Rattle.gba_image.specs.declared.backup.Backup.{Backup}
use Rattle.gba_io.specs.Core.{Core}
use Rattle.gba_mem.specs.Backups.{backup_of}
use Rattle.gba_numbers.specs.declared.names.MemoryName.{MemoryName}
use Rattle.gba_numbers.specs.declared.names.MemoryName.TheVariants as memory
use Rattle.gba_snapshot.specs.Console.{HaveLengths, backup_in, colours_of, console_text, draft_of, drawn_from, lines_of_memories, memory_bytes}
use Rattle.gba_snapshot.specs.File.{consoles_text, signals_text}
use Rattle.gba_snapshot.specs.Snapshot.{numbers_of}
use Rattle.link_order.specs.Cut.{Cut, IsSound, plain_cut}
use Rattle.link_order.specs.declared.sent.Sent.{Sent}

none-left : {A : Type 0} (i : ℕ) (xs : List A) → length xs ≤ i → drop i xs ≡ []
none-left zero [] past = refl
none-left zero (x ∷ xs) past = absurd (omega (arith, past))
none-left (suc i) [] past = refl
none-left (suc i) (x ∷ xs) past = none-left i xs (omega (arith, past))

-- consoles
pub consoles-more : (machines : List Machine) (i : ℕ) (d : Machine) → i < length machines
    → consoles_text i (drop i machines)
    ≡ console_text i (get_or machines i d) ++ consoles_text (i + 1) (drop (i + 1) machines)
unfolding consoles_text
consoles-more machines i d within =
    let next : suc i ≡ i + 1 = omega arith in
    ap (consoles_text i) (drop-cons machines i d within)
    ∙ ap (λ n. console_text i (get_or machines i d) ++ consoles_text (i + 1) (drop n machines)) next

pub consoles-none : (machines : List Machine) (i : ℕ) → length machines ≤ i → consoles_text i (drop i machines) ≡ []
unfolding consoles_text
consoles-none machines i past = ap (consoles_text i) (none-left i machines past)

-- drawn lines
lines-cons : (line : ℕ) (bytes : List ℕ) (lines : List (List ℕ))
    → says_text (map drawn_of (drawn_from line (bytes ∷ lines)))
    ≡ ended (drawn_text line (colours_of bytes)) ++ says_text (map drawn_of (drawn_from (line + 1) lines))
unfolding drawn_from text_of said_line
lines-cons line bytes lines = refl

pub lines-more : (lines : List (List ℕ)) (i : ℕ) → i < length lines
    → says_text (map drawn_of (drawn_from i (drop i lines)))
    ≡ ended (drawn_text i (colours_of (get_or lines i [])))
    ++ says_text (map drawn_of (drawn_from (i + 1) (drop (i + 1) lines)))
lines-more lines i within =
    let next : suc i ≡ i + 1 = omega arith in
    ap (λ (left : List (List ℕ)). says_text (map drawn_of (drawn_from i left))) (drop-cons lines i [] within)
    ∙ lines-cons i (get_or lines i []) (drop (suc i) lines)
    ∙ ap (λ n. ended (drawn_text i (colours_of (get_or lines i [])))
    ++ says_text (map drawn_of (drawn_from (i + 1) (drop n lines)))) next

pub lines-none : (lines : List (List ℕ)) (i : ℕ) → length lines ≤ i
    → says_text (map drawn_of (drawn_from i (drop i lines))) ≡ []
unfolding drawn_from text_of
lines-none lines i past =
    ap (λ (left : List (List ℕ)). says_text (map drawn_of (drawn_from i left))) (none-left i lines past)

-- signals
pub signals-more : (sent : List Sent) (i : ℕ) (d : Sent) → i < length sent
    → signals_text (drop i sent)
    ≡ ended (signal_text (get_or sent i d).sender (get_or sent i d).signal) ++ signals_text (drop (i + 1) sent)
unfolding signals_text
signals-more sent i d within =
    let next : suc i ≡ i + 1 = omega arith in
    ap signals_text (drop-cons sent i d within)
    ∙ ap (λ n. ended (signal_text (get_or sent i d).sender (get_or sent i d).signal) ++ signals_text (drop n sent)) next

pub signals-none : (sent : List Sent) (i : ℕ) → length sent ≤ i → signals_text (drop i sent) ≡ []
unfolding signals_text
signals-none sent i past = ap signals_text (none-left i sent past)

-- the clock of a console, and that of its plain record
pub clock-at : (machines : List Machine) (k : ℕ) (d : Machine) → k < length machines
    → slice_index (map clock_of (map without_limit machines)) k ≡ clock_of (get_or machines k d)
clock-at [] k d within = absurd (omega (arith, within))
clock-at (m ∷ machines) zero d within = refl
clock-at (m ∷ machines) (suc k) d within = clock-at machines k d (omega (arith, within))

-- a signal was sent before its sender's clock
pub signal-early : (cut : Cut Machine) (sent : List Sent) (nodes : List Machine) (i : ℕ) (d : Sent) (m : Machine)
    → sent ≡ cut.sent → nodes ≡ cut.consoles → IsSound console_kind (plain_cut without_limit cut) → i < length sent
    → m ≡ get_or nodes (get_or sent i d).sender m → clock_of m ≤ 2 ^ 39 + 511 → (get_or sent i d).signal.clock < 2 ^ 40
signal-early cut sent nodes i d m same consoles sound within is few =
    let one : Sent = get_or cut.sent i d in
    let s = sound.signals i d (omega (arith, within, ap length same)) in
    let many = length-map cut.consoles without_limit in
    let at : slice_index (map clock_of (map without_limit cut.consoles)) one.sender
    ≡ clock_of (get_or cut.consoles one.sender m) =
    clock-at cut.consoles one.sender m (omega (arith, s.from_player, many)) in
    let there : m ≡ get_or cut.consoles one.sender m =
    is ∙ ap (λ (xs : List Sent). get_or nodes (get_or xs i d).sender m) same
    ∙ ap (λ (ns : List Machine). get_or ns one.sender m) consoles in
    let clock : clock_of m ≡ clock_of (get_or cut.consoles one.sender m) = ap clock_of there in
    let before : one.signal.clock < slice_index (map clock_of (map without_limit cut.consoles)) one.sender =
    s.sent_before in
    subst (λ (xs : List Sent). (get_or xs i d).signal.clock < 2 ^ 40) (sym same) (omega (arith, before, at, clock, few))

-- ---- what a console's lines say

pub says-append : (xs ys : List Said) → says_text (xs ++ ys) ≡ says_text xs ++ says_text ys
unfolding text_of
says-append [] ys = refl
says-append (x ∷ xs) ys =
    ap (λ (text : List ℕ). ended (said_line x) ++ text) (says-append xs ys)
    ∙ sym (append_assoc (ended (said_line x)) (says_text xs) (says_text ys))

-- the lines of a memory with its length are those of so many rows
rows-are : (backup : Backup) (bytes : MemoryName → List ℕ) (name : MemoryName)
    → length (bytes name) ≡ memory_length backup name
    → says_text (map memory_of (rows_of backup bytes name)) ≡ memory_lines_text name (bytes name)
unfolding rows_of
rows-are backup bytes name long =
    ap (λ n. says_text (map memory_of (rows_in name 0 (n / 32) (bytes name)))) (sym long)

rows-then : (backup : Backup) (bytes : MemoryName → List ℕ) (name : MemoryName) (names : List MemoryName)
    (rest : List ℕ) → length (bytes name) ≡ memory_length backup name
    → says_text (map memory_of (rows_of_all backup bytes names)) ≡ rest
    → says_text (map memory_of (rows_of_all backup bytes (name ∷ names))) ≡ memory_lines_text name (bytes name) ++ rest
unfolding rows_of_all
rows-then backup bytes name names rest long after =
    ap says_text (map-append memory_of (rows_of backup bytes name) (rows_of_all backup bytes names))
    ∙ says-append (map memory_of (rows_of backup bytes name)) (map memory_of (rows_of_all backup bytes names))
    ∙ ap (λ (text : List ℕ). text ++ says_text (map memory_of (rows_of_all backup bytes names)))
    (rows-are backup bytes name long)
    ∙ ap (λ (text : List ℕ). memory_lines_text name (bytes name) ++ text) after

rows-end : (backup : Backup) (bytes : MemoryName → List ℕ)
    → says_text (map memory_of (rows_of_all backup bytes [])) ≡ []
unfolding rows_of_all text_of
rows-end backup bytes = refl

-- those of all memories
pub memories-are : (b : Core) → HaveLengths b
    → says_text (map memory_of (memory_rows (backup_of b.memory.backup) (memory_bytes b)))
    ≡ lines_of_memories b ++ memory_lines_text memory.Backup (memory_bytes b memory.Backup)
memories-are b long =
    let backup = backup_of b.memory.backup in
    let bytes = memory_bytes b in
    let t : MemoryName → List ℕ = λ name. memory_lines_text name (bytes name) in
    rows-then backup bytes memory.Io _ _ long.io
    (rows-then backup bytes memory.Wram _ _ long.work
    (rows-then backup bytes memory.Iwram _ _ long.inner
    (rows-then backup bytes memory.Palette _ _ long.palette
    (rows-then backup bytes memory.Vram _ _ long.vram
    (rows-then backup bytes memory.Oam _ _ long.oam
    (rows-then backup bytes memory.Backup _ _ long.backup (rows-end backup bytes)))))))
    ∙ join-six (t memory.Io) (t memory.Wram) (t memory.Iwram) (t memory.Palette) (t memory.Vram) (t memory.Oam)
    (t memory.Backup)
  where
    join-six : (a b c d e f g : List ℕ)
        → a ++ (b ++ (c ++ (d ++ (e ++ (f ++ (g ++ [])))))) ≡ (((((a ++ b) ++ c) ++ d) ++ e) ++ f) ++ g
    join-six a b c d e f g =
        ap (λ (t : List ℕ). a ++ (b ++ (c ++ (d ++ (e ++ (f ++ t)))))) (append-nil g)
        ∙ sym (append_assoc a b (c ++ (d ++ (e ++ (f ++ g))))) ∙ sym (append_assoc (a ++ b) c (d ++ (e ++ (f ++ g))))
        ∙ sym (append_assoc ((a ++ b) ++ c) d (e ++ (f ++ g))) ∙ sym (append_assoc (((a ++ b) ++ c) ++ d) e (f ++ g))
        ∙ sym (append_assoc ((((a ++ b) ++ c) ++ d) ++ e) f g)

-- a console's text is what its printers add
pub console-is : (player : ℕ) (m : Machine) → HaveLengths m.board.core
    → console_text player m
    ≡ says_text (numbers_say player (numbers_of m)) ++ ((lines_of_memories m.board.core
    ++ memory_lines_text memory.Backup (memory_bytes m.board.core memory.Backup))
    ++ (says_text (map (row_of (numbers_of m)) (rows_behind (backup_in m)))
    ++ says_text (map drawn_of (drawn_from 0 m.board.core.lines))))
unfolding console_says draft_of
console-is player m long =
    let numbers : List Said = numbers_say player (numbers_of m) in
    let stored : List Said = map memory_of (memory_rows (backup_in m) (memory_bytes m.board.core)) in
    let rows : List Said = map (row_of (numbers_of m)) (rows_behind (backup_in m)) in
    let drawn : List Said = map drawn_of (drawn_from 0 m.board.core.lines) in
    let memories : List ℕ =
    lines_of_memories m.board.core ++ memory_lines_text memory.Backup (memory_bytes m.board.core memory.Backup) in
    says-append ((numbers ++ stored) ++ rows) drawn
    ∙ ap (λ (text : List ℕ). text ++ says_text drawn)
    (says-append (numbers ++ stored) rows
    ∙ ap (λ (text : List ℕ). text ++ says_text rows)
    (says-append numbers stored ∙ ap (λ (text : List ℕ). says_text numbers ++ text) (memories-are m.board.core long)))
    ∙ append_assoc (says_text numbers ++ memories) (says_text rows) (says_text drawn)
    ∙ append_assoc (says_text numbers) memories (says_text rows ++ says_text drawn)
