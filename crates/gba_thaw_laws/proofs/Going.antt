-- A run can go on from what a frozen file says of a console.
use Rattle.std.proofs.Common.{◌≡◌, ℕ, ◌+◌, ◌%◌, ◌^◌, ◌<◌, ◌≤◌, ◌∙◌, ◌⊎◌, inl, inr, ap, sym, Bool, true, false, not, ◌&&◌, ◌||◌, ◌==◌, nat_lt, nat_le, List, length, slice_index, Option, Some, None, IfSome, is_some, if◌then◌else◌, refl, arith, lt-ltb, le-leb, eq-eqb, ne_eqb}
use Rattle.std.proofs.lemmas.Bool.{cases_lt, or_left, or_right}
use Rattle.gba_psr.specs.Status.{unit_bytes}
use Rattle.gba_serial.specs.Timing.{is_word_of}
use Rattle.gba_word.specs.Sums.{flag_number}
use Rattle.gba_console.specs.Keys.{due_count}
use Rattle.gba_console.specs.Machine.{Machine, clock_of}
use Rattle.gba_console.specs.declared.keys.KeyState.{KeyState}
use Rattle.gba_dma.specs.Channel.{is_enabled}
use Rattle.gba_dma.specs.Consistency.{IsConsistent}
use Rattle.gba_dma.specs.declared.channel.Channel.{Channel}
use Rattle.gba_io.specs.Drawing.{lines_drawn}
use Rattle.gba_loose.proofs.Made.{made-again}
use Rattle.gba_loose.specs.Numbers.{board_number}
use Rattle.gba_loose_devices.specs.Cable.{serial_poured}
use Rattle.gba_loose_devices.specs.Devices.{keys_poured}
use Rattle.gba_loose_devices.specs.Picture.{place_poured}
use Rattle.gba_numbers.specs.Fields.{is_board_field}
use Rattle.gba_numbers.specs.declared.fields.BoardField.TheVariants as board
use Rattle.gba_ppu_reg.specs.declared.position.Position.{Position}
use Rattle.gba_serial.specs.Numbers.{is_starter_of, received_mask, running_number, sent_number, word_number}
use Rattle.gba_serial.specs.SerialUnit.{SerialUnit, is_running, known_mode, mode_of}
use Rattle.gba_serial.specs.Tell.{silent}
use Rattle.gba_serial.specs.declared.serial.making.Seat.{Seat}
use Rattle.gba_serial.specs.declared.transfer.Running.{Running}
use Rattle.gba_snapshot.specs.Io.{io_bytes}
use Rattle.gba_snapshot.specs.Snapshot.{numbers_of}
use Rattle.gba_thaw.specs.Checks.{are_applied, are_drawn, are_known, has_left, has_mode, have_left, is_aligned, is_idle, is_known, is_timed, pressed_after, runs_rightly}
use Rattle.gba_thaw.specs.Console.{can_go_on, unit_thawed}
use Rattle.gba_device_laws.specs.Cable.{RunHolds, SerialHolds}
use Rattle.gba_thaw_laws.specs.Holds.{ChangesHold, Holds, TimesHold}
use Rattle.gba_thaw_laws.specs.Laws.{IsStartOf, drawn_of}
use Rattle.gba_thaw_laws.proofs.Channels.{channels-again}
use Rattle.gba_thaw_laws.proofs.Control.{control-thaws-again}
use Rattle.gba_thaw_laws.proofs.Numbers.{numbers-are}
use Rattle.gba_thaw_laws.proofs.Parts.{applied-is, clock-is, frames-are, registers-are, samples-are, was-is, words-are}
use Rattle.gba_thaw_laws.proofs.Saying.{says-itself}
use Rattle.gba_thaw_laws.proofs.Serial.{serial-again}
use Rattle.link_node.specs.Packing.{mode_number}
use Rattle.link_node.specs.declared.signal.LinkMode.{LinkMode}
use Rattle.link_node.specs.declared.signal.LinkMode.TheVariants.{Other}

-- ---- the processor, the clock and the keys

aligned-by : (registers : List ℕ) → slice_index registers 15 % unit_bytes (slice_index registers 31) ≡ 0
    → is_aligned registers ≡ true
unfolding is_aligned
aligned-by registers aligned = eq-eqb _ _ aligned

timed-by : (until : ℕ) (m : Machine) → TimesHold m → clock_of m ≤ until + 511 → is_timed until (numbers_of m) ≡ true
unfolding is_timed
timed-by until m h early =
    let clock = clock-is m in
    let was = was-is m in
    let frames = frames-are m in
    let samples = samples-are m in
    let words = words-are m in
    let a = le-leb m.was (clock_of m) h.begun in
    let b = le-leb (clock_of m) (m.was + 512) h.short in
    let c = le-leb (clock_of m) (until + 511) early in
    let d = lt-ltb m.board.made.frame_count (2 ^ 40) h.frames in
    let e = lt-ltb m.board.made.pairs (2 ^ 40) h.samples in
    let f = lt-ltb m.board.ended.count (2 ^ 40) h.words in
    (λ i. nat_le (was i) (clock i) && nat_le (clock i) (was i + 512) && nat_le (clock i) (until + 511) && nat_lt
    (frames i) (2 ^ 40)
    && nat_lt (samples i) (2 ^ 40) && nat_lt (words i) (2 ^ 40))
    ∙ (λ i. a i && b i && c i && d i && e i && f i)

due-by : (was clock applied due : ℕ) → was ≤ clock → (was < clock → applied ≡ due)
    → ((was == clock) || (applied == due)) ≡ true
due-by was clock applied due begun is = by (cases_lt was clock) where
  by : (was < clock) ⊎ (clock ≤ was) → ((was == clock) || (applied == due)) ≡ true
  by (inl before) = or_right (was == clock) (applied == due) (eq-eqb applied due (is before))
  by (inr past) = or_left (was == clock) (applied == due) (eq-eqb was clock (omega (arith, begun, past)))

applied-by : (keys : List KeyState) (pressed : ℕ) (m : Machine) → keys ≡ m.keys
    → pressed ≡ m.board.core.devices.keys.pressed
    → TimesHold m → ChangesHold m → are_applied keys pressed (numbers_of m) ≡ true
unfolding are_applied
applied-by keys pressed m same now times h =
    let clock = clock-is m in
    let was = was-is m in
    let applied = applied-is m in
    let few = le-leb m.applied (length m.keys) h.few in
    let due = due-by m.was (clock_of m) m.applied (due_count m.was m.keys) times.begun h.due in
    let last = eq-eqb _ _ h.pressed in
    (λ i. nat_le (applied i) (length (same i)) && ((was i == clock i) || (applied i == due_count (was i) (same i)))
    && (now i == pressed_after (applied i) (same i)))
    ∙ (λ i. few i && due i && last i)

-- ---- the drawn lines and the DMA channels

drawn-by : (p : Position) (m : Machine) → p ≡ m.board.core.devices.place
    → length m.board.core.lines ≡ lines_drawn m.board.core.devices.place → are_drawn p (drawn_of m) ≡ true
unfolding are_drawn
drawn-by p m same drawn = eq-eqb _ _ (drawn ∙ ap (λ (q : Position). lines_drawn q) (sym same))

left-by : (active enabled : Bool) (left : ℕ) → (active ≡ true → enabled ≡ true) → (enabled ≡ true → 1 ≤ left)
    → (not active || not (left == 0)) ≡ true
left-by true enabled left runs some =
    let more = some (runs refl) in
    ap not (ne_eqb left 0 (λ none. omega (arith, more, none)))
left-by false enabled left runs some = refl

left-in : (c : Channel) → IsConsistent c → has_left c ≡ true
left-in c h = left-by c.active (is_enabled c) c.left h.enabled h.left

-- ---- the serial unit

known-by : (there other : Bool) (mode : LinkMode) → ((there && other) ≡ false → mode ≡ Other)
    → ((other && there) || (mode_number mode == 3)) ≡ true
known-by true true mode h = refl
known-by true false mode h = ap (λ (k : LinkMode). mode_number k == 3) (h refl)
known-by false true mode h = ap (λ (k : LinkMode). mode_number k == 3) (h refl)
known-by false false mode h = ap (λ (k : LinkMode). mode_number k == 3) (h refl)

known-in : (u : SerialUnit) → SerialHolds u → (player : ℕ) → is_known u player ≡ true
known-in u h player =
    known-by (nat_lt player u.count) (not (player == u.player)) (known_mode u.known player) (h.others player)

known-all : (u : SerialUnit) → SerialHolds u → are_known (silent u) ≡ true
unfolding are_known
known-all u h =
    let a = known-in u h 0 in
    let b = known-in u h 1 in
    let c = known-in u h 2 in
    let d = known-in u h 3 in
    λ i. a i && b i && c i && d i

rightly-by : (off clock : ℕ) (u : SerialUnit) (idle : Bool) (run : Option Running) → (is_some run ≡ true → off ≤ clock)
    → IfSome run (RunHolds (mode_of u)) → (run ≡ None → idle ≡ true)
    → (if is_some run
    then nat_le off clock && is_word_of (mode_of u) (running_number (λ r. r.sent) run)
    && is_word_of (mode_of u) (running_number (λ r. r.word) run)
    else idle) ≡ true
rightly-by off clock u idle None on h none = none refl
rightly-by off clock u idle (Some run) on h none =
    let past = le-leb off clock (on refl) in
    let sent = h.sent in
    let word = h.word in
    λ i. past i && sent i && word i

idle-by : (m : Machine) → m.board.core.serial.run ≡ None → is_idle (numbers_of m) ≡ true
unfolding is_idle board_number is_board_field
idle-by m none =
    let number = numbers-are m in
    let started =
    number board.SerialStarted refl ∙ ap (λ (run : Option Running). flag_number (is_starter_of run)) none in
    let end = number board.SerialEnd refl ∙ ap (λ (run : Option Running). running_number (λ r. r.end) run) none in
    let got = number board.SerialGot refl ∙ ap (λ (run : Option Running). running_number received_mask run) none in
    let sent = number board.SerialSent refl ∙ ap (λ (run : Option Running). running_number (λ r. r.sent) run) none in
    let word = number board.SerialWord refl ∙ ap (λ (run : Option Running). running_number (λ r. r.word) run) none in
    λ i. (started i == 0) && (end i == 0) && (got i == 0) && (sent i == 0) && (word i == 0)

runs-by : (off : ℕ) (m : Machine) → off ≡ m.off → Holds m
    → runs_rightly off (numbers_of m) (silent m.board.core.serial) ≡ true
unfolding runs_rightly
runs-by off m same holds =
    let u = m.board.core.serial in
    let clock = clock-is m in
    (λ i. if is_running u
    then nat_le (same i) (clock i) && is_word_of (mode_of u) (sent_number u) && is_word_of (mode_of u) (word_number u)
    else is_idle (numbers_of m))
    ∙ rightly-by m.off (clock_of m) u (is_idle (numbers_of m)) u.run holds.on holds.serial.run (idle-by m)

mode-by : (m : Machine) → has_mode (numbers_of m) (silent m.board.core.serial) ≡ true
unfolding board_number is_board_field
mode-by m = eq-eqb _ _ (numbers-are m board.SerialMode refl)

-- ---- all of them

pub can-go-on : (until : ℕ) (start m : Machine) → IsStartOf m start → Holds m → clock_of m ≤ until + 511
    → can_go_on until start (numbers_of m) (io_bytes 512 m.board.core) (drawn_of m) ≡ true
unfolding can_go_on have_left
can-go-on until start m same holds early =
    let b = m.board.core in
    let n = numbers_of m in
    let io = io_bytes 512 b in
    let cs = b.devices.channels in
    let says = says-itself m holds in
    let unit : unit_thawed start n io ≡ silent b.serial =
    ap (λ (seat : Seat). serial_poured seat n io) same.seat ∙ serial-again b n io says holds.serial in
    let keys = (control-thaws-again b io says.halves holds.devices).keys in
    let place = (made-again b n says.numbers says.range).place in
    let consistent = holds.devices.channels.consistent in
    let left0 = left-in cs.channel0 consistent.channel0 in
    let left1 = left-in cs.channel1 consistent.channel1 in
    let left2 = left-in cs.channel2 consistent.channel2 in
    let left3 = left-in cs.channel3 consistent.channel3 in
    let have : have_left cs ≡ true = λ i. left0 i && left1 i && left2 i && left3 i in
    let aligned = ap is_aligned (registers-are m holds.registers) ∙ aligned-by m.registers holds.registers.aligned in
    let timed = timed-by until m holds.times early in
    let applied =
    applied-by start.keys (keys_poured io).pressed m same.keys (λ i. (keys i).pressed) holds.times holds.changes in
    let drawn = drawn-by (place_poured n) m place holds.drawn in
    let left = ap have_left (channels-again b n io says holds.devices.channels) ∙ have in
    let mode = ap (λ (u : SerialUnit). has_mode n u) unit ∙ mode-by m in
    let rightly = ap (λ (u : SerialUnit). runs_rightly start.off n u) unit ∙ runs-by start.off m same.off holds in
    let known = ap are_known unit ∙ known-all b.serial holds.serial in
    λ i. aligned i && timed i && applied i && drawn i && left i && mode i && rightly i && known i
