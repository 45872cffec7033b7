-- The devices, the processor and the flash of a console can be made of what a frozen file says of it.
use Rattle.std.proofs.Common.{◌≡◌, ℕ, ◌^◌, ◌<◌, ◌∙◌, ap, Bool, true, false, not, ◌&&◌, ◌||◌, ◌==◌, nat_lt, List, slice_index, refl, arith, lt-ltb, le-leb, eq-eqb}
use Rattle.gba_word.specs.Weights.{weight}
use Rattle.gba_terms.specs.Bits.{bit}
use Rattle.gba_console.specs.Machine.{Machine, clock_of}
use Rattle.gba_dma.specs.Channel.{is_enabled}
use Rattle.gba_dma.specs.Channels.{FourChannels}
use Rattle.gba_dma.specs.Consistency.{IsConsistent}
use Rattle.gba_dma.specs.declared.channel.Channel.{Channel}
use Rattle.gba_flash.specs.Flash.{has_banks, is_choosing}
use Rattle.gba_flash.specs.Soundness.{IsSoundMachine}
use Rattle.gba_flash.specs.declared.machine.FlashMachine.{FlashMachine}
use Rattle.gba_image.specs.declared.backup.Backup.{Backup}
use Rattle.gba_loose.proofs.Made.{made-again}
use Rattle.gba_loose.proofs.Tones.{tones-made-again}
use Rattle.gba_loose_devices.specs.Checks.{are_cleared, are_enabled_runs, are_in_range, are_silent, are_sound_devices, are_sound_tones, has_status, is_enabled_run, is_position, is_silent_tone, is_sound_tone, is_status}
use Rattle.gba_loose_devices.specs.Sound.{tone_halves, tone_numbers}
use Rattle.gba_mem.specs.BackupLaw.{IsSoundBackup}
use Rattle.gba_mem.specs.Backups.{BackupMemory, InSram, InFlash, backup_of, flash_machine}
use Rattle.gba_ppu_reg.specs.Position.{IsPosition}
use Rattle.gba_ppu_reg.specs.declared.position.Position.{Position}
use Rattle.gba_psg.specs.Numbers.{halves_of, numbers_of as tone_numbers_of}
use Rattle.gba_psg.specs.Soundness.{AreSound, IsSoundTone}
use Rattle.gba_psg.specs.declared.four.FourTones.{FourTones}
use Rattle.gba_psg.specs.declared.tone.Tone.{Tone}
use Rattle.gba_psr.specs.Modes.{is_mode}
use Rattle.gba_psr.specs.Status.{IsStatus, mode_of}
use Rattle.gba_snapshot.specs.Io.{io_bytes}
use Rattle.gba_snapshot.specs.Snapshot.{flash_numbers, numbers_of}
use Rattle.gba_thaw.specs.Checks.{is_sound_flash}
use Rattle.gba_thaw.specs.Console.{can_be_made, flash_thawed}
use Rattle.gba_thaw_laws.specs.Holds.{Holds}
use Rattle.gba_thaw_laws.specs.Laws.{IsStartOf}
use Rattle.gba_thaw_laws.proofs.Channels.{channels-again}
use Rattle.gba_thaw_laws.proofs.Memories.{machine-by, machine-numbered, machine_numbered}
use Rattle.gba_thaw_laws.proofs.Parts.{clock-is, registers-are}
use Rattle.gba_thaw_laws.proofs.Saying.{says-itself}
use Rattle.gba_thaw_laws.proofs.Sounds.{master-bit, tone-halves}
use Rattle.gba_thaw_laws.proofs.Stored.{bits-stored}

-- ---- the status

status-holds : (status : ℕ) → IsStatus status → is_status status ≡ true
status-holds status h =
    let stored = eq-eqb _ _ h.stored in
    let mode : is_mode (mode_of status) ≡ true = h.mode in
    λ i. stored i && mode i

-- ---- DMA channels

implied : (one other : Bool) → (one ≡ true → other ≡ true) → (not one || other) ≡ true
implied true other h = h refl
implied false other h = refl

run-enabled : (c : Channel) → IsConsistent c → is_enabled_run c ≡ true
run-enabled c h = implied c.active (is_enabled c) h.enabled

-- ---- tones

lasting-by : (on : Bool) (wait left : ℕ) → (on ≡ true → 0 < wait) → (on ≡ true → 0 < left)
    → (not (weight 1 on == 1) || (nat_lt 0 wait && nat_lt 0 left)) ≡ true
lasting-by true wait left waits lasts =
    let a = lt-ltb 0 wait (waits refl) in
    let b = lt-ltb 0 left (lasts refl) in
    λ i. a i && b i
lasting-by false wait left waits lasts = refl

-- a tone as its numbers have it
abbrev tone_numbered : Tone → Tone
tone_numbered t = record t { on = weight 1 t.on == 1 }

tone-holds : (places : ℕ) (t : Tone) → IsSoundTone places t → is_sound_tone places (tone_numbered t) ≡ true
unfolding is_sound_tone
tone-holds places t h =
    let a = lt-ltb t.place places h.place in
    let b = lt-ltb t.wait (2 ^ 24) h.wait in
    let c = le-leb t.left 256 h.left in
    let d = lt-ltb t.volume 16 h.volume in
    let e = lt-ltb t.fade 8 h.fade in
    let f = lt-ltb t.sweep 8 h.sweep in
    let g = lt-ltb t.shadow 2048 h.shadow in
    let lasting = lasting-by t.on t.wait t.left h.waits h.lasts in
    λ i. a i && b i && c i && d i && e i && f i && g i && lasting i

range-holds : (ts : FourTones) → AreSound ts → are_in_range (tone_numbers_of ts) ≡ true
unfolding are_in_range tone_numbers_of
range-holds ts h =
    let sequencer = lt-ltb ts.sequencer 0x40000 h.sequencer in
    let one = tone-holds 8 ts.square1.tone h.square1 in
    let two = tone-holds 8 ts.square2.tone h.square2 in
    let three = tone-holds 64 ts.wave.tone h.wave in
    let four = tone-holds 0x8000 ts.noise.tone h.noise in
    λ i. sequencer i && one i && two i && three i && four i

-- while the master enable is 0
silent-holds : (ts : FourTones) → AreSound ts → ts.is_on ≡ false → are_silent (tone_numbers_of ts) ≡ true
unfolding are_silent is_silent_tone tone_numbers_of
silent-holds ts h off = ap (λ (t : FourTones). are_silent (tone_numbers_of t)) (h.off off)

cleared-holds : (ts : FourTones) → AreSound ts → ts.is_on ≡ false → are_cleared (halves_of ts) ≡ true
unfolding are_cleared halves_of
cleared-holds ts h off = ap (λ (t : FourTones). are_cleared (halves_of t)) (h.off off)

quiet-holds : (ts : FourTones) → AreSound ts → ts.is_on ≡ false
    → (are_silent (tone_numbers_of ts) && are_cleared (halves_of ts)) ≡ true
quiet-holds ts h off =
    let silent = silent-holds ts h off in
    let cleared = cleared-holds ts h off in
    λ i. silent i && cleared i

master-of : (ts : FourTones) → bit (slice_index (halves_of ts) 12) 7 ≡ ts.is_on
unfolding halves_of
master-of ts = master-bit ts

either-by : (on : Bool) (master rest : Bool) → master ≡ on → (on ≡ false → rest ≡ true) → (master || rest) ≡ true
either-by true master rest is off = λ i. is i || rest
either-by false master rest is off = (λ i. is i || rest) ∙ off refl

tones-hold : (ts : FourTones) → AreSound ts → are_sound_tones (tone_numbers_of ts) (halves_of ts) ≡ true
unfolding are_sound_tones
tones-hold ts h =
    let range = range-holds ts h in
    let sound =
    either-by ts.is_on (bit (slice_index (halves_of ts) 12) 7)
    (are_silent (tone_numbers_of ts) && are_cleared (halves_of ts))
    (master-of ts) (quiet-holds ts h) in
    λ i. range i && sound i

-- ---- the picture's place

position-holds : (p : Position) → IsPosition p → is_position p ≡ true
position-holds p h =
    let line = lt-ltb p.line 228 h.line in
    let dot = lt-ltb p.dot 1232 h.dot in
    λ i. line i && dot i

-- ---- the flash

one-bank : (bank : ℕ) (chooses : Bool) → bank ≡ 0 → chooses ≡ false → ((bank == 0) && not chooses) ≡ true
one-bank bank chooses none never = λ i. (none i == 0) && not (never i)

machine-holds : (backup : Backup) (machine : FlashMachine) → IsSoundMachine backup machine
    → is_sound_flash backup machine ≡ true
unfolding is_sound_flash
machine-holds backup machine h =
    let bank = lt-ltb machine.bank 2 h.bank in
    let banks =
    either-by (has_banks backup) (has_banks backup) ((machine.bank == 0) && not (is_choosing machine.state)) refl
    (λ none.
    one-bank machine.bank (is_choosing machine.state) (h.one_bank none) (h.no_choice none)) in
    λ i. bank i && banks i

flash-holds : (backup : BackupMemory) → IsSoundBackup backup
    → is_sound_flash (backup_of backup) (machine_numbered (flash_numbers (flash_machine backup))) ≡ true
unfolding is_sound_flash
flash-holds (InSram bytes) h = refl
flash-holds (InFlash flash) h =
    ap (λ (machine : FlashMachine). is_sound_flash flash.backup machine) (machine-by flash.machine h.machine.bank)
    ∙ machine-holds flash.backup flash.machine h.machine

-- ---- all of them

devices-hold : (m : Machine) → Holds m → are_sound_devices (numbers_of m) (io_bytes 512 m.board.core) ≡ true
devices-hold m holds =
    let b = m.board.core in
    let n = numbers_of m in
    let io = io_bytes 512 b in
    let d = b.devices in
    let cs = d.channels in
    let says = says-itself m holds in
    let consistent = holds.devices.channels.consistent in
    let enabled0 = run-enabled cs.channel0 consistent.channel0 in
    let enabled1 = run-enabled cs.channel1 consistent.channel1 in
    let enabled2 = run-enabled cs.channel2 consistent.channel2 in
    let enabled3 = run-enabled cs.channel3 consistent.channel3 in
    let enabled : are_enabled_runs cs ≡ true = λ i. enabled0 i && enabled1 i && enabled2 i && enabled3 i in
    let runs =
    ap (λ (c : FourChannels). are_enabled_runs c) (channels-again b n io says holds.devices.channels) ∙ enabled in
    let numbers = tones-made-again b n says.numbers says.range in
    let halves = tone-halves b io says.halves holds.devices in
    let tones : are_sound_tones (tone_numbers n) (tone_halves io) ≡ true =
    (λ i. are_sound_tones (numbers i) (halves i)) ∙ tones-hold d.tones holds.devices.tones.sound in
    let place = ap (λ (p : Position). is_position p) (made-again b n says.numbers says.range).place
    ∙ position-holds d.place holds.devices.place in
    let late : clock_of m < 2 ^ 63 = omega (arith, holds.times.latest) in
    let clock = ap (λ (v : ℕ). nat_lt v (2 ^ 63)) (clock-is m) ∙ lt-ltb (clock_of m) (2 ^ 63) late in
    λ i. runs i && tones i && place i && clock i

pub can-be-made : (start m : Machine) → IsStartOf m start → Holds m
    → can_be_made start (numbers_of m) (io_bytes 512 m.board.core) ≡ true
unfolding can_be_made
can-be-made start m same holds =
    let b = m.board.core in
    let says = says-itself m holds in
    let stored = bits-stored b (io_bytes 512 b) says.halves holds.devices holds.serial in
    let status : has_status (numbers_of m) ≡ true =
    ap (λ (registers : List ℕ). is_status (slice_index registers 31)) (registers-are m holds.registers)
    ∙ status-holds (slice_index m.registers 31) holds.registers.status in
    let devices = devices-hold m holds in
    let machine = machine-numbered m in
    let kind = same.kind in
    let flash : is_sound_flash (backup_of start.board.core.memory.backup) (flash_thawed (numbers_of m)) ≡ true =
    (λ i. is_sound_flash (kind i) (machine i)) ∙ flash-holds b.memory.backup holds.backup in
    λ i. stored i && status i && devices i && flash i
