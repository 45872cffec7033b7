-- A console that keeps to the rules of a run can be frozen.
use Rattle.std.proofs.Common.{◌≡◌, ℕ, zero, suc, ◌+◌, ◌-◌, ◌%◌, ◌^◌, ◌≤◌, ◌==◌, ◌∙◌, Bool, true, false, List, [], ◌∷◌, length, get_or, refl, sym, ap, subst, arith, if◌then◌else◌}
use Rattle.std.specs.Prelude.{nat_le, slice_index_or}
use Rattle.std.proofs.lemmas.Bool.Decides.{nat_tests}
use Rattle.gba_console.specs.Keys.{due_count}
use Rattle.gba_console.specs.Machine.{Machine, clock_of}
use Rattle.gba_console.specs.declared.keys.KeyState.{KeyState}
use Rattle.gba_exec_laws.specs.Sound.{IsSoundFile}
use Rattle.gba_image.specs.Backups.{backup_length}
use Rattle.gba_mem.specs.BackupLaw.{IsSoundBackup}
use Rattle.gba_mem.specs.Backups.{BackupMemory, InFlash, InSram, backup_bytes, backup_of}
use Rattle.gba_psr.specs.Modes.{place}
use Rattle.gba_psr.specs.RegisterFile.{mode, register, status}
use Rattle.gba_psr.specs.Status.{unit_bytes}
use Rattle.gba_run_laws.specs.Holding.{Holds as RunHolds, IsSameConsole, keys_after}
use Rattle.gba_snapshot.specs.Console.{HaveLengths}
use Rattle.gba_thaw.specs.Checks.{pressed_after}
use Rattle.gba_thaw_laws.proofs.Halves.{io-long}
use Rattle.gba_thaw_laws.specs.Cut.{IsReady}
use Rattle.gba_thaw_laws.specs.Holds.{ChangesHold, Holds, RegistersHold, TimesHold}
use Rattle.gba_thaw_laws.specs.Laws.{IsStartOf}
use Rattle.gba_thaw_laws.specs.Text.{IsSpelled}

-- ---- registers

counter-place : (mode : ℕ) → place mode 15 ≡ 15
unfolding place
counter-place mode = grind (arith, nat_tests)

registers-hold : (file : List ℕ) → IsSoundFile file → RegistersHold file
unfolding status register
registers-hold file is = record {
  long = is.stored.whole.count;
  words = is.stored.words;
  status = is.stored.whole.status_kept;
  aligned = sym (ap (λ p. get_or file p 0 % unit_bytes (get_or file 31 0)) (counter-place (mode file))) ∙ is.aligned;
}

-- ---- memories

backup-long : (backup : BackupMemory) → IsSoundBackup backup
    → length (backup_bytes backup) ≡ backup_length (backup_of backup)
backup-long (InSram bytes) sound = sound
backup-long (InFlash flash) sound = sound.bytes

have-lengths : (m : Machine) → RunHolds m → HaveLengths m.board.core
have-lengths m is = record {
  io = io-long 512 m.board.core;
  work = is.memories.work.long;
  inner = is.memories.inner.long;
  palette = is.memories.palette.long;
  vram = is.memories.vram.long;
  oam = is.memories.oam.long;
  backup = backup-long m.board.core.memory.backup is.backup;
}

-- ---- keys

due-few : (clock : ℕ) (keys : List KeyState) → due_count clock keys ≤ length keys
unfolding due_count
due-few clock [] = omega arith
due-few clock (change ∷ keys) = by_due (nat_le change.clock clock) (due-few clock keys)
  where
    by_due : (test : Bool) → due_count clock keys ≤ length keys
        → (if test then 1 + due_count clock keys else 0) ≤ suc (length keys)
    by_due true rest = omega (arith, rest)
    by_due false rest = omega arith

pressed-same : (applied : ℕ) (keys : List KeyState) → keys_after applied keys 0 ≡ pressed_after applied keys
unfolding pressed_after
pressed-same zero keys = refl
pressed-same (suc applied) keys =
    let some : (suc applied == 0) ≡ false = grind (arith, nat_tests) in
    let last : suc applied - 1 ≡ applied = omega arith in
    let none : KeyState = record { clock = 0; keys = 0 } in
    sym (λ i. if some i then 0 else (slice_index_or keys (last i) none).keys % 2 ^ 10)

applied-few : (m : Machine) → RunHolds m → m.applied ≤ length m.keys
applied-few m is =
    let within = is.changes.within in
    let few = due-few (clock_of m) m.keys in
    omega (arith, within, few)

changes-hold : (m : Machine) → RunHolds m → ChangesHold m
changes-hold m is = record {
  few = applied-few m is;
  due = is.changes.due;
  pressed = is.changes.pressed ∙ pressed-same m.applied m.keys;
}

-- ---- the rest

times-hold : (until : ℕ) (m : Machine) → until ≤ 2 ^ 38 → clock_of m ≤ until + 511 → RunHolds m → TimesHold m
times-hold until m near early is =
    let frames = is.numbers.frames in
    let pairs = is.numbers.pairs in
    let past = is.numbers.past in
    let begun = is.begun in
    record {
      begun = is.begun;
      short = is.short;
      latest = omega (arith, near, early);
      frames = omega (arith, near, early, frames);
      samples = omega (arith, near, early, pairs);
      words = omega (arith, near, early, past, begun);
    }

holds : (until : ℕ) (m : Machine) → until ≤ 2 ^ 38 → clock_of m ≤ until + 511 → RunHolds m → Holds m
holds until m near early is = record {
  registers = registers-hold m.registers is.registers;
  devices = is.devices;
  serial = is.serial;
  lengths = have-lengths m is;
  backup = is.backup;
  drawn = is.counts.made.drawn;
  times = times-hold until m near early is;
  changes = changes-hold m is;
  on = is.on;
}

spelled : (m : Machine) → length m.keys ≤ 1000000 → RunHolds m → IsSpelled m
spelled m few is =
    let applied = applied-few m is in
    record {
      saved = λ register high. is.registers.stored.saved register (omega (arith, high));
      applied = omega (arith, applied, few);
      memories = record {
        work = is.memories.work.bytes;
        inner = is.memories.inner.bytes;
        palette = is.memories.palette.bytes;
        vram = is.memories.vram.bytes;
        oam = is.memories.oam.bytes;
        backup = is.memories.backup;
      };
      lines = λ line within. is.lines line [] within;
    }

starts : (start m : Machine) → RunHolds start → IsSameConsole start m → IsStartOf m start
starts start m is same = record {
  bios = sym same.bios;
  rom = sym same.rom;
  lengths = have-lengths start is;
  backup = is.backup;
  kind = sym same.backup;
  seat = sym same.seat;
  keys = sym same.keys;
  off = sym same.off;
  frames = sym same.kinds.frames;
  samples = sym same.kinds.samples;
  words = sym same.kinds.words;
}

pub ready : (until : ℕ) (start m : Machine) → until ≤ 2 ^ 38 → clock_of m ≤ until + 511 → length start.keys ≤ 1000000
    → RunHolds start → RunHolds m → IsSameConsole start m → IsReady until start m
ready until start m near early few begins is same = record {
  begins = starts start m begins same;
  holds = holds until m near early is;
  spelled = spelled m (subst (λ (keys : List KeyState). length keys ≤ 1000000) (sym same.keys) few) is;
  early = early;
}
