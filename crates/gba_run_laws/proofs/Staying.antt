-- What no step changes.
use Rattle.std.proofs.Common.{◌≡◌, ℕ, Bool, true, false, List, [], ◌∷◌, refl, ◌∙◌, if◌then◌else◌}
use Rattle.std.specs.Prelude.{nat_le}
use Rattle.gba_bus.specs.Regions.{is_io, region_of}
use Rattle.gba_bus.specs.declared.width.Width.{Width}
use Rattle.gba_console.specs.Counted.{CountsAlways}
use Rattle.gba_console.specs.Keys.{after_keys}
use Rattle.gba_console.specs.Machine.{Machine, clock_of, is_off, left_of}
use Rattle.gba_console.specs.Step.{acted, all_learned, all_taken, board_begun, done_in, heard, prepared, prepared_off, stepped, stepped_off, stepped_on}
use Rattle.gba_console.specs.declared.keys.KeyState.{KeyState}
use Rattle.gba_image.specs.declared.backup.Backup.{Backup}
use Rattle.gba_io.specs.Board.{BoardPasses}
use Rattle.gba_io.specs.Bus.{core_written, io_offset, register_written}
use Rattle.gba_io.specs.Cable.{board_taken, core_ended, core_heard}
use Rattle.gba_io.specs.Core.{Core, core_begun, core_keyed, core_learned}
use Rattle.gba_io.specs.SerialRegisters.{is_serial, serial_put}
use Rattle.gba_io.specs.declared.board.Board.{Board}
use Rattle.gba_mem.specs.BackupLaw.{BackupsStaySound, IsSoundBackup}
use Rattle.gba_mem.specs.Backups.{backup_of}
use Rattle.gba_ppu_reg.specs.Registers.{picture_mode}
use Rattle.gba_register.proofs.Accesses.{written-keeps}
use Rattle.gba_register.specs.Accesses.{merged}
use Rattle.gba_serial.specs.Law.{KeepsSeat, StaysSeated}
use Rattle.gba_serial.specs.Making.{seat_of}
use Rattle.gba_serial.specs.Registers.{serial_kept}
use Rattle.gba_serial.specs.SerialUnit.{SerialUnit, is_peer}
use Rattle.gba_serial.specs.Take.{with_known}
use Rattle.gba_serial.specs.declared.serial.making.Seat.{Seat}
use Rattle.link_node.specs.declared.signal.Incoming.{Incoming}
use Rattle.gba_run_laws.specs.Holding.{StepsLeaveTheRest}
use Rattle.gba_run_laws.proofs.Acting.{acted-keeps}
use Rattle.gba_run_laws.proofs.Memories.{HasImages, store-leaves}

-- a core with these images, saves of this kind, and this seat
pub record Stays (bios rom : List ℕ) (kind : Backup) (place : Seat) (b : Core) : Type 0 where
  pub images : HasImages bios rom b.memory
  pub sound : IsSoundBackup b.memory.backup
  pub backup : backup_of b.memory.backup ≡ kind
  pub seat : seat_of b.serial ≡ place

seat-same : (old new : SerialUnit) → KeepsSeat old new → seat_of new ≡ seat_of old
seat-same old new keeps = λ i. record { player = keeps.player i; count = keeps.count i; round = keeps.round i }

module _ (bios rom : List ℕ) (kind : Backup) (place : Seat) (backups : BackupsStaySound) (seated : StaysSeated)
    (passes : (cycles : ℕ) (b : Board) → BoardPasses cycles b) where
  abbrev pub Keeps : Core → Type 0
  Keeps = Stays bios rom kind place

  -- another seat that is the same
  with-unit : (b : Core) (u : SerialUnit) → seat_of u ≡ seat_of b.serial → Keeps b → Keeps (record b { serial = u })
  with-unit b u same keeps =
      record { images = keeps.images; sound = keeps.sound; backup = keeps.backup; seat = same ∙ keeps.seat }

  either-core : (test : Bool) (one other : Core) → Keeps one → Keeps other → Keeps (if test then one else other)
  either-core true one other here there = here
  either-core false one other here there = there

  put-seat : (clock offset value lanes : ℕ) (u : SerialUnit) → seat_of u ≡ place
      → seat_of (serial_put clock offset value lanes u) ≡ place
  unfolding serial_put
  put-seat clock offset value lanes u same =
      seat-same u _ (seated.written clock offset (merged (serial_kept offset u) value lanes) u) ∙ same

  register-keeps : (offset : ℕ) (width : Width) (value : ℕ) (b : Core) → Keeps b
      → Keeps (register_written offset width value b)
  unfolding register_written
  register-keeps offset width value b keeps =
      either-core (is_serial offset) _ _
      (record {
        images = keeps.images;
        sound = keeps.sound;
        backup = keeps.backup;
        seat =
            written-keeps (λ u. seat_of u ≡ place) (serial_put b.devices.clock) (put-seat b.devices.clock) offset width
            value b.serial keeps.seat;
      })
      (record { images = keeps.images; sound = keeps.sound; backup = keeps.backup; seat = keeps.seat })

  written-stays : (b : Core) (address : ℕ) (width : Width) (value : ℕ) → Keeps b
      → Keeps (core_written b address width value)
  unfolding core_written
  written-stays b address width value keeps =
      let stays = backups (picture_mode b.devices.picture) b.memory address width value keeps.sound in
      either-core (is_io (region_of address)) _ _ (register-keeps (io_offset address) width value b keeps)
      (record {
        images = store-leaves bios rom (picture_mode b.devices.picture) b.memory address width value keeps.images;
        sound = stays.sound;
        backup = stays.kind ∙ keeps.backup;
        seat = keeps.seat;
      })

  same-memory : (b c : Core) → c.memory ≡ b.memory → c.serial ≡ b.serial → Keeps b → Keeps c
  same-memory b c memory serial keeps = record {
    images = rw memory keeps.images;
    sound = rw memory keeps.sound;
    backup = rw memory keeps.backup;
    seat = rw serial keeps.seat;
  }

  acted-stays : (file : List ℕ) (b : Core) → Keeps b → Keeps (acted file b).bus
  acted-stays =
      acted-keeps Keeps written-stays (λ b keeps. same-memory b _ refl refl keeps)
      (λ channel b few keeps. same-memory b _ refl refl keeps)

  keys-stay : (clock : ℕ) (changes : List KeyState) (b : Core) → Keeps b → Keeps (after_keys clock changes b)
  unfolding after_keys
  keys-stay clock [] b keeps = keeps
  keys-stay clock (change ∷ changes) b keeps =
      either-core (nat_le change.clock clock) (after_keys clock changes (core_keyed change.keys b)) b
      (keys-stay clock changes (core_keyed change.keys b) (same-memory b _ refl refl keeps)) keeps

  begun-stays : (b : Core) → Keeps b → Keeps (core_begun b)
  begun-stays b keeps = record { images = keeps.images; sound = keeps.sound; backup = keeps.backup; seat = keeps.seat }

  ended-stays : (clock : ℕ) (b : Core) → Keeps b → Keeps (core_ended clock b)
  ended-stays clock b keeps = record {
    images = keeps.images;
    sound = keeps.sound;
    backup = keeps.backup;
    seat = seat-same b.serial _ (seated.ended clock b.serial) ∙ keeps.seat;
  }

  heard-stays : (due : Incoming) (b : Core) → Keeps b → Keeps (core_heard due b)
  heard-stays due b keeps = with-unit b _ (seat-same b.serial _ (seated.taken due b.serial)) keeps

  taken-stay : (dues : List Incoming) (b : Board) → Keeps b.core → Keeps (all_taken dues b).core
  taken-stay [] b keeps = keeps
  taken-stay (due ∷ dues) b keeps =
      taken-stay dues (board_taken due b)
      (heard-stays due (core_ended due.arrival b.core) (ended-stays due.arrival b.core keeps))

  learned-stay : (dues : List Incoming) (b : Core) → Keeps b → Keeps (all_learned dues b)
  learned-stay [] b keeps = keeps
  learned-stay (due ∷ dues) b keeps =
      learned-stay dues (core_learned due b) (with-unit b _ (learned-seat (is_peer due.sender b.serial)) keeps)
    where
      learned-seat : (test : Bool) → seat_of (if test then with_known due b.serial else b.serial) ≡ seat_of b.serial
      learned-seat true = refl
      learned-seat false = refl

  on-stays : (dues : List Incoming) (m : Machine) → Keeps m.board.core → Keeps (stepped_on dues m).board.core
  unfolding stepped_on
  on-stays dues m keeps =
      let done = done_in dues m in
      let board = record (heard dues m) { core = done.bus } in
      let passed = passes done.cycles board in
      let taken = taken-stay dues (board_begun m.board) (begun-stays m.board.core keeps) in
      let ended = ended-stays (clock_of m) (all_taken dues (board_begun m.board)).core taken in
      same-memory done.bus _ passed.memory passed.serial
      (acted-stays m.registers (prepared dues m) (keys-stay (clock_of m) (left_of m) (heard dues m).core ended))

  off-stays : (dues : List Incoming) (m : Machine) → Keeps m.board.core → Keeps (stepped_off dues m).board.core
  unfolding stepped_off
  off-stays dues m keeps =
      same-memory (prepared_off dues m) _ refl refl
      (keys-stay (clock_of m) (left_of m) (all_learned dues (core_begun m.board.core))
      (learned-stay dues (core_begun m.board.core) (begun-stays m.board.core keeps)))

  pub step-stays : (dues : List Incoming) (m : Machine) → Keeps m.board.core → Keeps (stepped dues m).board.core
  unfolding stepped
  step-stays dues m keeps = by_off (is_off m)
    where
      by_off : (test : Bool) → Keeps (if test then stepped_off dues m else stepped_on dues m).board.core
      by_off true = off-stays dues m keeps
      by_off false = on-stays dues m keeps

step-keys : (dues : List Incoming) (m : Machine) → (stepped dues m).keys ≡ m.keys
unfolding stepped stepped_on stepped_off
step-keys dues m = by_off (is_off m)
  where
    by_off : (test : Bool) → (if test then stepped_off dues m else stepped_on dues m).keys ≡ m.keys
    by_off true = refl
    by_off false = refl

step-off : (dues : List Incoming) (m : Machine) → (stepped dues m).off ≡ m.off
unfolding stepped stepped_on stepped_off
step-off dues m = by_off (is_off m)
  where
    by_off : (test : Bool) → (if test then stepped_off dues m else stepped_on dues m).off ≡ m.off
    by_off true = refl
    by_off false = refl

pub leaves-rest : BackupsStaySound → StaysSeated → ((cycles : ℕ) (b : Board) → BoardPasses cycles b) → CountsAlways
    → StepsLeaveTheRest
leaves-rest backups seated passes counts dues m sound =
    let memory = m.board.core.memory in
    let stays =
    step-stays memory.bios memory.rom (backup_of memory.backup) (seat_of m.board.core.serial) backups seated
    passes dues m (record { images = record { bios = refl; rom = refl }; sound = sound; backup = refl; seat = refl }) in
    record {
      bios = stays.images.bios;
      rom = stays.images.rom;
      backup = stays.backup;
      seat = stays.seat;
      keys = step-keys dues m;
      off = step-off dues m;
      kinds = counts.kinds dues m;
    }
