-- What a write keeps of the memories.
use Rattle.std.proofs.Common.{◌≡◌, ℕ, zero, suc, ◌+◌, ◌^◌, ◌<◌, ◌==◌, Bool, true, false, List, length, arith, if◌then◌else◌}
use Rattle.std.specs.Prelude.{bit_and, nat_lt, slice_index}
use Rattle.std.proofs.lemmas.Nat.{and_le_r}
use Rattle.gba_terms.specs.Bits.{field}
use Rattle.gba_terms.specs.Bytes.{AreBytes}
use Rattle.gba_bus.specs.Regions.{region_of}
use Rattle.gba_bus.specs.Widths.{aligned}
use Rattle.gba_bus.specs.declared.region.Region.{Region}
use Rattle.gba_bus.specs.declared.region.Region.TheVariants.{Bios, Work, Inner, Io, Palette, Vram, Oam, Rom0, Rom1, Rom2, Sram, Other}
use Rattle.gba_bus.specs.declared.width.Width.{Width}
use Rattle.gba_bus.specs.declared.width.Width.TheVariants.{Byte, Half, Word}
use Rattle.gba_device_laws.proofs.Bytes.{bytes-set, has-set}
use Rattle.gba_flash.specs.Flash.{FlashMemory, bytes_after, command_of, erased, flash_written, has_banks, place_in, sector_of, sector_size, written_in}
use Rattle.gba_flash.specs.declared.machine.FlashState.{FlashState}
use Rattle.gba_flash.specs.declared.machine.FlashState.TheVariants.{Ready, First, Second, Program, Bank}
use Rattle.gba_image.specs.declared.backup.Backup.{Backup}
use Rattle.gba_mem.specs.Backups.{BackupMemory, InFlash, InSram, backup_bytes, backup_written}
use Rattle.gba_mem.specs.Memories.{Memories}
use Rattle.gba_mem.specs.Places.{flash_place, inner_place, oam_place, palette_place, sprite_part, sram_place, vram_place, work_place}
use Rattle.gba_mem.specs.Stores.{store, store_in, with_both, with_byte, with_byte_in, with_number}
use Rattle.gba_run_laws.specs.Holding.{MemoriesHold}

-- ---- whatever each write of a byte keeps

either : {Kept : Type 0} (Keeps : Kept → Type 0) (test : Bool) (one other : Kept) → Keeps one → Keeps other
    → Keeps (if test then one else other)
either Keeps true one other here there = here
either Keeps false one other here there = there

module _ (Keeps : Memories → Type 0)
    (byte-keeps : (m : Memories) (address byte : ℕ) → byte < 2 ^ 8 → Keeps m → Keeps (with_byte m address byte)) where
  number-keeps : (width : Width) (m : Memories) (address value : ℕ) → Keeps m
      → Keeps (with_number with_byte width m address value)
  number-keeps Byte m address value keeps = byte-keeps m address (field value 0 8) (omega arith) keeps
  number-keeps Half m address value keeps =
      byte-keeps (with_byte m address (field value 0 8)) (address + 1) (field value 8 8) (omega arith)
      (byte-keeps m address (field value 0 8) (omega arith) keeps)
  number-keeps Word m address value keeps =
      let first = with_byte m address (field value 0 8) in
      let second = with_byte first (address + 1) (field value 8 8) in
      let third = with_byte second (address + 2) (field value 16 8) in
      byte-keeps third (address + 3) (field value 24 8) (omega arith)
      (byte-keeps second (address + 2) (field value 16 8) (omega arith)
      (byte-keeps first (address + 1) (field value 8 8) (omega arith)
      (byte-keeps m address (field value 0 8) (omega arith) keeps)))

  both-keep : (m : Memories) (address byte : ℕ) → byte < 2 ^ 8 → Keeps m → Keeps (with_both with_byte m address byte)
  both-keep m address byte small keeps =
      byte-keeps (with_byte m address byte) (address + 1) byte small (byte-keeps m address byte small keeps)

  stored-keeps : (region : Region) (mode : ℕ) (m : Memories) (address : ℕ) (width : Width) (value : ℕ) → Keeps m
      → Keeps (store_in region mode m address width value)
  stored-keeps Palette mode m address Byte value keeps =
      both-keep m (aligned Half address) (field value 0 8) (omega arith) keeps
  stored-keeps Vram mode m address Byte value keeps =
      either Keeps (nat_lt (vram_place address) (sprite_part mode)) _ _
      (both-keep m (aligned Half address) (field value 0 8) (omega arith) keeps) keeps
  stored-keeps Oam mode m address Byte value keeps = keeps
  stored-keeps Sram mode m address width value keeps =
      byte-keeps m (aligned width address) (field value 0 8) (omega arith) keeps
  stored-keeps _ mode m address width value keeps = number-keeps width m (aligned width address) value keeps

  pub store-keeps : (mode : ℕ) (m : Memories) (address : ℕ) (width : Width) (value : ℕ) → Keeps m
      → Keeps (store mode m address width value)
  unfolding store
  store-keeps mode m address width value keeps = stored-keeps (region_of address) mode m address width value keeps

-- ---- lengths and bytes

erased-bytes : (first count : ℕ) (bytes : List ℕ) → AreBytes bytes → AreBytes (erased first count bytes)
unfolding erased
erased-bytes first zero bytes are = are
erased-bytes first (suc count) bytes are =
    bytes-set (erased first count bytes) (first + count) 0xff (erased-bytes first count bytes are) (omega arith)

command-bytes : (offset value : ℕ) (kind : Backup) (armed : Bool) (place : ℕ) (bytes : List ℕ) → AreBytes bytes
    → AreBytes (bytes_after (command_of offset value kind armed) place bytes)
unfolding command_of
command-bytes offset value kind armed place bytes are =
    let all = erased-bytes 0 (length bytes) bytes are in
    let sector = erased-bytes (sector_of place) sector_size bytes are in
    either (λ c. AreBytes (bytes_after c place bytes)) (offset == 0x5555) _ _
    (either (λ c. AreBytes (bytes_after c place bytes)) (value == 0x80) _ _ are
    (either (λ c. AreBytes (bytes_after c place bytes)) (value == 0x90) _ _ are
    (either (λ c. AreBytes (bytes_after c place bytes)) (value == 0xf0) _ _ are
    (either (λ c. AreBytes (bytes_after c place bytes)) (value == 0xa0) _ _ are
    (either (λ c. AreBytes (bytes_after c place bytes)) (value == 0xb0) _ _
    (either (λ c. AreBytes (bytes_after c place bytes)) (has_banks kind) _ _ are are)
    (either (λ c. AreBytes (bytes_after c place bytes)) (value == 0x10) _ _
    (either (λ c. AreBytes (bytes_after c place bytes)) armed _ _ all are)
    (either (λ c. AreBytes (bytes_after c place bytes)) (value == 0x30) _ _
    (either (λ c. AreBytes (bytes_after c place bytes)) armed _ _ sector are) are)))))))
    (either (λ c. AreBytes (bytes_after c place bytes)) (value == 0x30) _ _
    (either (λ c. AreBytes (bytes_after c place bytes)) armed _ _ sector are) are)

flash-bytes-in : (state : FlashState) (offset byte : ℕ) (f : FlashMemory) → byte < 2 ^ 8 → AreBytes f.bytes
    → AreBytes (written_in state offset byte f).bytes
flash-bytes-in Ready offset byte f small are = are
flash-bytes-in First offset byte f small are = are
flash-bytes-in Second offset byte f small are =
    command-bytes offset byte f.backup f.machine.armed (place_in f.machine offset) f.bytes are
flash-bytes-in Program offset byte f small are =
    let place = place_in f.machine offset in
    let less = and_le_r (slice_index f.bytes place) byte in
    bytes-set f.bytes place (bit_and (slice_index f.bytes place) byte) are (omega (arith, less, small))
flash-bytes-in Bank offset byte f small are = are

backup-bytes : (backup : BackupMemory) (address byte : ℕ) → byte < 2 ^ 8 → AreBytes (backup_bytes backup)
    → AreBytes (backup_bytes (backup_written backup address byte))
unfolding flash_written
backup-bytes (InSram bytes) address byte small are = bytes-set bytes (sram_place address) byte are small
backup-bytes (InFlash flash) address byte small are =
    flash-bytes-in flash.machine.state (flash_place address) byte flash small are

byte-holds-in : (region : Region) (m : Memories) (address byte : ℕ) → byte < 2 ^ 8 → MemoriesHold m
    → MemoriesHold (with_byte_in region m address byte)
byte-holds-in Bios m address byte small hold = hold
byte-holds-in Work m address byte small hold = record {
  work = has-set 0x40000 m.work (work_place address) byte hold.work small;
  inner = hold.inner;
  palette = hold.palette;
  vram = hold.vram;
  oam = hold.oam;
  backup = hold.backup;
}
byte-holds-in Inner m address byte small hold = record {
  inner = has-set 0x8000 m.inner (inner_place address) byte hold.inner small;
  work = hold.work;
  palette = hold.palette;
  vram = hold.vram;
  oam = hold.oam;
  backup = hold.backup;
}
byte-holds-in Io m address byte small hold = hold
byte-holds-in Palette m address byte small hold = record {
  palette = has-set 0x400 m.palette (palette_place address) byte hold.palette small;
  work = hold.work;
  inner = hold.inner;
  vram = hold.vram;
  oam = hold.oam;
  backup = hold.backup;
}
byte-holds-in Vram m address byte small hold = record {
  vram = has-set 0x18000 m.vram (vram_place address) byte hold.vram small;
  work = hold.work;
  inner = hold.inner;
  palette = hold.palette;
  oam = hold.oam;
  backup = hold.backup;
}
byte-holds-in Oam m address byte small hold = record {
  oam = has-set 0x400 m.oam (oam_place address) byte hold.oam small;
  work = hold.work;
  inner = hold.inner;
  palette = hold.palette;
  vram = hold.vram;
  backup = hold.backup;
}
byte-holds-in Rom0 m address byte small hold = hold
byte-holds-in Rom1 m address byte small hold = hold
byte-holds-in Rom2 m address byte small hold = hold
byte-holds-in Sram m address byte small hold = record {
  work = hold.work;
  inner = hold.inner;
  palette = hold.palette;
  vram = hold.vram;
  oam = hold.oam;
  backup = backup-bytes m.backup address byte small hold.backup;
}
byte-holds-in Other m address byte small hold = hold

pub store-holds : (mode : ℕ) (m : Memories) (address : ℕ) (width : Width) (value : ℕ) → MemoriesHold m
    → MemoriesHold (store mode m address width value)
store-holds =
    store-keeps MemoriesHold (λ m address byte small hold. byte-holds-in (region_of address) m address byte small hold)

-- ---- the images

pub record HasImages (one other : List ℕ) (m : Memories) : Type 0 where
  pub bios : m.bios ≡ one
  pub rom : m.rom ≡ other

byte-leaves-in : (bios rom : List ℕ) (region : Region) (m : Memories) (address byte : ℕ) → HasImages bios rom m
    → HasImages bios rom (with_byte_in region m address byte)
byte-leaves-in bios rom Bios m address byte has = has
byte-leaves-in bios rom Work m address byte has = record { bios = has.bios; rom = has.rom }
byte-leaves-in bios rom Inner m address byte has = record { bios = has.bios; rom = has.rom }
byte-leaves-in bios rom Io m address byte has = has
byte-leaves-in bios rom Palette m address byte has = record { bios = has.bios; rom = has.rom }
byte-leaves-in bios rom Vram m address byte has = record { bios = has.bios; rom = has.rom }
byte-leaves-in bios rom Oam m address byte has = record { bios = has.bios; rom = has.rom }
byte-leaves-in bios rom Rom0 m address byte has = has
byte-leaves-in bios rom Rom1 m address byte has = has
byte-leaves-in bios rom Rom2 m address byte has = has
byte-leaves-in bios rom Sram m address byte has = record { bios = has.bios; rom = has.rom }
byte-leaves-in bios rom Other m address byte has = has

pub store-leaves : (bios rom : List ℕ) (mode : ℕ) (m : Memories) (address : ℕ) (width : Width) (value : ℕ)
    → HasImages bios rom m → HasImages bios rom (store mode m address width value)
store-leaves bios rom =
    store-keeps (HasImages bios rom)
    (λ m address byte small has. byte-leaves-in bios rom (region_of address) m address byte has)
