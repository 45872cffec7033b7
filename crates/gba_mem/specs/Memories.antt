use Rattle.std.specs.Prelude.{ℕ, List, [], Option, replicate, unwrap_or}
use Rattle.gba_image.specs.Backups.{backup_length}
use Rattle.gba_image.specs.declared.backup.Backup.{Backup}
use Rattle.gba_mem.specs.Backups.{BackupMemory, backup_at_start}

-- The memories of a console (GBATEK, GBA Memory Map): the BIOS, the cartridge's ROM, the work RAM, the inner RAM, the
-- palette, the VRAM and the OAM, each as its bytes from the front up, and what keeps the cartridge's saves. Where there
-- is no cartridge its ROM has no byte.
pub record Memories : Type 0 where
  pub bios : List ℕ
  pub rom : List ℕ
  pub work : List ℕ
  pub inner : List ℕ
  pub palette : List ℕ
  pub vram : List ℕ
  pub oam : List ℕ
  pub backup : BackupMemory

-- how many bytes each of them has, but for BIOS and ROM, which are images, and for the saves'
unfoldable pub work_length : ℕ
work_length = 0x40000

unfoldable pub inner_length : ℕ
inner_length = 0x8000

unfoldable pub palette_length : ℕ
palette_length = 0x400

unfoldable pub vram_length : ℕ
vram_length = 0x18000

unfoldable pub oam_length : ℕ
oam_length = 0x400

-- the bytes of a backup at the start: the save, or else FFh throughout (this project's profile)
abbrev pub saved_bytes : Option (List ℕ) → Backup → List ℕ
saved_bytes save backup = unwrap_or save (replicate (backup_length backup) 0xff)

-- at the start RAM is 0 (this project's profile)
unfoldable pub at_start : List ℕ → Option (List ℕ) → Option (List ℕ) → Backup → Memories
at_start bios cart save backup = record {
  bios = bios;
  rom = unwrap_or cart [];
  work = replicate work_length 0;
  inner = replicate inner_length 0;
  palette = replicate palette_length 0;
  vram = replicate vram_length 0;
  oam = replicate oam_length 0;
  backup = backup_at_start backup (saved_bytes save backup);
}
