use Rattle.std.specs.Prelude.{ℕ, List}
use Rattle.gba_flash.specs.Replacing.{with_bytes, zeros}
use Rattle.gba_image.specs.Backups.{backup_length}
use Rattle.gba_mem.specs.Backups.{backup_cleared, backup_of, with_backup_bytes}
use Rattle.gba_mem.specs.Memories.{Memories}
use Rattle.gba_mem.specs.declared.part.MemoryPart.{MemoryPart}
use Rattle.gba_mem.specs.declared.part.MemoryPart.TheVariants.{Work, Inner, Palette, Vram, Oam}
use Rattle.gba_mem.specs.declared.part.MemoryPart.TheVariants as part

-- how many bytes a memory that is written has
abbrev pub part_length : MemoryPart → Memories → ℕ
part_length Work m = 0x40000
part_length Inner m = 0x8000
part_length Palette m = 0x400
part_length Vram m = 0x18000
part_length Oam m = 0x400
part_length part.Backup m = backup_length (backup_of m.backup)

-- the memories, where bytes of one of these are replaced from a place on
abbrev pub with_part : MemoryPart → ℕ → List ℕ → Memories → Memories
with_part Work place new m = record m { work = with_bytes place new m.work }
with_part Inner place new m = record m { inner = with_bytes place new m.inner }
with_part Palette place new m = record m { palette = with_bytes place new m.palette }
with_part Vram place new m = record m { vram = with_bytes place new m.vram }
with_part Oam place new m = record m { oam = with_bytes place new m.oam }
with_part part.Backup place new m = record m { backup = with_backup_bytes place new m.backup }

-- the memories, where every byte of those that are written is 0
abbrev pub cleared : Memories → Memories
cleared m = record m {
  work = zeros m.work;
  inner = zeros m.inner;
  palette = zeros m.palette;
  vram = zeros m.vram;
  oam = zeros m.oam;
  backup = backup_cleared m.backup;
}
