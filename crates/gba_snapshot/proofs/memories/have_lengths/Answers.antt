use Rattle.std.proofs.Common.{length, sym, ap, ◌∙◌}
use Rattle.gba_snapshot.proofs.memories.have_lengths.Goals as goal

pub returns : goal.returns
returns c = record {
  io = ap length (sym c.io_bytes-io.ensures.items) ∙ c.io_bytes-io.ensures.len;
  work = ap length (sym c.memory-work.ensures.bytes) ∙ c.memory-work.ensures.length;
  inner = ap length (sym c.memory-inner.ensures.bytes) ∙ c.memory-inner.ensures.length;
  palette = ap length (sym c.memory-palette.ensures.bytes) ∙ c.memory-palette.ensures.length;
  vram = ap length (sym c.memory-vram.ensures.bytes) ∙ c.memory-vram.ensures.length;
  oam = ap length (sym c.memory-oam.ensures.bytes) ∙ c.memory-oam.ensures.length;
  backup = ap length (sym c.memory-backup.ensures.bytes) ∙ c.memory-backup.ensures.length;
}
