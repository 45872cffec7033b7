use Rattle.gba_screen.proofs.Bytes.{eight}
use Rattle.gba_screen.proofs.lines.bytes_of_eight.Goals as goal

pub returns : goal.returns
returns c =
    rw (
      c.to_le_bytes.ensures,
      c.to_le_bytes-2.ensures,
      c.to_le_bytes-3.ensures,
      c.to_le_bytes-4.ensures,
      c.to_le_bytes-5.ensures,
      c.to_le_bytes-6.ensures,
      c.to_le_bytes-7.ensures,
      c.to_le_bytes-8.ensures,
    ) (eight c.args.colours.now c.requires)
