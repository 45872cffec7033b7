use Rattle.gba_ppu_blend.proofs.Vectors.{parts_at, parts_count}
use Rattle.gba_ppu_blend.proofs.lanes.parts.Goals as goal

pub returns : goal.returns
returns c = record {
  count = parts_count 8 c.args.low c.args.colours c.fits-colours.0;
  lanes = λ i h. parts_at 8 c.args.low c.args.colours i c.fits-colours.0 h;
}
