use Rattle.gba_ppu_blend.proofs.Choices.{bit_at, bit_count}
use Rattle.gba_ppu_blend.proofs.choice.if_bit.Goals as goal

pub returns : goal.returns
returns c = record {
  count = bit_count 8 c.args.place c.args.a c.args.chosen c.args.other c.fits-a.0 c.fits-chosen.0 c.fits-other.0;
  lanes =
      λ i h. bit_at 8 c.args.place c.args.a c.args.chosen c.args.other i c.fits-a.0 c.fits-chosen.0 c.fits-other.0 h;
}
