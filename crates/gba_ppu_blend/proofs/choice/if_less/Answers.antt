use Rattle.gba_ppu_blend.proofs.Choices.{less_at, less_count}
use Rattle.gba_ppu_blend.proofs.choice.if_less.Goals as goal

pub returns : goal.returns
returns c = record {
  count =
      less_count 8 c.args.a c.args.b c.args.chosen c.args.other c.fits-a.0 c.fits-b.0 c.fits-chosen.0 c.fits-other.0;
  lanes =
      λ i h. less_at 8 c.args.a c.args.b c.args.chosen c.args.other i c.fits-a.0 c.fits-b.0 c.fits-chosen.0
      c.fits-other.0 h;
}
