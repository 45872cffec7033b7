use Rattle.std.proofs.lemmas.Simd.{get_or-chunk, length-chunk}
use Rattle.gba_ppu_blend.proofs.eights.eight_from.Goals as goal

pub returns : goal.returns
returns c = record {
  count = length-chunk c.args.at 8 c.args.line.now c.requires;
  lanes = λ i h. get_or-chunk c.args.at 8 c.args.line.now i 0 h;
}
