use Rattle.std.proofs.Common.{◌≤◌, ◌∙◌, get_or, arith}
use Rattle.gba_ppu_blend.proofs.Vectors.{brighter_at, brighter_count}
use Rattle.gba_ppu_blend.proofs.lanes.brighter_parts.Goals as goal

pub returns : goal.returns
returns c = record {
  count = brighter_count 8 c.args.evy c.args.low c.parts-part.result c.parts-part.ensures.count;
  lanes = λ i h.
      let p = c.parts-part.ensures.lanes i h in
      let x : get_or c.parts-part.result i 0 ≤ 31 = omega (arith, p) in
      brighter_at 8 c.args.evy c.args.low c.parts-part.result i c.requires.evy c.requires.low c.parts-part.ensures.count
      h x ∙ rw p;
}
