use Rattle.std.proofs.Common.{arith}
use Rattle.gba_ppu_blend.specs.Colours.{darker}
use Rattle.gba_ppu_blend.proofs.Vectors.{together_at, together_count}
use Rattle.gba_ppu_blend.proofs.lanes.darker_lanes.Goals as goal

pub returns : goal.returns
unfolding darker
returns c =
    let r = c.darker_parts in
    let g = c.darker_parts-2 in
    let b = c.darker_parts-3 in
    record {
      count = together_count 8 r.result g.result b.result r.ensures.count g.ensures.count b.ensures.count;
      lanes = λ i h.
          together_at 8 r.result g.result b.result i _ _ _ r.ensures.count g.ensures.count b.ensures.count h
          (r.ensures.lanes i h) (g.ensures.lanes i h) (b.ensures.lanes i h) (omega arith) (omega arith) (omega arith);
    }
