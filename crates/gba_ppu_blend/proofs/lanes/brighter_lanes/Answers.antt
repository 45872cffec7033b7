use Rattle.std.proofs.Common.{slice_index}
use Rattle.gba_ppu_blend.specs.Colours.{brighter}
use Rattle.gba_ppu_blend.proofs.Vectors.{brighter_most, field_fits, together_at, together_count}
use Rattle.gba_ppu_blend.proofs.lanes.brighter_lanes.Goals as goal

pub returns : goal.returns
unfolding brighter
returns c =
    let r = c.brighter_parts in
    let g = c.brighter_parts-2 in
    let b = c.brighter_parts-3 in
    record {
      count = together_count 8 r.result g.result b.result r.ensures.count g.ensures.count b.ensures.count;
      lanes = λ i h.
          let colour = slice_index c.args.colours i in
          together_at 8 r.result g.result b.result i _ _ _ r.ensures.count g.ensures.count b.ensures.count h
          (r.ensures.lanes i h)
          (g.ensures.lanes i h) (b.ensures.lanes i h) (brighter_most c.args.evy _ c.requires (field_fits colour 0))
          (brighter_most c.args.evy _ c.requires (field_fits colour 5))
          (brighter_most c.args.evy _ c.requires (field_fits colour 10));
    }
