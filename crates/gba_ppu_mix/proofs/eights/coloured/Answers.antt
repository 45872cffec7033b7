use Rattle.std.proofs.Common.{slice_index}
use Rattle.gba_terms.specs.Bits.{bit}
use Rattle.gba_ppu_blend.specs.Colours.{both}
use Rattle.gba_ppu_mix.specs.Blending.{alone, is_alpha}
use Rattle.gba_ppu_mix.specs.Painting.{painted_stack_colour}
use Rattle.gba_ppu_mix.proofs.Marks.{by_tests}
use Rattle.gba_ppu_mix.proofs.eights.coloured.Goals as goal

pub returns : goal.returns
unfolding painted_stack_colour
returns c = record {
  count = c.if_bit-2.ensures.count;
  lanes = λ i h.
      let b = c.args.b.now in
      let top = slice_index c.args.stack.top.colour i in
      let marks = slice_index c.args.stack.top.marks i in
      rw (
        c.if_bit-2.ensures.lanes i h,
        c.if_bit.ensures.lanes i h,
        c.where_alpha-alpha.ensures.lanes i h,
        c.where_changed-changed.ensures.lanes i h,
        c.both_lanes-blended.ensures.lanes i h,
        c.alone_lanes-alone.ensures.lanes i h,
        c.is_alpha.ensures,
      )
      (by_tests (bit (slice_index c.args.shows i) 5) (bit marks 0) (bit marks 2)
      (bit (slice_index c.args.stack.second.marks i) 1)
      (is_alpha b.effect) (both b.eva b.evb top (slice_index c.args.stack.second.colour i))
      (alone b.effect b.evy top) top);
}
