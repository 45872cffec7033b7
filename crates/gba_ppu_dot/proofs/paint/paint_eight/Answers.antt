use Rattle.std.proofs.Common.{◌+◌, slice_index_or, arith}
use Rattle.gba_ppu_dot.specs.Dots.{clear_dot}
use Rattle.gba_ppu_dot.specs.Paints.{paint_of}
use Rattle.gba_ppu_dot.proofs.Lists.{place_kept, place_more}
use Rattle.gba_ppu_dot.proofs.paint.paint_eight.Goals as goal

pub loop-i-preserved : goal.loop-i-preserved
loop-i-preserved c =
    let was = c.loop-i.invariant in
    let palette = c.args.palette.now in
    let dots = c.args.dots.now in
    let at = c.args.at in
    record {
      before = place_kept c.loop-i.paints c.args.paints.now at c.loop-i.i c.paint_of.result was.before;
      here =
          place_more (λ j. paint_of palette (slice_index_or dots (at + j) clear_dot)) c.loop-i.paints at c.loop-i.i
          c.paint_of.result (omega arith) was.here c.paint_of.ensures;
    }
