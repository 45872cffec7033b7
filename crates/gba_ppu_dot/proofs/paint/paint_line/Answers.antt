use Rattle.std.proofs.Common.{slice_index_or}
use Rattle.gba_ppu_dot.specs.Dots.{clear_dot}
use Rattle.gba_ppu_dot.specs.Paints.{paint_of}
use Rattle.gba_ppu_dot.proofs.Lists.{eight_paints}
use Rattle.gba_ppu_dot.proofs.paint.paint_line.Goals as goal

pub loop-part-preserved : goal.loop-part-preserved
loop-part-preserved c =
    eight_paints (λ k. paint_of c.args.palette.now (slice_index_or c.args.dots.now k clear_dot)) c.loop-part.paints
    c.paint_eight.new.paints c.loop-part.part c.loop-part.invariant c.paint_eight.ensures.before
    c.paint_eight.ensures.here
