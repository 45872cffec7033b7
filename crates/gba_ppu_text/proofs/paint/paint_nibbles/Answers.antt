use Rattle.std.proofs.Common.{◌*◌, slice_index, arith}
use Rattle.gba_terms.specs.Bits.{field}
use Rattle.gba_ppu_text.specs.Text.{mirrored}
use Rattle.gba_ppu_dot.proofs.Lists.{place_kept, place_more}
use Rattle.gba_ppu_text.proofs.paint.paint_nibbles.Goals as goal

pub loop-column-preserved : goal.loop-column-preserved
loop-column-preserved c =
    let was = c.loop-column.invariant in
    let colours = c.args.colours.now in
    let new = slice_index colours c.bits-number.result in
    record {
      before = place_kept c.loop-column.paints c.args.paints.now c.args.at c.loop-column.column new was.before;
      drawn =
          place_more (λ i. slice_index colours (field c.args.row (4 * mirrored c.args.mirror i) 4)) c.loop-column.paints
          c.args.at c.loop-column.column new (omega arith) was.drawn
          (rw (c.bits-number.ensures, c.mirrored.ensures.value));
    }
