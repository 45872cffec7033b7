use Rattle.std.proofs.Common.{slice_index}
use Rattle.gba_ppu_blend.proofs.More.{eight_more}
use Rattle.gba_ppu_mix.specs.Painting.{painted_stack_colour, painted_stack_of, place_at}
use Rattle.gba_ppu_mix.proofs.line.mix.Goals as goal

pub loop-k-preserved : goal.loop-k-preserved
loop-k-preserved c =
    eight_more
    (λ x. painted_stack_colour c.args.b.now (slice_index c.args.lines.now.shows x)
    (painted_stack_of c.args.c.now (place_at c.args.lines.now x)))
    c.loop-k.colours c.mix_eight.new.colours c.loop-k.k c.loop-k.invariant c.mix_eight.ensures.before
    c.mix_eight.ensures.here
