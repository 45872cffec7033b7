use Rattle.std.proofs.Common.{ap, sym, ◌∙◌}
use Rattle.gba_psg.specs.Noise.{next_noise}
use Rattle.gba_psg.proofs.Moves.{repeated-more, repeated-none}
use Rattle.gba_psg.proofs.noise.noise_moved.Goals as goal

pub loop-init : goal.loop-init
loop-init c = sym (repeated-none (next_noise c.args.narrow) c.args.place)

pub loop-preserved : goal.loop-preserved
loop-preserved c =
    c.next_noise-place.ensures
    ∙ ap (next_noise c.args.narrow) c.loop.invariant
    ∙ sym (repeated-more (next_noise c.args.narrow) c.loop.counter c.args.place)
