use Rattle.std.proofs.Common.{◌<◌, ◌∙◌, arith}
use Rattle.gba_ppu_mix.proofs.Runs.{same_shows}
use Rattle.gba_ppu_mix.proofs.windows.Windows.run_from.Goals as goal

pub returns-clause-shows : goal.returns-clause-shows
returns-clause-shows c = λ k b from below.
    let end = c.shows_from.ensures.end in
    let within = c.next_edge-end-2.ensures.last in
    let second : k < c.next_edge-end-2.result = omega (arith, end, below) in
    let first : k < c.next_edge-end.result = omega (arith, second, within) in
    c.shows_from.ensures.shows b
    ∙ same_shows c.args.self.now k c.args.x b (c.next_edge-end.ensures.same k from first)
    (c.next_edge-end-2.ensures.same k from second)
