use Rattle.std.proofs.Common.{◌<◌, ◌≤◌, ◌∙◌, ⊎_elim, ap, false}
use Rattle.std.proofs.lemmas.Bool.{cases_lt}
use Rattle.gba_ppu_mix.specs.Painting.{backdrop_colour}
use Rattle.gba_ppu_mix.proofs.line.fill.Goals as goal

pub loop-start-preserved : goal.loop-start-preserved
loop-start-preserved c = record {
  most = c.run_from-run.ensures.last;
  filled = λ k h.
      ⊎_elim
      (λ (low : k < c.loop-start.start). c.fill_run.ensures.before k low ∙ c.loop-start.invariant.filled k low)
      (λ (from : c.loop-start.start ≤ k).
      c.fill_run.ensures.filled k from h
      ∙ ap (backdrop_colour c.args.palette.now c.args.b.now) (c.run_from-run.ensures.shows k false from h))
      (cases_lt k c.loop-start.start);
}
