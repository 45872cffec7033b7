use Rattle.std.proofs.Common.{◌<◌, ◌≤◌, ◌∙◌, ⊎_elim, slice_index_or}
use Rattle.std.proofs.lemmas.Bool.{cases_lt}
use Rattle.gba_ppu_dot.specs.Dots.{clear_dot}
use Rattle.gba_ppu_mix.proofs.paints.put_shows.Goals as goal

pub loop-start-preserved : goal.loop-start-preserved
loop-start-preserved c = record {
  most = c.run_from-run.ensures.last;
  here = λ k h.
      ⊎_elim
      (λ (low : k < c.loop-start.start). c.put_run.ensures.before k low ∙ c.loop-start.invariant.here k low)
      (λ (from : c.loop-start.start ≤ k).
      c.put_run.ensures.here k from h
      ∙ c.run_from-run.ensures.shows k (slice_index_or c.args.dots.now k clear_dot).window from h)
      (cases_lt k c.loop-start.start);
}
