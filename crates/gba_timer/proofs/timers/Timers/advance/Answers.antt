use Rattle.std.proofs.Common.{ap, sym, ◌∙◌}
use Rattle.std.specs.Prelude.{slice_set}
use Rattle.gba_timer.specs.Timers.{cycle, overflow_mark, with_marks}
use Rattle.gba_timer.proofs.Counting.{after_cycles-more, after_cycles-none, with_marks-more, with_marks-none}
use Rattle.gba_timer.proofs.timers.Timers.advance.Goals as goal

pub loop-count-init : goal.loop-count-init
loop-count-init c = (sym (after_cycles-none c.args.self.now), sym (with_marks-none c.args.self.now c.args.mark.now))

pub loop-count-preserved : goal.loop-count-preserved
loop-count-preserved c =
    let n = c.loop-count.count in
    let start = c.args.self.now in (
      c.cycle.ensures.timers ∙ ap cycle c.loop-count.invariant.0 ∙ sym (after_cycles-more n start),
      ap (λ marks. slice_set marks n c.cycle.result) c.loop-count.invariant.1
          ∙ ap (λ one. slice_set (with_marks n start c.args.mark.now) n one)
          (c.cycle.ensures.mark ∙ ap overflow_mark c.loop-count.invariant.0)
          ∙ sym (with_marks-more n start c.args.mark.now),
    )
