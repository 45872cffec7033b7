use Rattle.std.proofs.Common.{◌≡◌, List, map, ap, subst}
use Rattle.std.specs.Prelude.{IfOk}
use Rattle.gba_image.specs.declared.images.ConsoleImages.{ConsoleImages}
use Rattle.gba_inputs.specs.Views.{inputs_value}
use Rattle.gba_joblog.specs.Job.{WholeJob}
use Rattle.gba_joblog.specs.Views.{job_value}
use Rattle.gba_session.specs.Start.{start_of}
use Rattle.gba_trace.specs.Trace.{trace_count, trace_text}
use Rattle.gba_trace.specs.Way.{sheared}
use Rattle.gba_link.specs.RunPlan.{images_in}
use Rattle.gba_link.proofs.tracing.trace_job.Goals as goal

pub returns-clause-text : goal.returns-clause-text
returns-clause-text c =
    let made = c.in_ok-job in
    let inputs = map inputs_value c.args.inputs.items in
    let from = c.args.first in
    let many = c.args.count in
    let told =
    c.trace.ensures.text (start_of (job_value made.job) made.images.items) (ap sheared c.in_ok-cut.ensures.start) in
    subst (λ (j : WholeJob). IfOk c.trace.result (λ traced.
    traced.text.items ≡ trace_text from many j.cycles (start_of j (map images_in inputs)))) made.ensures.filled
    (subst (λ (ones : List ConsoleImages). IfOk c.trace.result (λ traced.
    traced.text.items ≡ trace_text from many made.job.cycles (start_of (job_value made.job) ones)))
    made.ensures.images told)

pub returns-clause-lines : goal.returns-clause-lines
returns-clause-lines c =
    let made = c.in_ok-job in
    let inputs = map inputs_value c.args.inputs.items in
    let from = c.args.first in
    let many = c.args.count in
    let told =
    c.trace.ensures.lines (start_of (job_value made.job) made.images.items) (ap sheared c.in_ok-cut.ensures.start) in
    subst (λ (j : WholeJob). IfOk c.trace.result (λ traced.
    traced.lines ≡ trace_count from many j.cycles (start_of j (map images_in inputs)))) made.ensures.filled
    (subst (λ (ones : List ConsoleImages). IfOk c.trace.result (λ traced.
    traced.lines ≡ trace_count from many made.job.cycles (start_of (job_value made.job) ones)))
    made.ensures.images told)
