use Rattle.std.proofs.Common.{◌∙◌, ap}
use Rattle.gba_run_files.specs.Frozen.{job_unstated}
use Rattle.gba_link.proofs.freezing.unstated_job.Goals as goal

pub returns-clause-filled : goal.returns-clause-filled
returns-clause-filled c = c.without_digests.ensures.value ∙ ap job_unstated c.in_ok-job.ensures.filled
