use Rattle.gba_resume_laws.proofs.Resuming.{go-on}
use Rattle.gba_resume_laws.proofs.laws.frozen_jobs_go_on_as_run.Goals as goal

pub returns : goal.returns
returns c = go-on c.runs_can_be_frozen.ensures c.frozen_files_are_short.ensures c.frozen_runs_go_on.ensures
