use Rattle.gba_text.proofs.Languages.{is_said}
use Rattle.gba_joblog.specs.Answers.{line_error}
use Rattle.gba_joblog.specs.Language.{jobs, job_of}
use Rattle.gba_joblog.specs.Views.{job_value}
use Rattle.gba_joblog.proofs.Sound.{is_sound}
use Rattle.gba_joblog.proofs.job.Job.parse.Goals as goal

pub returns-clause-said : goal.returns-clause-said
unfolding job_of
returns-clause-said c = is_said line_error jobs job_value c.args.bytes.now c.read_job.result c.read_job.ensures.job

pub returns-clause-sound : goal.returns-clause-sound
returns-clause-sound c = is_sound job_value c.args.bytes.now c.read_job.result c.read_job.ensures.job
