use Rattle.std.proofs.Common.{◌≡◌, sym, subst, rules}
use Rattle.link_node.specs.Delays.{all_delays}
use Rattle.link_node.specs.declared.delays.Delays.{Delays}
use Rattle.gba_joblog.specs.Soundness.{IsJob}
use Rattle.gba_joblog.specs.Views.{job_value}
use Rattle.gba_generator.specs.Job.{job}
use Rattle.gba_generator.proofs.MadeJob.{job-sound}
use Rattle.gba_generator.proofs.job.make_job.Goals as goal

pub returns-clause-sound : goal.returns-clause-sound
returns-clause-sound c =
    let same : job_value (record {
      cycles = c.args.cycles;
      delays = all_delays 512;
      consoles = c.in_ok-consoles.consoles;
    })
    ≡ job c.args.cycles c.args.out.now = search rules in
    let has : Delays → Type 0 =
    λ delays. IsJob
    (job_value (record { cycles = c.args.cycles; delays = delays; consoles = c.in_ok-consoles.consoles })) in
    subst has (sym c.all.ensures.value) (subst IsJob (sym same)
    (job-sound c.args.cycles c.args.out.now c.requires.cycles.0 c.requires.cycles.1 c.requires.out))
