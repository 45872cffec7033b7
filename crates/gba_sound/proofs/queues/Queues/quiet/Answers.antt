use Rattle.std.proofs.Common.{◌≡◌, ◌∙◌, rules}
use Rattle.std.specs.Prelude.{min}
use Rattle.gba_timer.specs.Quiet.{quiet_of}
use Rattle.gba_sound.specs.Queues.{timer_of}
use Rattle.gba_sound.proofs.Silence.{quiet-is}
use Rattle.gba_sound.proofs.queues.Queues.quiet.Goals as goal

pub returns-clause-value : goal.returns-clause-value
returns-clause-value c =
    let s = c.args.self.now in
    let ts = c.args.timers.now in
    let both : c.min.result ≡ min (quiet_of (timer_of 0 s) ts) (quiet_of (timer_of 1 s) ts) = search rules in
    both ∙ quiet-is ts s
