use Rattle.std.proofs.Common.{append_assoc}
use Rattle.gba_generator.proofs.job.console_lines.Goals as goal

pub returns : goal.returns
returns c = simp append_assoc c.in_ok-text.ensures.ok
