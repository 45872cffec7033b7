use Rattle.gba_link.proofs.CommandFiles.{commands-under}
use Rattle.gba_link.proofs.laws.commands_have_files.Goals as goal

pub returns : goal.returns
returns c = λ files command run fine comes.
    commands-under c.runs_have_own_files.ensures c.frozen_runs_have_own_files.ensures
    c.resumed_runs_have_own_files.ensures c.thaws_soundly.ensures files command run fine comes
