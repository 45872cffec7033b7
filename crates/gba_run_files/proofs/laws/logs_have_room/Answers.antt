use Rattle.gba_run_files.proofs.LogRoom.{log-more}
use Rattle.gba_run_files.proofs.laws.logs_have_room.Goals as goal

pub returns : goal.returns
returns c = λ job files sound. log-more job files sound
