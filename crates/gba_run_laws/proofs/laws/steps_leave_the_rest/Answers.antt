use Rattle.gba_run_laws.proofs.Staying.{leaves-rest}
use Rattle.gba_run_laws.proofs.laws.steps_leave_the_rest.Goals as goal

pub returns : goal.returns
returns c =
    leaves-rest c.backups_stay_sound.ensures c.stays_seated.ensures c.board_passes.ensures.all
    c.counts_what_it_keeps.ensures
