use Rattle.gba_run_laws.proofs.Steps.{steps-hold}
use Rattle.gba_run_laws.proofs.laws.steps_hold.Goals as goal

pub returns : goal.returns
returns c =
    steps-hold c.words_stay_sound.ensures c.halfwords_stay_sound.ensures c.backups_stay_sound.ensures
    c.board_passes.ensures.all c.counts_what_it_keeps.ensures c.devices_stay.ensures c.serial_stays.ensures
    c.steps_pass.ensures c.writes_keep.ensures
    c.ends_apart.ensures c.stays_seated.ensures c.writes_keep_ends.ensures c.writes_keep_time.ensures
