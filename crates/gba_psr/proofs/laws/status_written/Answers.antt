use Rattle.gba_psr.specs.RegisterFile.{mode}
use Rattle.gba_psr.proofs.FileLaws.{status-with_status, file-with_status, flags-with_flags, mode-with_flags, saved_status-own_saved}
use Rattle.gba_psr.proofs.Seats.{saved_banked}
use Rattle.gba_psr.proofs.Views.{unsaved_kept}
use Rattle.gba_psr.proofs.laws.status_written.Goals as goal

pub returns-clause-status : goal.returns-clause-status
returns-clause-status c = λ file value is. status-with_status file value is.count

pub returns-clause-file : goal.returns-clause-file
returns-clause-file c = file-with_status

pub returns-clause-saved : goal.returns-clause-saved
returns-clause-saved c =
    λ file value is own. saved_status-own_saved file value is.count (λ none. own ((saved_banked (mode file)).1 none))

pub returns-clause-none_saved : goal.returns-clause-none_saved
returns-clause-none_saved c = λ file value none. unsaved_kept file value ((saved_banked (mode file)).0 none)

pub returns-clause-flags : goal.returns-clause-flags
returns-clause-flags c = λ file new is. flags-with_flags file new is.count

pub returns-clause-mode : goal.returns-clause-mode
returns-clause-mode c = λ file new is. mode-with_flags file new is.count
