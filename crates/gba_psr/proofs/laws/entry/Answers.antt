use Rattle.gba_psr.proofs.FileLaws.{link-after_entry, counter-after_entry, status-after_entry, saved_status-after_entry, file-after_entry}
use Rattle.gba_psr.proofs.laws.entry.Goals as goal

pub returns-clause-link : goal.returns-clause-link
returns-clause-link c = link-after_entry

pub returns-clause-counter : goal.returns-clause-counter
returns-clause-counter c = counter-after_entry

pub returns-clause-status : goal.returns-clause-status
returns-clause-status c = λ kind link file is. status-after_entry kind link file is.count

pub returns-clause-saved : goal.returns-clause-saved
returns-clause-saved c = saved_status-after_entry

pub returns-clause-file : goal.returns-clause-file
returns-clause-file c = file-after_entry
