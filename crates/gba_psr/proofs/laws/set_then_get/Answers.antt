use Rattle.gba_psr.proofs.FileLaws.{register-with_register_same, register-with_register_other, status-with_register, saved_status-with_register, file-with_register}
use Rattle.gba_psr.proofs.laws.set_then_get.Goals as goal

pub returns-clause-same : goal.returns-clause-same
returns-clause-same c = λ file number value is within. register-with_register_same file number value is.count within

pub returns-clause-others : goal.returns-clause-others
returns-clause-others c = register-with_register_other

pub returns-clause-status : goal.returns-clause-status
returns-clause-status c = status-with_register

pub returns-clause-saved : goal.returns-clause-saved
returns-clause-saved c = saved_status-with_register

pub returns-clause-file : goal.returns-clause-file
returns-clause-file c = file-with_register
