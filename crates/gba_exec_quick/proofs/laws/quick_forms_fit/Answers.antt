use Rattle.gba_exec_quick.proofs.Fitting.{quick_of_word-fits}
use Rattle.gba_exec_quick.proofs.laws.quick_forms_fit.Goals as goal

pub returns : goal.returns
returns c = quick_of_word-fits
