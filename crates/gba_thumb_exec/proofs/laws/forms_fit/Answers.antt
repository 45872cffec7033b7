use Rattle.gba_thumb_exec.proofs.FormEffects.{half-form-fits}
use Rattle.gba_thumb_exec.proofs.laws.forms_fit.Goals as goal

pub returns : goal.returns
returns c = half-form-fits c.quick_forms_fit.ensures c.operations_fit.ensures
