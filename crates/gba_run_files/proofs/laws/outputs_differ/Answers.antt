use Rattle.gba_run_files.proofs.OutputNames.{written-differ}
use Rattle.gba_run_files.proofs.laws.outputs_differ.Goals as goal

pub returns : goal.returns
returns c = λ out count job files lines pieces few. written-differ out count job files lines pieces few
