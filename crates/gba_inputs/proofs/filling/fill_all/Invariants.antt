use Rattle.gba_inputs.proofs.FilledLists.{Filling}
use Rattle.gba_inputs.proofs.filling.fill_all.Given as goal

abbrev pub invariant-loop-i : goal.invariant-loop-i
invariant-loop-i l = Filling l.initial.consoles l.consoles l.initial.inputs l.inputs l.i
