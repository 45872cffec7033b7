use Rattle.std.proofs.Common.{drop}
use Rattle.gba_arm_table.proofs.Packing.{Packs}
use Rattle.gba_arm_table.proofs.parts.pack.Given as goal

abbrev pub invariant-loop-part : goal.invariant-loop-part
invariant-loop-part l = Packs l.parts l.word (drop l.part-index l.parts)
