use Rattle.gba_filling.specs.Memories.{HaveLengths}
use Rattle.gba_image.specs.declared.backup.Backup.{Backup}
use Rattle.gba_thaw_tests.proofs.whole.set_memories.Given as goal

abbrev pub invariant-loop-offset : goal.invariant-loop-offset
invariant-loop-offset g l =
    (backup : Backup) → HaveLengths backup l.fn.loose.memories → HaveLengths backup l.loose.memories
