use Rattle.gba_frozen_text.proofs.MemoryRows.{memories-again}
use Rattle.gba_frozen_text.proofs.laws.memories_again.Goals as goal

pub returns : goal.returns
returns c = memories-again
