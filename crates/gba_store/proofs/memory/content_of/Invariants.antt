use Rattle.std.proofs.Common.{◌≡◌, drop}
use Rattle.gba_store.specs.Memory.{content_in}
use Rattle.gba_store.proofs.memory.content_of.Given as goal

abbrev pub invariant-loop-file : goal.invariant-loop-file
invariant-loop-file l = content_in (drop l.file-index l.files) l.name ≡ content_in l.files l.name
