use Rattle.std.proofs.Common.{◌≡◌}
use Rattle.gba_flash.specs.Flash.{erased}
use Rattle.gba_flash.proofs.flash.blank.Given as goal

abbrev pub invariant-loop-place : goal.invariant-loop-place
invariant-loop-place l = l.bytes ≡ erased l.first l.place l.initial.bytes
