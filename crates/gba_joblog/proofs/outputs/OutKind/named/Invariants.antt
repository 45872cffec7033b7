use Rattle.std.proofs.Common.{◌≡◌, drop}
use Rattle.std.specs.List.{find}
use Rattle.gba_joblog.specs.Outputs.{is_named, kind_named}
use Rattle.gba_joblog.proofs.outputs.OutKind.named.Given as goal

abbrev pub invariant-loop-kind : goal.invariant-loop-kind
invariant-loop-kind l = find (is_named l.fn.word) (drop l.kind-index l.kind-items) ≡ kind_named l.fn.word
