use Rattle.std.proofs.Common.{◌≡◌, ◌+◌, ◌*◌, ◌≤◌, drop, length}
use Rattle.std.specs.List.{flat_map}
use Rattle.gba_joblog.specs.Log.{out_text, outs_text}
use Rattle.gba_joblog.specs.Views.{console_value}
use Rattle.gba_log.proofs.lengths.outs_len.Given as goal

-- the bytes so far, and those of the outputs that are left
abbrev pub invariant-loop-kind : goal.invariant-loop-kind
invariant-loop-kind l =
    (l.total + length (flat_map (out_text (console_value l.fn.console)) (drop l.kind-index l.kind-items))
    ≡ length (outs_text (console_value l.fn.console))) × (l.total ≤ 84 * l.kind-index)
