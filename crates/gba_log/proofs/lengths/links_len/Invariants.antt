use Rattle.std.proofs.Common.{◌≡◌, ◌+◌, ◌*◌, ◌≤◌, drop, length}
use Rattle.std.specs.List.{flat_map}
use Rattle.gba_joblog.specs.Log.{link_text, links_text}
use Rattle.gba_log.proofs.lengths.links_len.Given as goal

-- the bytes so far, and those of the pairs that are left
abbrev pub invariant-loop-pair : goal.invariant-loop-pair
invariant-loop-pair l =
    (l.total + length (flat_map (link_text l.players l.fn.delays) (drop l.pair-index l.pair-items))
    ≡ length (links_text l.players l.fn.delays)) × (l.total ≤ 68 * l.pair-index)
