use Rattle.std.proofs.Common.{drop}
use Rattle.std.specs.List.{flat_map}
use Rattle.gba_joblog.specs.Log.{link_text, links_text}
use Rattle.gba_log.proofs.Printed.{Printed}
use Rattle.gba_log.proofs.printing.add_links.Given as goal

abbrev pub invariant-loop-pair : goal.invariant-loop-pair
invariant-loop-pair l =
    Printed l.initial.into l.into (links_text l.players l.fn.delays)
    (flat_map (link_text l.players l.fn.delays) (drop l.pair-index l.pair-items))
