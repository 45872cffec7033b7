use Rattle.std.proofs.Common.{◌≡◌, drop}
use Rattle.std.specs.List.{find}
use Rattle.gba_joblog.specs.Cable.{is_link_of, link_for}
use Rattle.gba_joblog.proofs.cable.link_for.Given as goal

abbrev pub invariant-loop-link : goal.invariant-loop-link
invariant-loop-link l = find (is_link_of l.pair) (drop l.link-index l.links) ≡ link_for l.pair l.links
