use Rattle.gba_thaw.proofs.Joins.{cable-kept}
use Rattle.gba_thaw.proofs.cut.go_on.Goals as goal

pub join_all-requires : goal.join_all-requires
join_all-requires c =
    cable-kept c.part-consoles.result.0.items c.thaw_consoles.new.consoles.items c.part-consoles.result.1
    c.thaw_consoles.ensures.many c.part-consoles.ensures.cable
