use Rattle.std.proofs.Common.{◌∙◌}
use Rattle.gba_snapshot.proofs.Places.{number_placed}
use Rattle.gba_snapshot.proofs.reading.SnapshotFreezing.value.Goals as goal

pub returns-clause-value : goal.returns-clause-value
returns-clause-value c =
    c.number.ensures.number
    ∙ number_placed c.have_own_places.ensures c.args.self.now c.args.field c.requires.known c.requires.single
