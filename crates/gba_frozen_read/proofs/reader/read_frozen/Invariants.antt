use Rattle.std.proofs.Common.{◌≡◌, true, length}
use Rattle.gba_frozen.specs.Places.{is_place}
use Rattle.gba_frozen.specs.Reading.{Draft}
use Rattle.gba_frozen_read.specs.Thawed.{IsCounted}
use Rattle.gba_frozen_read.proofs.Steps.{IsReading}
use Rattle.gba_frozen_read.proofs.reader.read_frozen.Given as goal

abbrev pub invariant-loop-rest : goal.invariant-loop-rest
invariant-loop-rest g l = record {
  place : is_place l.at ≡ true;
  held : (d : Draft) × g.T.Thawing.Holds l.into l.setup d × (d.at ≡ l.at)
      × IsCounted l.setup d × IsReading g.T.Thawing.Whole l.setup l.bytes l.number l.rest d;
}

abbrev pub decreases-loop-rest : goal.decreases-loop-rest
decreases-loop-rest g l = length l.rest
