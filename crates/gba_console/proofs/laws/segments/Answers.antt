use Rattle.gba_console.proofs.Segmenting.{live-segments, segments}
use Rattle.gba_console.proofs.laws.segments.Goals as goal

pub returns-clause-all : goal.returns-clause-all
returns-clause-all c = segments c.maps.ensures c.split.ensures

pub returns-clause-live : goal.returns-clause-live
returns-clause-live c = live-segments c.maps.ensures c.alike.ensures c.parts.ensures
