use Rattle.link_order.specs.NodeKind.{NodeKind, kind_of}
use Rattle.link_order.proofs.Starts.{sound_start, in_time_start}
use Rattle.link_laws.proofs.start.Goals as goal

pub returns : goal.returns
returns g c consoles delay cable fresh =
    let kind : NodeKind g.N.Node.Record = kind_of g.N.Node.clock g.N.Node.was g.N.Node.next in
    record {
      sound = sound_start kind consoles delay fresh;
      in_time = in_time_start kind consoles delay cable.some_delay fresh;
    }
