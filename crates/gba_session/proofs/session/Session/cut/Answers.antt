use Rattle.std.proofs.Common.{◌∙◌, ap}
use Rattle.gba_session.proofs.session.Session.cut.Goals as goal
use Rattle.gba_session.specs.Session.{Consoles, segment_cut}

pub returns : goal.returns
returns c = c.self.invariant.is ∙ ap (λ (v : Consoles). segment_cut v) c.self.view_is
