use Rattle.std.proofs.Common.{◌<◌, sym, subst}
use Rattle.std.specs.Prelude.{length}
use Rattle.link_core.specs.Kept.{Flight}
use Rattle.link_core.proofs.Keeping.{flight_more}
use Rattle.link_core.proofs.shell.Shell.add.Goals as goal

pub invariant_of-self : goal.invariant_of-self
invariant_of-self c =
    let room = subst (λ (f : Flight). length f.sent < 16384) (sym c.self.view_is) c.requires.room in
    rw c.put_sent.ensures.items (flight_more _ c.args.one _ _ _ c.self.invariant room c.requires.widths
    c.put_sent.ensures.room)
