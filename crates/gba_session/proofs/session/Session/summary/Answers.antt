use Rattle.std.proofs.Common.{◌∙◌, List, ap, map, subst}
use Rattle.std.specs.List.{flat_map}
use Rattle.gba_console.specs.Machine.{Machine, without_limit}
use Rattle.gba_output.specs.StateFile.{summary_line}
use Rattle.gba_session.proofs.Asking.{whole-lines}
use Rattle.gba_session.proofs.session.Session.summary.Goals as goal
use Rattle.gba_session.specs.Held.{IsSegmented}
use Rattle.gba_session.specs.Session.{Consoles}

pub returns-clause-lines : goal.returns-clause-lines
returns-clause-lines c =
    let players = c.self.inside.players.items in
    let cut = c.self.inside.cut in
    let held = subst (λ (v : Consoles). IsSegmented v cut players) c.self.view_is c.self.invariant in
    c.lines_of.ensures.lines
    ∙ ap (λ (ms : List Machine). flat_map summary_line (map without_limit ms)) c.nodes.ensures.value
    ∙ whole-lines c.args.self.now cut players held (ap (λ (v : Consoles). v.asks) c.self.view_is)
    c.segments.ensures.live c.requires.over
