use Rattle.std.proofs.Common.{◌<◌, length, ap, sym, subst, arith}
use Rattle.gba_frozen.specs.Places.{backup_of}
use Rattle.gba_frozen.specs.Views.{said_value}
use Rattle.gba_filling.specs.Consoles.{IsFilled, draft_at}
use Rattle.gba_filling.specs.Filling.{FilledJob, IsFilledJob}
use Rattle.gba_filling.specs.Loose.{LooseConsole}
use Rattle.gba_filling.proofs.Jobs.{job-console, job-live, job-nothing, job-player, others-of_console}
use Rattle.gba_filling.proofs.filling.FillingThawing.take.Goals as goal

pub index_mut-requires : goal.index_mut-requires
index_mut-requires c =
    let setup = c.args._setup.now in
    let inside = job-player setup c.requires.0 c.args.at (said_value c.args.said.now) c.args.self.now c.requires.1
    c.requires.2 in
    omega (arith, inside, ap (λ (j : FilledJob). length j.consoles) c.self.view_is)

pub keep-requires-in_default : goal.keep-requires-in_default
keep-requires-in_default c =
    let setup = c.args._setup.now in
    let d = c.requires.0 in
    let player = c.args.at.player in
    let before : FilledJob = record { consoles = c.self.inside.consoles.items; signals = c.self.inside.signals } in
    let held : IsFilledJob before setup d = subst (λ (j : FilledJob). IsFilledJob j setup d) (sym c.self.view_is)
    c.requires.1 in
    let inside : player < length before.consoles =
    job-player setup d c.args.at (said_value c.args.said.now) before held c.requires.2 in
    let old : IsFilled (backup_of setup player) (draft_at player d.consoles) c.index_mut.result.now =
    subst (λ (f : LooseConsole). IsFilled (backup_of setup player) (draft_at player d.consoles) f)
    (sym c.index_mut.ensures.value)
    (held.consoles player c.index_mut.result.now inside) in
    (setup, player, draft_at player d.consoles, c.requires.2.fits, old)

pub returns-in-Nothing : goal.returns-in-Nothing
returns-in-Nothing c d h next =
    job-nothing c.args._setup.now d c.args.at (said_value c.args.said.now) c.args.self.now
    (ap said_value c.in-Nothing.is) h

pub returns-in-Live : goal.returns-in-Live
returns-in-Live c d h next =
    let before : FilledJob = record { consoles = c.self.inside.consoles.items; signals = c.self.inside.signals } in
    let held : IsFilledJob before c.args._setup.now d = subst (λ (j : FilledJob). IsFilledJob j c.args._setup.now d)
    (sym c.self.view_is) h in
    job-live c.args._setup.now d c.args.at (said_value c.args.said.now) before c.in-Live.sender c.in-Live.signal
    c.keep.new.self
    (ap said_value c.in-Live.is) (c.keep.ensures d.sent held.signals) held

pub returns-in_default : goal.returns-in_default
returns-in_default c d h next =
    let setup = c.args._setup.now in
    let player = c.args.at.player in
    let said = said_value c.args.said.now in
    let before : FilledJob = record { consoles = c.self.inside.consoles.items; signals = c.self.inside.signals } in
    let held : IsFilledJob before setup d = subst (λ (j : FilledJob). IsFilledJob j setup d) (sym c.self.view_is) h in
    let inside : player < length before.consoles = job-player setup d c.args.at said before held next in
    let old : IsFilled (backup_of setup player) (draft_at player d.consoles) c.index_mut.result.now =
    subst (λ (f : LooseConsole). IsFilled (backup_of setup player) (draft_at player d.consoles) f)
    (sym c.index_mut.ensures.value)
    (held.consoles player c.index_mut.result.now inside) in
    let new = c.keep-in_default.ensures setup player (draft_at player d.consoles) next.fits old in
    job-console setup d c.args.at said before c.keep-in_default.new.self
    (others-of_console c.args.said.now c.in_default.not-Nothing c.in_default.not-Live) new held next
