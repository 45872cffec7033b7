use Rattle.std.proofs.Common.{◌∙◌, subst, sym}
use Rattle.gba_psr.specs.Status.{IsStatus}
use Rattle.gba_loose_devices.proofs.Checked.{sound-status}
use Rattle.gba_loose_devices.proofs.checks.has_status.Goals as goal

pub returns-clause-sound : goal.returns-clause-sound
returns-clause-sound c =
    λ test. subst IsStatus c.register.ensures (sound-status c.register.result (sym c.is_status.ensures ∙ test))
