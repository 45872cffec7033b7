use Rattle.std.proofs.Common.{sym, ◌∙◌, ap, arith}
use Rattle.gba_psr.specs.Modes.{saved_place}
use Rattle.gba_psr.proofs.Views.{mode_kept, unsaved_kept, with_saved_status_kept}
use Rattle.gba_psr.proofs.registers.Registers.set_spsr.Goals as goal

pub returns-then-place-ne-CPSR : goal.returns-then-place-ne-CPSR
returns-then-place-ne-CPSR c =
    let place = c.saved_place_of-place.ensures.place ∙ ap saved_place c.bits.ensures in
    rw (← c.self.view_is, c.keep_status.ensures)
    (with_saved_status_kept c.self.inside.numbers c.args.value c.saved_place_of-place.result (omega arith) place
    c.if-place-ne-CPSR.true)

pub returns-else-place-ne-CPSR : goal.returns-else-place-ne-CPSR
returns-else-place-ne-CPSR c =
    let place = c.saved_place_of-place.ensures.place ∙ ap saved_place c.bits.ensures in
    rw (← c.self.view_is)
    (sym (unsaved_kept _ c.args.value
    (ap saved_place (mode_kept c.self.inside.numbers) ∙ sym place ∙ c.if-place-ne-CPSR.false)))
