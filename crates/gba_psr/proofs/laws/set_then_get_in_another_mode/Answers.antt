use Rattle.std.proofs.Common.{◌<◌, ℕ, get_or, length, ap, sym, ◌∙◌, arith}
use Rattle.std.proofs.lemmas.List.{get_or-set_same, get_or-set_other}
use Rattle.gba_psr.specs.Modes.{place}
use Rattle.gba_psr.specs.RegisterFile.{mode, status, with_register}
use Rattle.gba_psr.specs.Status.{mode_of, written_status}
use Rattle.gba_psr.proofs.FileLaws.{length-with_register, status-with_register, register-with_status}
use Rattle.gba_psr.proofs.Seats.{place_within}
use Rattle.gba_psr.proofs.laws.set_then_get_in_another_mode.Goals as goal

pub returns-clause-shared : goal.returns-clause-shared
unfolding with_register
returns-clause-shared c = λ file number value written is within shared.
    let low = place_within (mode file) number within in
    let some : place (mode file) number < length file = rw is.count (omega (arith, low)) in
    register-with_status (with_register file number value) number written
    (length-with_register file number value ∙ is.count) within
    ∙ ap (λ (s : ℕ). get_or (with_register file number value) (place (mode_of (written_status s written)) number) 0)
    (status-with_register file number value within)
    ∙ ap (λ (p : ℕ). get_or (with_register file number value) p 0) shared
    ∙ get_or-set_same file (place (mode file) number) value 0 some

pub returns-clause-banked : goal.returns-clause-banked
unfolding with_register
returns-clause-banked c = λ file number value written is within apart.
    register-with_status (with_register file number value) number written
    (length-with_register file number value ∙ is.count) within
    ∙ ap (λ (s : ℕ). get_or (with_register file number value) (place (mode_of (written_status s written)) number) 0)
    (status-with_register file number value within)
    ∙ get_or-set_other file (place (mode file) number) (place (mode_of (written_status (status file) written)) number)
    value 0 apart
    ∙ sym (register-with_status file number written is.count within)
