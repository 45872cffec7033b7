use Rattle.std.proofs.Common.{◌≡◌, ◌∙◌, ℕ, sym, subst}
use Rattle.gba_bus.specs.declared.width.Width.TheVariants.{Half}
use Rattle.gba_io.specs.Bus.{core_read}
use Rattle.gba_console.proofs.Images.{fixed-read}
use Rattle.gba_console.proofs.fixed.execute_first.Goals as goal

pub returns-clause-stands : goal.returns-clause-stands
returns-clause-stands c = λ below b bios rom.
    let placed = c.place_of-kept.ensures below in
    subst (λ (n : ℕ). core_read b n n Half ≡ c.execute_first.new.kept.half) (sym placed.0)
    (fixed-read c.args.core.now b c.get.result Half placed.1 (record { bios = bios; rom = rom })
    ∙ sym (subst (λ (n : ℕ). c.args.half ≡ core_read c.args.core.now n n Half) (sym c.get.ensures) c.requires)
    ∙ sym c.execute_first.ensures.kept)
