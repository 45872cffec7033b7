use Rattle.std.proofs.Common.{◌≡◌, false, ap, subst, sym, ◌∙◌}
use Rattle.gba_flash.specs.Flash.{FlashMemory, has_banks}
use Rattle.gba_flash.specs.Soundness.{IsSoundMachine}
use Rattle.gba_flash.proofs.Commands.{is_bank, none-chooses}
use Rattle.gba_flash.proofs.Sound.{command-sound}
use Rattle.gba_flash.proofs.flash.Flash.write.Goals as goal

pub invariant_of-self-in-Second : goal.invariant_of-self-in-Second
invariant_of-self-in-Second c =
    let after = c.self-in-Second in
    let said = c.command_of-command in
    let backup = λ (f : FlashMemory). f.backup in
    let same : after.inside.backup ≡ c.self.inside.backup =
    ap backup after.view_is ∙ ap backup c.erase.ensures ∙ sym (ap backup c.self.view_is) in
    let none : has_banks after.inside.backup ≡ false → is_bank said.result ≡ false =
    λ one. subst (λ k. is_bank k ≡ false) (sym said.ensures)
    (none-chooses c.args.offset c.args.value c.self.inside.backup c.self.inside.machine.armed
    (sym (ap has_banks same) ∙ one)) in
    record {
      flash = after.invariant.flash;
      bytes = after.invariant.bytes;
      machine = subst (IsSoundMachine after.inside.backup) (sym c.obey.ensures)
          (command-sound after.inside.backup after.inside.machine said.result after.invariant.machine none);
    }
