use Rattle.std.proofs.Common.{◌≡◌, List, length, ap, ◌∙◌, arith}
use Rattle.gba_console.specs.Machine.{Machine}
use Rattle.gba_console.specs.declared.keys.KeyState.{KeyState}
use Rattle.gba_console.specs.declared.pouring.ConsoleParts.{ConsoleParts}
use Rattle.gba_thaw.proofs.Pours.{applied_few}
use Rattle.gba_thaw.proofs.console.pour_all.Goals as goal

pub pour-requires-clause-applied : goal.pour-requires-clause-applied
pour-requires-clause-applied c =
    let m = c.args.console.now in
    let f = c.args.loose.now in
    let keys : c.restore_flash.new.self.keys ≡ m.keys =
    ap (λ (one : Machine). one.keys) c.restore_flash.ensures
    ∙ ap (λ (one : Machine). one.keys) c.pour_memories.ensures in
    omega (
      arith,
      ap (λ (parts : ConsoleParts). parts.applied) c.requires.parts,
      applied_few c.args.until m f.numbers c.args.io.now f.drawn c.requires.goes_on,
      ap (λ (ks : List KeyState). length ks) keys,
    )
