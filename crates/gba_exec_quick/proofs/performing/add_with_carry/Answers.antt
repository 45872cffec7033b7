use Rattle.std.proofs.Common.{◌≡◌, ◌+◌, ◌%◌, ap, ◌∙◌, arith}
use Rattle.std.proofs.Math.Nat.{mod-add-mod}
use Rattle.std.specs.Prelude.{if◌then◌else◌}
use Rattle.gba_psr.specs.RegisterFile.{flags}
use Rattle.gba_exec_quick.proofs.performing.add_with_carry.Goals as goal

pub returns : goal.returns
returns c =
    let from : c.from.result ≡ (if (flags c.args.registers.now).carry then 1 else 0) =
    grind (arith, c.from.ensures, c.flags.ensures) in
    mod-add-mod (c.args.a + c.args.b) 4294967296 c.from.result
    ∙ ap (λ n. (c.args.a + c.args.b + n) % 4294967296) from
