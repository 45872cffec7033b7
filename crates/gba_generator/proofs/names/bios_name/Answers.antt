use Rattle.std.specs.Prelude.{string_bytes, string_len}
use Rattle.std.proofs.Common.{◌≡◌, ap, length, rules, arith}
use Rattle.gba_generator.specs.Job.{bios_file}
use Rattle.gba_generator.proofs.MadeJob.{name-short}
use Rattle.gba_generator.proofs.names.bios_name.Goals as goal

pub returns-clause-short : goal.returns-clause-short
returns-clause-short c =
    let count : string_len c.in_ok-name.name ≡ length (string_bytes c.in_ok-name.name) = search rules in
    let name : string_bytes c.in_ok-name.name ≡ bios_file c.args.out.now c.args.player = search rules in
    omega (arith, count, ap length name, name-short c.args.out.now c.args.player c.requires.0 c.requires.1)
