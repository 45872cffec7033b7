use Rattle.std.specs.Prelude.{string_bytes, string_len}
use Rattle.std.proofs.Common.{◌≡◌, ap, length, rules, arith}
use Rattle.gba_joblog.specs.Clash.{output_file}
use Rattle.gba_run_files.proofs.FileNames.{name-short}
use Rattle.gba_run_files.proofs.naming.name_of.Goals as goal

pub returns-clause-short : goal.returns-clause-short
returns-clause-short c =
    let count : string_len c.in_ok-name.name ≡ length (string_bytes c.in_ok-name.name) = search rules in
    let name : string_bytes c.in_ok-name.name ≡ output_file c.args.out.now c.args.player c.args.kind = search rules in
    let short = name-short c.args.out.now c.args.player c.args.kind c.requires.0 c.requires.1 in
    omega (arith, count, ap length name, short)
