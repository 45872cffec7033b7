use Rattle.std.specs.Prelude.{codes, string_bytes, string_len}
use Rattle.std.proofs.Common.{◌≡◌, ◌+◌, ◌++◌, ap, length, length-append, rules, arith}
use Rattle.gba_run_files.proofs.naming.frozen_name.Goals as goal

pub returns-clause-short : goal.returns-clause-short
returns-clause-short c =
    let count : string_len c.in_ok-name.name ≡ length (string_bytes c.in_ok-name.name) = search rules in
    let text : length (string_bytes c.in_ok-name.name) ≡ length (c.args.out.now ++ codes ".frozen") =
    ap length c.in_ok-name.ensures.ok in
    let sum : length (c.args.out.now ++ codes ".frozen") ≡ length c.args.out.now + 7 =
    length-append c.args.out.now (codes ".frozen") in
    omega arith
