use Rattle.std.proofs.Common.{length, ap, arith}
use Rattle.gba_joblog.specs.Views.{file_value}
use Rattle.gba_log.proofs.ShortPieces.{name_short}
use Rattle.gba_log.proofs.lengths.file_len.Goals as goal

pub returns-clause-most : goal.returns-clause-most
returns-clause-most c =
    let short = name_short (file_value c.args.file.now) c.requires.sound in
    let name = ap length c.as_bytes-name.ensures.value in
    omega (arith, short, name, c.digest_len.ensures.most)
