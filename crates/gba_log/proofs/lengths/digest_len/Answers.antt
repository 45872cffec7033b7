use Rattle.gba_log.proofs.ShortPieces.{digest_line_is}
use Rattle.gba_log.proofs.lengths.digest_len.Goals as goal

pub returns-in-Some-clause-value : goal.returns-in-Some-clause-value
returns-in-Some-clause-value c = digest_line_is c.args.digest.now c.in-Some.field-0 c.in-Some.is c.requires
