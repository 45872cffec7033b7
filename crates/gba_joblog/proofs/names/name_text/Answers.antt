use Rattle.std.proofs.lemmas.Str.{IsUtf8-from_ascii}
use Rattle.gba_joblog.proofs.NameTexts.{IsAscii-from_name}
use Rattle.gba_joblog.proofs.names.name_text.Goals as goal

pub unreachable-requires : goal.unreachable-requires
unreachable-requires c = c.in-Err.ensures.cases.0 (IsUtf8-from_ascii c.args.name.now
    (IsAscii-from_name c.args.name.now c.requires))
