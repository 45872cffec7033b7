use Rattle.std.specs.Prelude.{string_bytes}
use Rattle.gba_joblog.proofs.NameTexts.{name-short}
use Rattle.gba_inputs.proofs.images.name_of.Goals as goal

pub returns-clause-short : goal.returns-clause-short
returns-clause-short c =
    rw c.as_str.ensures.value (name-short (string_bytes c.args.file.now.name) c.requires.named)
