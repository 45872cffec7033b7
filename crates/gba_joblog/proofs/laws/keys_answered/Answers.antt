use Rattle.gba_text.proofs.Languages.{says}
use Rattle.gba_joblog.specs.KeyFile.{key_files, keys_of}
use Rattle.gba_joblog.proofs.laws.keys_answered.Goals as goal

pub returns : goal.returns
unfolding keys_of
returns c = record { law = says key_files }
