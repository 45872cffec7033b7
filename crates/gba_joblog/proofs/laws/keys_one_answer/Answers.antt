use Rattle.gba_text.proofs.Languages.{one}
use Rattle.gba_joblog.specs.KeyFile.{key_files, keys_of}
use Rattle.gba_joblog.proofs.laws.keys_one_answer.Goals as goal

pub returns : goal.returns
unfolding keys_of
returns c = record { law = one key_files }
