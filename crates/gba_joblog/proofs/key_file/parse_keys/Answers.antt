use Rattle.gba_text.proofs.Languages.{is_said}
use Rattle.gba_joblog.specs.Answers.{line_error}
use Rattle.gba_joblog.specs.KeyFile.{key_files, keys_of}
use Rattle.gba_joblog.proofs.SoundChanges.{keys-are-sound}
use Rattle.gba_joblog.proofs.key_file.parse_keys.Goals as goal

pub returns-clause-said : goal.returns-clause-said
unfolding keys_of
returns-clause-said c =
    is_said line_error key_files (λ changes. changes.items) c.args.bytes.now c.read_keys.result c.read_keys.ensures.keys

pub returns-clause-sound : goal.returns-clause-sound
returns-clause-sound c =
    keys-are-sound (λ changes. changes.items) c.args.bytes.now c.read_keys.result c.read_keys.ensures.keys
