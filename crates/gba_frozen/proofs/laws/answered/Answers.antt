use Rattle.gba_text.proofs.Languages.{says}
use Rattle.gba_frozen.specs.Answered.{kept_if}
use Rattle.gba_frozen.specs.Reading.{frozen_language}
use Rattle.gba_frozen.proofs.laws.answered.Goals as goal

pub returns : goal.returns
returns c = λ setup sound bytes. says (frozen_language setup (kept_if sound)) bytes
