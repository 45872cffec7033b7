use Rattle.gba_text.proofs.Languages.{one}
use Rattle.gba_frozen.specs.Answered.{kept_if}
use Rattle.gba_frozen.specs.Reading.{frozen_language}
use Rattle.gba_frozen.proofs.laws.one_answer.Goals as goal

pub returns : goal.returns
returns c = λ setup sound bytes answer said. one (frozen_language setup (kept_if sound)) bytes answer said
