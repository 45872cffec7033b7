use Rattle.gba_link.proofs.WrongWords.{refused-words, wrong-words}
use Rattle.gba_command.specs.Words.{command_of}
use Rattle.gba_link.proofs.laws.refuses_wrong_words.Goals as goal

pub returns : goal.returns
returns g c = λ words old new end goes. (
  refused-words g.S.Store.gives (command_of words) old new end goes,
  wrong-words g.S.Store.gives (command_of words) old new end goes,
)
