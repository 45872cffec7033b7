use Rattle.gba_link.proofs.TwoWords.{two-words}
use Rattle.gba_command.specs.Words.{command_of}
use Rattle.gba_link.proofs.laws.two_is_wrong_words.Goals as goal

pub returns : goal.returns
returns g c = λ words old new end before after goes answers.
    two-words g.O.Sink.Tells g.S.Store.gives (command_of words) old new end before after goes answers
