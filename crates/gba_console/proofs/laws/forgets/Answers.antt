use Rattle.gba_console.proofs.Behind.{behind-forgotten, behind-unseen}
use Rattle.gba_console.proofs.Segmenting.{forgets-soundly}
use Rattle.gba_console.proofs.laws.forgets.Goals as goal

pub returns-clause-unseen : goal.returns-clause-unseen
returns-clause-unseen c = behind-unseen

pub returns-clause-again : goal.returns-clause-again
returns-clause-again c = behind-forgotten

pub returns-clause-soundly : goal.returns-clause-soundly
returns-clause-soundly c = forgets-soundly c.alike.ensures
