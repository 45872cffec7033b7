use Rattle.gba_console.proofs.Shearing.{shorn-unseen, tells-alike}
use Rattle.gba_console.proofs.laws.shorn_unseen.Goals as goal

pub returns-clause-unseen : goal.returns-clause-unseen
returns-clause-unseen c = shorn-unseen

pub returns-clause-tells : goal.returns-clause-tells
returns-clause-tells c = tells-alike
