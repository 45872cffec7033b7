use Rattle.gba_exec_laws.proofs.Halves.{sound-word-execution}
use Rattle.gba_exec_laws.proofs.laws.words_stay_sound.Goals as goal

pub returns : goal.returns
returns g c =
    sound-word-execution g.B.Bus.code_price_of g.B.Bus.load_of g.B.Bus.store_of g.met.B.Bus.loads_fit
    c.operations_fit.ensures
