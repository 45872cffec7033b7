use Rattle.gba_exec_quick.proofs.Equality.{quick_of_word-is}
use Rattle.gba_exec_quick.proofs.laws.quick_forms_have_their_effect.Goals as goal

pub returns : goal.returns
returns g c = quick_of_word-is g.B.Bus.code_price_of g.B.Bus.load_of g.B.Bus.store_of
