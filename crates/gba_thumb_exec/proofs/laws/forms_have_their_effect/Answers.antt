use Rattle.gba_thumb_exec.proofs.FormEffects.{half-is}
use Rattle.gba_thumb_exec.proofs.laws.forms_have_their_effect.Goals as goal

pub returns : goal.returns
returns g c =
    half-is g.B.Bus.code_price_of g.B.Bus.load_of g.B.Bus.store_of c.quick_forms_have_their_effect.ensures
