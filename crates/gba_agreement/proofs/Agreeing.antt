-- The laws, from those of the consoles, of their units and of the trace.
use Rattle.std.proofs.Common.{ℕ}
use Rattle.link_order.specs.NodeKind.{IsLawful, NodeKind}
use Rattle.link_order.specs.Cut.{Cut}
use Rattle.link_steps.specs.Law.{CarriesSignals, MakesSteps}
use Rattle.gba_agreement.specs.UnitView.{HasUnit, UnitView}
use Rattle.gba_agreement.specs.Agreement.{AreLinked, UnitsAgreeInMulti, UnitsAgreeInNormal}
use Rattle.gba_agreement.proofs.Following.{Given}
use Rattle.gba_agreement.proofs.MultiAgreement.{agreed as agreed-multi}
use Rattle.gba_agreement.proofs.NormalAgreement.{agreed as agreed-normal}

given-by : {C : Type 0} (kind : NodeKind C) → IsLawful kind → MakesSteps kind → CarriesSignals kind
    → (view : UnitView C) → HasUnit kind view → (cut : Cut C) (until : ℕ) → AreLinked kind view cut
    → Given kind view cut until
given-by kind law steps signals view has cut until linked = record {
  law = law;
  has = has;
  linked = linked;
  steps = steps cut until linked.cable linked.sound;
  signals = signals cut until linked.cable linked.sound;
}

pub in-multi : {C : Type 0} (kind : NodeKind C) → IsLawful kind → MakesSteps kind → CarriesSignals kind
    → UnitsAgreeInMulti kind
in-multi kind law steps signals view has cut until k end s start word linked direct starts mode first end_is ready =
    agreed-multi (given-by kind law steps signals view has cut until linked) direct k end s start word starts mode first
    end_is ready

pub in-normal : {C : Type 0} (kind : NodeKind C) → IsLawful kind → MakesSteps kind → CarriesSignals kind
    → UnitsAgreeInNormal kind
in-normal kind law steps signals view has cut until p q k end m s start x u linked one starts normal end_is met
    waiting =
    agreed-normal (given-by kind law steps signals view has cut until linked) p q k end m s start x u one starts normal
    end_is met waiting
