use Rattle.gba_text.proofs.Languages.{one}
use Rattle.gba_asm.specs.Assembly.{assembly_of, sources}
use Rattle.gba_asm.specs.Places.{labels_of}
use Rattle.gba_asm.proofs.laws.one_answer.Goals as goal

pub returns : goal.returns
unfolding assembly_of
returns c = record { law = λ source. one (sources (labels_of source)) source }
