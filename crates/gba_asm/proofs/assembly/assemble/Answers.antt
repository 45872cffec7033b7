use Rattle.gba_text.proofs.Languages.{is_said}
use Rattle.gba_asm.specs.Answers.{line_error}
use Rattle.gba_asm.specs.Assembly.{assembly_of, sources}
use Rattle.gba_asm.specs.Places.{labels_of}
use Rattle.gba_asm.proofs.assembly.assemble.Goals as goal

pub returns-clause-said : goal.returns-clause-said
unfolding assembly_of
returns-clause-said c =
    is_said line_error (sources (labels_of c.args.source.now)) _ c.args.source.now c.assemble_lines.result
    c.assemble_lines.ensures
