use Rattle.std.proofs.Common.{Ok}
use Rattle.gba_command.specs.Views.{generate_words_value}
use Rattle.gba_command.proofs.Plans.{goes-judged}
use Rattle.gba_link.specs.GeneratedRun.{generated_run}
use Rattle.gba_link.specs.Work.{work_value}
use Rattle.gba_link.proofs.commands.do_command.Goals as goal

pub returns-in-Generate : goal.returns-in-Generate
returns-in-Generate g c =
    let gives = g.S.Store.gives in
    let words = generate_words_value c.in-Generate.words in
    rw c.in-Generate.is (goes-judged gives work_value (Ok (generated_run words)) c.generate.result _ c.generate.ensures)
