use Rattle.std.specs.Prelude.{map, string_bytes}
use Rattle.gba_command.specs.Views.{end_of}
use Rattle.gba_command.proofs.Completing.{completes}
use Rattle.gba_link.specs.CommandPlan.{plan_of}
use Rattle.gba_link.specs.Work.{work_value}
use Rattle.gba_link.proofs.gba_link.Goals as goal

pub returns-clause-complete : goal.returns-clause-complete
returns-clause-complete g c = λ tells present whole unrisen.
    completes g.S.Store.Tells g.S.Store.files g.S.Store.Reads g.S.Store.absences g.S.Store.faults g.S.Store.gives
    g.met.S.Store.says g.O.Sink.Tells c.answer_work.result
    (plan_of (map string_bytes c.args.words.now)) c.args.store.now c.do_words-work.new.store
    (end_of work_value c.do_words-work.result) _ _
    tells present whole unrisen c.do_words-work.ensures c.answer_work.ensures
