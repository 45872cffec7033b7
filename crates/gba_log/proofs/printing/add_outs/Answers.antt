use Rattle.std.proofs.Common.{◌+◌, drop, get_or}
use Rattle.std.specs.List.{flat_map}
use Rattle.gba_joblog.specs.Log.{out_text, outs_text}
use Rattle.gba_joblog.specs.Outputs.{all_kinds}
use Rattle.gba_joblog.specs.Views.{console_value}
use Rattle.gba_joblog.specs.declared.outputs.OutKind.TheVariants.{Frames}
use Rattle.gba_log.proofs.Printed.{kinds-at, printed-more}
use Rattle.gba_log.proofs.printing.add_outs.Goals as goal

pub loop-kind-preserved : goal.loop-kind-preserved
loop-kind-preserved c =
    let text = out_text (console_value c.args.console.now) in
    let i = c.loop-kind.kind-index in
    printed-more c.args.into.now c.loop-kind.into c.add_out.new.into (outs_text (console_value c.args.console.now))
    (text (get_or all_kinds i Frames)) (flat_map text (drop (i + 1) all_kinds))
    (rw (kinds-at text all_kinds i c.loop-kind-test.true) at c.loop-kind.invariant)
    c.add_out.ensures
