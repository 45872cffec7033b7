use Rattle.std.proofs.Common.{sym, ◌∙◌, arith, map}
use Rattle.std.specs.Prelude.{option_map}
use Rattle.gba_joblog.specs.Clash.{is_written}
use Rattle.gba_joblog.specs.Views.{console_value}
use Rattle.gba_joblog.proofs.OutputNames.{clash_at, clash_done}
use Rattle.gba_joblog.proofs.clash.inputs_clash.Goals as goal

pub loop-console-preserved : goal.loop-console-preserved
loop-console-preserved c =
    let cs = c.args.consoles.now in
    let here = clash_at console_value (is_written (option_map (λ one. one.now) c.args.more) c.args.out.now
    (map console_value cs)) cs c.loop-console.console-index c.console-item.result c.loop-console.found
    (omega arith) c.console-item.is in
    rw (c.least-found.ensures, c.console_clash.ensures) (sym here ∙ c.loop-console.invariant)

pub returns : goal.returns
returns c =
    let cs = c.args.consoles.now in
    sym (clash_done console_value (is_written (option_map (λ one. one.now) c.args.more) c.args.out.now
    (map console_value cs)) cs c.loop-console.console-index c.loop-console.found (omega arith))
    ∙ c.loop-console.invariant
