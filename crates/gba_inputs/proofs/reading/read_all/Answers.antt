use Rattle.std.proofs.Common.{map, arith}
use Rattle.std.proofs.lemmas.Result.{err_from_is_err_and}
use Rattle.gba_command.proofs.Each.{leads-begin, leads-lacks}
use Rattle.gba_joblog.specs.Soundness.{IsConsole}
use Rattle.gba_joblog.specs.Views.{console_value}
use Rattle.gba_inputs.specs.InputsPlan.{inputs_plan}
use Rattle.gba_inputs.specs.Views.{inputs_value}
use Rattle.gba_joblog.proofs.OutputNames.{holds_at}
use Rattle.gba_inputs.proofs.Consoles.{ends, goes_on, stops}
use Rattle.gba_inputs.proofs.reading.read_all.Goals as goal

pub loop-console-init : goal.loop-console-init
loop-console-init g c =
    let gives = g.S.Store.gives in
    rw c.new-all.ensures.items
    (leads-begin gives (inputs_plan (map console_value c.args.consoles.now)) c.args.store.now)

pub read_console-requires : goal.read_console-requires
read_console-requires g c =
    holds_at IsConsole console_value c.args.consoles.now c.loop-console.console-index c.console-item.result c.requires
    c.loop-console-test.true c.console-item.is

pub returns-in_err-inputs : goal.returns-in_err-inputs
returns-in_err-inputs g c =
    let gives = g.S.Store.gives in
    let p = err_from_is_err_and c.from_residual.result c.from_residual.ensures.1 in
    rw (p.1, p.2)
    (stops gives console_value inputs_value (inputs_plan (map console_value c.args.consoles.now))
    c.loop-console.all.items c.args.consoles.now c.loop-console.console-index c.console-item.result _ _ _ _
    c.loop-console-test.true c.console-item.is c.loop-console.invariant c.in_err-inputs.ensures)

pub returns-in_err-keep : goal.returns-in_err-keep
returns-in_err-keep g c =
    let gives = g.S.Store.gives in
    let consoles = c.args.consoles.now in
    let index = c.loop-console.console-index in
    let on =
    goes_on gives console_value inputs_value (inputs_plan (map console_value consoles)) c.loop-console.all.items
    consoles index c.console-item.result c.in_ok-inputs.inputs _ _ _ c.loop-console-test.true c.console-item.is
    c.loop-console.invariant c.in_ok-inputs.ensures in
    let p = err_from_is_err_and c.from_residual-in_err-keep.result c.from_residual-in_err-keep.ensures.1 in
    rw (p.1, p.2, c.in_err-keep.ensures.memory)
    (leads-lacks gives (inputs_plan (map console_value consoles)) _ _ _ on)

pub loop-console-preserved : goal.loop-console-preserved
loop-console-preserved g c =
    let gives = g.S.Store.gives in
    rw c.in_ok-keep.ensures.kept
    (goes_on gives console_value inputs_value (inputs_plan (map console_value c.args.consoles.now))
    c.loop-console.all.items c.args.consoles.now c.loop-console.console-index c.console-item.result
    c.in_ok-inputs.inputs _ _ _ c.loop-console-test.true c.console-item.is c.loop-console.invariant
    c.in_ok-inputs.ensures)

pub returns : goal.returns
returns g c =
    let gives = g.S.Store.gives in
    ends gives console_value inputs_value (inputs_plan (map console_value c.args.consoles.now)) c.loop-console.all.items
    c.args.consoles.now c.loop-console.console-index _ _ (omega arith) c.loop-console.invariant
