use Rattle.std.proofs.Common.{◌+◌, drop, get_or, map, arith}
use Rattle.std.proofs.lemmas.List.{length-map}
use Rattle.std.proofs.lemmas.Result.{err_from_is_err_and}
use Rattle.gba_command.proofs.Calls.{leads-broken, leads-files, leads-first, leads-none, stopped}
use Rattle.gba_command.specs.Writing.{creation}
use Rattle.gba_joblog.specs.Views.{console_value}
use Rattle.gba_run_files.proofs.Lists.{outputs-here, outputs-none}
use Rattle.gba_run_files.specs.Outputs.{console_outputs, outputs_of}
use Rattle.gba_run_files.specs.Views.{names_value}
use Rattle.gba_run_files.proofs.creating.create_outputs.Goals as goal

pub loop-player-init : goal.loop-player-init
loop-player-init g c = λ files many. leads-first g.O.Sink.Tells _ _

pub returns-in_err-create_console : goal.returns-in_err-create_console
returns-in_err-create_console g c = λ files many.
    let i = c.loop-player.player in
    let names = c.args.names.now in
    let consoles = c.args.consoles.now in
    let one = names_value c.index-names-player.result in
    let f = get_or files i one in
    let p = err_from_is_err_and c.from_residual.result c.from_residual.ensures.1 in
    rw (p.1, p.2)
    (leads-broken g.O.Sink.Tells creation _
    (outputs_of (drop i (map names_value names)) (drop i (map console_value consoles)) (drop i files))
    (console_outputs one (console_value c.index-consoles-player.result) f)
    (outputs_of (drop (i + 1) (map names_value names)) (drop (i + 1) (map console_value consoles)) (drop (i + 1) files))
    _ _
    (outputs-here names consoles files i c.index-names-player.result c.index-consoles-player.result one
    (omega (arith, c.loop-player-test.true, c.requires))
    (omega (arith, c.loop-player-test.true)) (omega (arith, c.loop-player-test.true, many)) c.index-names-player.is
    c.index-consoles-player.is)
    (c.loop-player.invariant files many) _ _ (c.in_err-create_console.ensures f) (stopped _))

pub loop-player-preserved : goal.loop-player-preserved
loop-player-preserved g c = λ files many.
    let i = c.loop-player.player in
    let names = c.args.names.now in
    let consoles = c.args.consoles.now in
    let one = names_value c.index-names-player.result in
    let f = get_or files i one in
    leads-files g.O.Sink.Tells creation _
    (outputs_of (drop i (map names_value names)) (drop i (map console_value consoles)) (drop i files))
    (console_outputs one (console_value c.index-consoles-player.result) f)
    (outputs_of (drop (i + 1) (map names_value names)) (drop (i + 1) (map console_value consoles)) (drop (i + 1) files))
    _ _
    (outputs-here names consoles files i c.index-names-player.result c.index-consoles-player.result one
    (omega (arith, c.loop-player-test.true, c.requires))
    (omega (arith, c.loop-player-test.true)) (omega (arith, c.loop-player-test.true, many)) c.index-names-player.is
    c.index-consoles-player.is)
    (c.loop-player.invariant files many) _ (c.in_ok-create_console.ensures f)

pub returns : goal.returns
returns g c = λ files many.
    let i = c.loop-player.player in
    let names = c.args.names.now in
    let consoles = c.args.consoles.now in
    leads-none g.O.Sink.Tells creation _
    (outputs_of (drop i (map names_value names)) (drop i (map console_value consoles)) (drop i files)) _ _
    (outputs-none (map names_value names) (map console_value consoles) files i
    (omega (arith, c.loop-player-test.false, c.requires, length-map names names_value)))
    (c.loop-player.invariant files many)
