use Rattle.std.proofs.Common.{◌+◌, ◌<◌, drop, length, map, ap, arith}
use Rattle.std.proofs.lemmas.List.{length-map}
use Rattle.std.proofs.lemmas.Result.{err_from_is_err_and}
use Rattle.gba_command.proofs.Calls.{leads-broken, leads-files, leads-first, leads-none, stopped}
use Rattle.gba_command.specs.Writing.{addition}
use Rattle.gba_joblog.specs.Views.{console_value}
use Rattle.gba_session.specs.Files.{asks_of}
use Rattle.gba_session.specs.Session.{segment_cut}
use Rattle.gba_run_files.proofs.Lists.{asked-at, machine-at, pieces-here, pieces-none}
use Rattle.gba_run_files.specs.Pieces.{console_pieces, cut_pieces}
use Rattle.gba_run_files.specs.Views.{names_value}
use Rattle.gba_run_files.proofs.pieces.append_pieces.Goals as goal

pub loop-player-init : goal.loop-player-init
loop-player-init g c = leads-first g.O.Sink.Tells _ _

pub append_console-requires-clause-asks : goal.append_console-requires-clause-asks
append_console-requires-clause-asks g c =
    let consoles = c.args.consoles.now in
    asked-at consoles c.args.session.now.asks c.loop-player.player c.index-consoles-player.result c.requires.asks
    (omega (
      arith,
      c.loop-player-test.true,
      c.players-player-end.ensures.asks,
      ap length c.requires.asks,
      length-map (map console_value consoles) asks_of,
      length-map consoles console_value,
    ))
    c.index-consoles-player.is

pub returns-in_err-append_console : goal.returns-in_err-append_console
returns-in_err-append_console g c =
    let i = c.loop-player.player in
    let kinds = c.args.kinds.now in
    let names = c.args.names.now in
    let consoles = c.args.consoles.now in
    let asks = c.args.session.now.asks in
    let ms = (segment_cut c.args.session.now).consoles in
    let n = c.index-names-player.result in
    let one = c.index-consoles-player.result in
    let within : i < length consoles =
    omega (
      arith,
      c.loop-player-test.true,
      c.players-player-end.ensures.asks,
      ap length c.requires.asks,
      length-map (map console_value consoles) asks_of,
      length-map consoles console_value,
    ) in
    let m = machine-at ms i (omega (
      arith,
      c.loop-player-test.true,
      c.players-player-end.ensures.segment,
      c.players-player-end.ensures.asks,
    )) in
    let p = err_from_is_err_and c.from_residual.result c.from_residual.ensures.1 in
    rw (p.1, p.2)
    (leads-broken g.O.Sink.Tells addition _
    (cut_pieces kinds (drop i (map names_value names)) (drop i asks) (drop i ms))
    (console_pieces kinds (names_value n) (asks_of (console_value one)) m.0)
    (cut_pieces kinds (drop (i + 1) (map names_value names)) (drop (i + 1) asks) (drop (i + 1) ms)) _ _
    (pieces-here kinds names consoles asks ms i n one m.0 (omega (arith, within, c.requires.names)) within
    (omega (arith, c.loop-player-test.true, c.players-player-end.ensures.segment, c.players-player-end.ensures.asks))
    c.index-names-player.is c.index-consoles-player.is c.requires.asks m.2)
    c.loop-player.invariant _ _ (c.in_err-append_console.ensures m.0 m.1) (stopped _))

pub loop-player-preserved : goal.loop-player-preserved
loop-player-preserved g c =
    let i = c.loop-player.player in
    let kinds = c.args.kinds.now in
    let names = c.args.names.now in
    let consoles = c.args.consoles.now in
    let asks = c.args.session.now.asks in
    let ms = (segment_cut c.args.session.now).consoles in
    let n = c.index-names-player.result in
    let one = c.index-consoles-player.result in
    let within : i < length consoles =
    omega (
      arith,
      c.loop-player-test.true,
      c.players-player-end.ensures.asks,
      ap length c.requires.asks,
      length-map (map console_value consoles) asks_of,
      length-map consoles console_value,
    ) in
    let m = machine-at ms i (omega (
      arith,
      c.loop-player-test.true,
      c.players-player-end.ensures.segment,
      c.players-player-end.ensures.asks,
    )) in
    leads-files g.O.Sink.Tells addition _
    (cut_pieces kinds (drop i (map names_value names)) (drop i asks) (drop i ms))
    (console_pieces kinds (names_value n) (asks_of (console_value one)) m.0)
    (cut_pieces kinds (drop (i + 1) (map names_value names)) (drop (i + 1) asks) (drop (i + 1) ms)) _ _
    (pieces-here kinds names consoles asks ms i n one m.0 (omega (arith, within, c.requires.names)) within
    (omega (arith, c.loop-player-test.true, c.players-player-end.ensures.segment, c.players-player-end.ensures.asks))
    c.index-names-player.is c.index-consoles-player.is c.requires.asks m.2)
    c.loop-player.invariant _ (c.in_ok-append_console.ensures m.0 m.1)

pub returns : goal.returns
returns g c =
    let i = c.loop-player.player in
    let kinds = c.args.kinds.now in
    let names = c.args.names.now in
    let consoles = c.args.consoles.now in
    let asks = c.args.session.now.asks in
    let ms = (segment_cut c.args.session.now).consoles in
    leads-none g.O.Sink.Tells addition _
    (cut_pieces kinds (drop i (map names_value names)) (drop i asks) (drop i ms)) _ _
    (pieces-none kinds (map names_value names) asks ms i
    (omega (
      arith,
      c.loop-player-test.false,
      c.players-player-end.ensures.asks,
      ap length c.requires.asks,
      length-map (map console_value consoles) asks_of,
      length-map consoles console_value,
      c.requires.names,
      length-map names names_value,
    )))
    c.loop-player.invariant
