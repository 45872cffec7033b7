use Rattle.std.proofs.Common.{◌≡◌, ◌+◌, ◌<◌, ◌∙◌, List, get_or, length, map, sym, ap, arith, subst}
use Rattle.std.specs.Prelude.{option_map}
use Rattle.std.proofs.lemmas.List.{get_or-map, length-map, map-set}
use Rattle.std.proofs.lemmas.Option.{get_or_from_slice_get}
use Rattle.gba_command.specs.Views.{cause_value}
use Rattle.gba_joblog.specs.Job.{ConsoleJob}
use Rattle.gba_joblog.specs.Views.{console_value}
use Rattle.gba_session.proofs.Consoles.{files-long}
use Rattle.gba_session.specs.Files.{all_files, asks_of, files_of}
use Rattle.gba_session.specs.Session.{whole_cut}
use Rattle.gba_run_files.proofs.Lists.{machine-at}
use Rattle.gba_run_files.proofs.StatedLists.{Stating, all-files-get, asked-here, stating-more, stating-stated, stating-told}
use Rattle.gba_run_files.specs.Views.{names_value}
use Rattle.gba_run_files.proofs.stating.state_consoles.Goals as goal

pub state_console-later-requires-clause-asks : goal.state_console-later-requires-clause-asks
state_console-later-requires-clause-asks c =
    let asks = c.args.digests.now.asks in
    let names = map names_value c.args.names.now in
    let files = all_files asks (whole_cut c.args.digests.now).consoles in
    let old = map console_value c.args.consoles.now in
    let now = map console_value c.loop-player.consoles in
    let i = c.loop-player.player in
    let held = c.loop-player.invariant in
    let one = console_value (get_or c.loop-player.consoles i c.index-consoles-player.result) in
    let within : i < length now =
    omega (
      arith,
      c.loop-player-test.true,
      c.players-player-end.ensures.asks,
      ap length c.requires.asks,
      length-map old asks_of,
      held.many,
    ) in
    asked-here names files old (option_map cause_value c.loop-player.cause) now i held asks one c.requires.asks within
    (sym (get_or-map console_value c.loop-player.consoles i c.index-consoles-player.result one
    (omega (arith, within, length-map c.loop-player.consoles console_value))))

pub loop-player-preserved : goal.loop-player-preserved
loop-player-preserved c =
    let asks = c.args.digests.now.asks in
    let ms = (whole_cut c.args.digests.now).consoles in
    let names = map names_value c.args.names.now in
    let files = all_files asks ms in
    let old = map console_value c.args.consoles.now in
    let now = map console_value c.loop-player.consoles in
    let i = c.loop-player.player in
    let held = c.loop-player.invariant in
    let cause = option_map cause_value c.loop-player.cause in
    let one = console_value (get_or c.loop-player.consoles i c.index-consoles-player.result) in
    let n = names_value c.index-names-player.result in
    let within : i < length now =
    omega (
      arith,
      c.loop-player-test.true,
      c.players-player-end.ensures.asks,
      ap length c.requires.asks,
      length-map old asks_of,
      held.many,
    ) in
    let here : one ≡ get_or now i one =
    sym (get_or-map console_value c.loop-player.consoles i c.index-consoles-player.result one
    (omega (arith, within, length-map c.loop-player.consoles console_value))) in
    let named : i < length c.args.names.now =
    omega (arith, within, held.many, length-map c.args.consoles.now console_value, c.requires.names) in
    let many : length asks ≡ length ms =
    omega (arith, c.players-player-end.ensures.asks, c.players-player-end.ensures.whole) in
    let there : i < length asks = omega (arith, c.loop-player-test.true, c.players-player-end.ensures.asks) in
    let m = machine-at ms i (omega (arith, there, many)) in
    let f = files_of (asks_of one) m.0 in
    let asked : get_or asks i (asks_of one) ≡ asks_of one =
    get_or_from_slice_get asks i (asks_of one) (asks_of one)
    (asked-here names files old cause now i held asks one c.requires.asks within here) in
    let f_is : f ≡ get_or files i f =
    sym (all-files-get asks ms i (asks_of one) m.0 f there (omega (arith, there, many))
    ∙ ap (λ a. files_of a (get_or ms i m.0)) asked ∙ ap (files_of (asks_of one)) (sym m.2)) in
    subst
    (λ (cs : List ConsoleJob). Stating names files old (option_map cause_value c.or_later-cause.result) cs (i + 1))
    (sym (map-set console_value c.loop-player.consoles i c.state_console-later.new.console))
    (stating-more names files old cause now i held n f one (console_value c.state_console-later.new.console)
    (option_map cause_value c.state_console-later.result) (option_map cause_value c.or_later-cause.result) within
    (omega (arith, named, length-map c.args.names.now names_value)) (omega (arith, there, files-long asks ms many))
    (sym (get_or-map names_value c.args.names.now i c.index-names-player.result n named
    ∙ ap names_value (sym c.index-names-player.is))) f_is here
    (c.state_console-later.ensures.console m.0 m.1) (c.state_console-later.ensures.cause m.0 m.1)
    c.or_later-cause.ensures)

pub returns-clause-consoles : goal.returns-clause-consoles
returns-clause-consoles c =
    let held = c.loop-player.invariant in
    stating-stated _ _ _ _ (map console_value c.loop-player.consoles) c.loop-player.player held
    (omega (
      arith,
      c.loop-player-test.false,
      c.players-player-end.ensures.asks,
      ap length c.requires.asks,
      length-map (map console_value c.args.consoles.now) asks_of,
      held.many,
    ))

pub returns-clause-cause : goal.returns-clause-cause
returns-clause-cause c =
    let held = c.loop-player.invariant in
    stating-told (map names_value c.args.names.now) _ _ _ _ c.loop-player.player held
    (omega (
      arith,
      c.loop-player-test.false,
      c.players-player-end.ensures.asks,
      ap length c.requires.asks,
      length-map (map console_value c.args.consoles.now) asks_of,
      length-map c.args.consoles.now console_value,
      c.requires.names,
      length-map c.args.names.now names_value,
    ))

pub returns-clause-many : goal.returns-clause-many
returns-clause-many c =
    let asks = c.args.digests.now.asks in
    let ms = (whole_cut c.args.digests.now).consoles in
    omega (
      arith,
      files-long asks ms (omega (arith, c.players-player-end.ensures.asks, c.players-player-end.ensures.whole)),
      ap length c.requires.asks,
      length-map (map console_value c.args.consoles.now) asks_of,
      length-map c.args.consoles.now console_value,
    )
