use Rattle.std.proofs.Common.{◌+◌, drop, get_or, arith}
use Rattle.std.specs.List.{flat_map}
use Rattle.std.proofs.lemmas.Result.{err_from_is_err_and}
use Rattle.gba_command.proofs.Calls.{leads-broken, leads-files, leads-first, leads-none, stopped}
use Rattle.gba_command.specs.Writing.{addition}
use Rattle.gba_joblog.specs.Views.{console_value}
use Rattle.gba_session.specs.Files.{asks_of}
use Rattle.gba_joblog.specs.declared.outputs.OutKind.TheVariants.{Frames}
use Rattle.gba_run_files.proofs.Lists.{flat-more, flat-none}
use Rattle.gba_run_files.specs.Pieces.{kind_piece}
use Rattle.gba_run_files.specs.Views.{names_value}
use Rattle.gba_run_files.proofs.pieces.append_console.Goals as goal

pub loop-place-init : goal.loop-place-init
loop-place-init g c = λ m there. leads-first g.O.Sink.Tells _ _

pub returns-in_err-append_kind : goal.returns-in_err-append_kind
returns-in_err-append_kind g c = λ m there.
    let i = c.loop-place.place in
    let kinds = c.args.kinds.now in
    let f = kind_piece (names_value c.args.names.now) (asks_of (console_value c.args.console.now)) m in
    let p = err_from_is_err_and c.from_residual.result c.from_residual.ensures.1 in
    rw (p.1, p.2)
    (leads-broken g.O.Sink.Tells addition _ (flat_map f (drop i kinds)) (f (get_or kinds i Frames))
    (flat_map f (drop (i + 1) kinds)) _ _
    (flat-more f kinds i Frames c.loop-place-test.true) (c.loop-place.invariant m there) _ _
    (c.in_err-append_kind.ensures m there) (stopped _))

pub loop-place-preserved : goal.loop-place-preserved
loop-place-preserved g c = λ m there.
    let i = c.loop-place.place in
    let kinds = c.args.kinds.now in
    let f = kind_piece (names_value c.args.names.now) (asks_of (console_value c.args.console.now)) m in
    leads-files g.O.Sink.Tells addition _ (flat_map f (drop i kinds)) (f (get_or kinds i Frames))
    (flat_map f (drop (i + 1) kinds)) _ _
    (flat-more f kinds i Frames c.loop-place-test.true) (c.loop-place.invariant m there) _
    (c.in_ok-append_kind.ensures m there)

pub returns : goal.returns
returns g c = λ m there.
    let i = c.loop-place.place in
    let kinds = c.args.kinds.now in
    let f = kind_piece (names_value c.args.names.now) (asks_of (console_value c.args.console.now)) m in
    leads-none g.O.Sink.Tells addition _ (flat_map f (drop i kinds)) _ _
    (flat-none f kinds i (omega (arith, c.loop-place-test.false))) (c.loop-place.invariant m there)
