use Rattle.std.proofs.Common.{◌≡◌, ◌+◌, ◌∙◌, drop, get_or, sym, ap, arith}
use Rattle.std.specs.List.{flat_map}
use Rattle.std.specs.Prelude.{string_bytes}
use Rattle.std.proofs.lemmas.Result.{err_from_is_err_and}
use Rattle.gba_command.proofs.Calls.{leads-broken, leads-files, leads-first, leads-none, stopped}
use Rattle.gba_command.specs.Writing.{creation}
use Rattle.gba_joblog.proofs.EachKind.{at-per_kind}
use Rattle.gba_joblog.specs.Outputs.{all_kinds, at_kind}
use Rattle.gba_joblog.specs.Views.{console_value}
use Rattle.gba_joblog.specs.declared.outputs.OutKind.TheVariants.{Frames}
use Rattle.gba_run_files.proofs.Lists.{flat-more, flat-none}
use Rattle.gba_run_files.specs.Outputs.{console_outputs, kind_output}
use Rattle.gba_run_files.specs.Views.{names_value}
use Rattle.gba_run_files.proofs.creating.create_console.Goals as goal

pub loop-kind-init : goal.loop-kind-init
unfolding console_outputs
loop-kind-init g c = λ files. leads-first g.O.Sink.Tells _ _

pub returns-in_err-create_if : goal.returns-in_err-create_if
returns-in_err-create_if g c = λ files.
    let i = c.loop-kind.kind-index in
    let kind = get_or all_kinds i Frames in
    let f = kind_output (names_value c.args.names.now) (console_value c.args.console.now) files in
    let name : string_bytes c.at.result.now ≡ at_kind (names_value c.args.names.now) kind =
    ap string_bytes c.at.ensures ∙ sym (at-per_kind (λ k. string_bytes (at_kind c.args.names.now.each k)) kind) in
    let p = err_from_is_err_and c.from_residual.result c.from_residual.ensures.1 in
    rw (p.1, p.2)
    (leads-broken g.O.Sink.Tells creation _ (flat_map f (drop i all_kinds)) (f kind)
    (flat_map f (drop (i + 1) all_kinds)) _ _
    (flat-more f all_kinds i Frames c.loop-kind-test.true) (c.loop-kind.invariant files) _ _
    (rw (c.asks_for.ensures, name) at (c.in_err-create_if.ensures (at_kind files kind))) (stopped _))

pub loop-kind-preserved : goal.loop-kind-preserved
loop-kind-preserved g c = λ files.
    let i = c.loop-kind.kind-index in
    let kind = get_or all_kinds i Frames in
    let f = kind_output (names_value c.args.names.now) (console_value c.args.console.now) files in
    let name : string_bytes c.at.result.now ≡ at_kind (names_value c.args.names.now) kind =
    ap string_bytes c.at.ensures ∙ sym (at-per_kind (λ k. string_bytes (at_kind c.args.names.now.each k)) kind) in
    leads-files g.O.Sink.Tells creation _ (flat_map f (drop i all_kinds)) (f kind)
    (flat_map f (drop (i + 1) all_kinds)) _ _
    (flat-more f all_kinds i Frames c.loop-kind-test.true) (c.loop-kind.invariant files) _
    (rw (c.asks_for.ensures, name) at (c.in_ok-create_if.ensures (at_kind files kind)))

pub returns : goal.returns
returns g c = λ files.
    let i = c.loop-kind.kind-index in
    let f = kind_output (names_value c.args.names.now) (console_value c.args.console.now) files in
    leads-none g.O.Sink.Tells creation _ (flat_map f (drop i all_kinds)) _ _
    (flat-none f all_kinds i (omega (arith, c.loop-kind-test.false))) (c.loop-kind.invariant files)
