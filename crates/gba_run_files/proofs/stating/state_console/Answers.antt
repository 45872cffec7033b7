use Rattle.std.proofs.Common.{◌≡◌, ◌+◌, ◌∙◌, ◌∷◌, drop, get_or, sym, ap, arith}
use Rattle.std.specs.Prelude.{Option, is_some, option_map, string_bytes}
use Rattle.std.proofs.lemmas.List.{drop_all, drop_more}
use Rattle.std.proofs.lemmas.Option.{slice_get_within}
use Rattle.gba_command.specs.Views.{cause_value}
use Rattle.gba_joblog.specs.Job.{ConsoleJob}
use Rattle.gba_joblog.specs.Outputs.{all_kinds, at_kind}
use Rattle.gba_joblog.specs.Statements.{asks_for, output_of}
use Rattle.gba_joblog.specs.Views.{console_value}
use Rattle.gba_joblog.specs.declared.job.OutLine.{OutLine}
use Rattle.gba_joblog.specs.declared.outputs.PerKind.{PerKind}
use Rattle.gba_joblog.specs.declared.outputs.OutKind.TheVariants.{Frames}
use Rattle.gba_joblog.proofs.EachKind.{all_with, at-per_kind}
use Rattle.gba_session.specs.Files.{asks_of, bytes_if, files_of, output_bytes}
use Rattle.gba_run_files.specs.Outputs.{first_differs, kind_differs, kind_stated, or_later, outs_of, output_differs, stated_out}
use Rattle.gba_run_files.specs.Views.{names_value}
use Rattle.gba_run_files.proofs.StatedLists.{asked-only, differs-if, later-none, one-compared, one-stated, stated-if}
use Rattle.gba_run_files.proofs.stating.state_console.Goals as goal

pub judge-judged-requires-clause-player : goal.judge-judged-requires-clause-player
judge-judged-requires-clause-player c =
    slice_get_within c.args.digests.now.asks c.args.player (asks_of (console_value c.args.console.now)) c.requires.asks

pub judge-judged-requires-clause-asks : goal.judge-judged-requires-clause-asks
judge-judged-requires-clause-asks c = λ asks is.
    asked-only c.args.digests.now.asks c.args.player asks (console_value c.args.console.now)
    (get_or all_kinds c.loop-kind.kind-index Frames) is c.requires.asks
    ∙ sym (ap (λ (o : Option OutLine). is_some o) c.at-in-loop-kind.ensures)

pub loop-kind-preserved : goal.loop-kind-preserved
loop-kind-preserved c = λ m there.
    let console = console_value c.args.console.now in
    let asks = asks_of console in
    let files = files_of asks m in
    let names = names_value c.args.names.now in
    let i = c.loop-kind.kind-index in
    let kind = get_or all_kinds i Frames in
    let kinds = drop (i + 1) all_kinds in
    let before = c.loop-kind.invariant m there in
    let split : drop i all_kinds ≡ kind ∷ kinds = drop_more all_kinds i Frames c.loop-kind-test.true in
    let name : string_bytes c.at.result.now ≡ at_kind names kind =
    ap string_bytes c.at.ensures ∙ sym (at-per_kind (λ k. string_bytes (at_kind c.args.names.now.each k)) kind) in
    let asked : at_kind asks kind ≡ is_some (output_of console kind) = at-per_kind (asks_for console) kind in
    let file : bytes_if asks m kind ≡ at_kind files kind = sym (at-per_kind (bytes_if asks m) kind) in
    let stated : c.judge-judged.result.out ≡ kind_stated console files kind =
    c.judge-judged.ensures.out m there
    ∙ ap (λ line. stated_out line (output_bytes kind m)) c.at-in-loop-kind.ensures
    ∙ sym (stated-if (output_of console kind) (output_bytes kind m) (at_kind asks kind) asked)
    ∙ ap (stated_out (output_of console kind)) file in
    let told : option_map cause_value c.judge-judged.result.cause ≡ kind_differs names console files kind =
    c.judge-judged.ensures.cause m there
    ∙ ap (λ n. output_differs n c.at-in-loop-kind.result.now (output_bytes kind m)) name
    ∙ ap (λ line. output_differs (at_kind names kind) line (output_bytes kind m)) c.at-in-loop-kind.ensures
    ∙ sym (differs-if (at_kind names kind) (output_of console kind) (output_bytes kind m) (at_kind asks kind) asked)
    ∙ ap (output_differs (at_kind names kind) (output_of console kind)) file in
    let with_outs : PerKind (Option OutLine) → ConsoleJob =
    λ outs. record (console_value c.loop-kind.console) { outs = outs } in
    let more =
    one-stated console files kind kinds c.loop-kind.console.outs c.put.new.self c.judge-judged.result.out stated
    c.put.ensures in
    let later = one-compared (kind_differs names console files) kind kinds (option_map cause_value c.loop-kind.cause)
    (option_map cause_value c.judge-judged.result.cause) (option_map cause_value c.or_later-cause.result) told
    c.or_later-cause.ensures in (
      ap with_outs (sym more)
          ∙ ap (λ ks. with_outs (all_with ks (outs_of console files) c.loop-kind.console.outs)) (sym split) ∙ before.0,
      sym later
          ∙ ap (λ ks. or_later (option_map cause_value c.loop-kind.cause)
          (first_differs (kind_differs names console files) ks)) (sym split) ∙ before.1,
    )

pub returns-clause-console : goal.returns-clause-console
returns-clause-console c = λ m there.
    let console = console_value c.args.console.now in
    let files = files_of (asks_of console) m in
    let with_outs : PerKind (Option OutLine) → ConsoleJob =
    λ outs. record (console_value c.loop-kind.console) { outs = outs } in
    ap (λ ks. with_outs (all_with ks (outs_of console files) c.loop-kind.console.outs))
    (sym (drop_all c.loop-kind.kind-index all_kinds (omega (arith, c.loop-kind-test.false))))
    ∙ (c.loop-kind.invariant m there).0

pub returns-clause-cause : goal.returns-clause-cause
returns-clause-cause c = λ m there.
    let console = console_value c.args.console.now in
    let differs = kind_differs (names_value c.args.names.now) console (files_of (asks_of console) m) in
    sym (later-none (option_map cause_value c.loop-kind.cause))
    ∙ ap (λ ks. or_later (option_map cause_value c.loop-kind.cause) (first_differs differs ks))
    (sym (drop_all c.loop-kind.kind-index all_kinds (omega (arith, c.loop-kind-test.false))))
    ∙ (c.loop-kind.invariant m there).1
