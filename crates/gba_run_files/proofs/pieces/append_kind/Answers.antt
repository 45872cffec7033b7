use Rattle.std.proofs.Common.{◌≡◌, ◌∙◌, Bool, [], map, sym, ap, subst, if◌then◌else◌}
use Rattle.std.specs.Prelude.{string_bytes}
use Rattle.gba_command.proofs.Calls.{performs-none}
use Rattle.gba_command.specs.Views.{write_end}
use Rattle.gba_command.specs.Writing.{PerformsAll, Wrote, addition}
use Rattle.gba_joblog.proofs.EachKind.{at-per_kind}
use Rattle.gba_joblog.specs.Outputs.{at_kind}
use Rattle.gba_joblog.specs.Statements.{asks_for}
use Rattle.gba_joblog.specs.Views.{console_value}
use Rattle.gba_session.specs.Files.{output_bytes}
use Rattle.gba_run_files.specs.Pieces.{piece_if}
use Rattle.gba_run_files.specs.Views.{names_value}
use Rattle.gba_run_files.proofs.pieces.append_kind.Goals as goal

pub returns-then-asks_for : goal.returns-then-asks_for
returns-then-asks_for g c = λ m there.
    let kind = c.args.kind in
    let names = names_value c.args.names.now in
    let name : string_bytes c.at.result.now ≡ at_kind names kind =
    ap string_bytes c.at.ensures ∙ sym (at-per_kind (λ k. string_bytes (at_kind c.args.names.now.each k)) kind) in
    subst (λ (asked : Bool). PerformsAll g.O.Sink.Tells
    (map addition (if asked then piece_if (at_kind names kind) (output_bytes kind m) else []))
    (g.O.Sink.state c.args.out.now) (g.O.Sink.state c.append_some.new.out) (write_end c.append_some.result))
    (sym (at-per_kind (asks_for (console_value c.args.console.now)) kind ∙ sym c.asks_for.ensures ∙ c.if-asks_for.true))
    (rw (name, c.piece.ensures m there) at c.append_some.ensures)

pub returns-else-asks_for : goal.returns-else-asks_for
returns-else-asks_for g c = λ m there.
    let kind = c.args.kind in
    let names = names_value c.args.names.now in
    subst (λ (asked : Bool). PerformsAll g.O.Sink.Tells
    (map addition (if asked then piece_if (at_kind names kind) (output_bytes kind m) else []))
    (g.O.Sink.state c.args.out.now) (g.O.Sink.state c.args.out.now) Wrote)
    (sym (at-per_kind (asks_for (console_value c.args.console.now)) kind ∙ sym c.asks_for.ensures
    ∙ c.if-asks_for.false))
    (performs-none g.O.Sink.Tells _)
