use Rattle.std.proofs.Common.{List, map, ◌∙◌, subst, sym}
use Rattle.std.specs.Prelude.{string_bytes}
use Rattle.gba_command.proofs.Calls.{performs-none, performs-one}
use Rattle.gba_command.specs.Writing.{Append, Output, PerformsAll, Wrote, addition}
use Rattle.gba_command.specs.Views.{write_end}
use Rattle.gba_run_files.proofs.Lists.{piece-none, piece-some}
use Rattle.gba_run_files.proofs.pieces.append_some.Goals as goal

pub returns-then-is_empty : goal.returns-then-is_empty
returns-then-is_empty g c =
    subst (λ (pieces : List Output). PerformsAll g.O.Sink.Tells (map addition pieces) (g.O.Sink.state c.args.out.now)
    (g.O.Sink.state c.args.out.now) Wrote)
    (sym (piece-none (string_bytes c.args.name.now) c.args.bytes.now (sym c.is_empty.ensures ∙ c.if-is_empty.true)))
    (performs-none g.O.Sink.Tells _)

pub returns-else-is_empty : goal.returns-else-is_empty
returns-else-is_empty g c =
    subst (λ (pieces : List Output). PerformsAll g.O.Sink.Tells (map addition pieces) (g.O.Sink.state c.args.out.now)
    (g.O.Sink.state c.append.new.out) (write_end c.append.result))
    (sym (piece-some (string_bytes c.args.name.now) c.args.bytes.now (sym c.is_empty.ensures ∙ c.if-is_empty.false)))
    (performs-one g.O.Sink.Tells (Append (string_bytes c.args.name.now) c.args.bytes.now) _ _ _
    (rw c.as_str.ensures.value at c.append.ensures))
