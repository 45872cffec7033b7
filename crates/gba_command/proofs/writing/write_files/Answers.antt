use Rattle.std.proofs.Common.{map}
use Rattle.std.proofs.lemmas.Result.{err_from_is_err_and}
use Rattle.gba_command.specs.Views.{output_value}
use Rattle.gba_command.specs.Writing.{addition, creation}
use Rattle.gba_command.proofs.Calls.{performs-then, performs-stopped, stopped}
use Rattle.gba_command.proofs.writing.write_files.Goals as goal

pub returns-in_err-create_files : goal.returns-in_err-create_files
returns-in_err-create_files g c =
    let outputs = map output_value c.args.files.now in
    let p = err_from_is_err_and c.from_residual.result c.from_residual.ensures.1 in
    rw (p.1, p.2)
    (performs-stopped g.O.Sink.Tells (map creation outputs) (map addition outputs) _ _ _ c.in_err-create_files.ensures
    (stopped _))

pub returns : goal.returns
returns g c =
    let outputs = map output_value c.args.files.now in
    performs-then g.O.Sink.Tells (map creation outputs) (map addition outputs) _ _ _ _ c.in_ok-create_files.ensures
    c.append_files.ensures
