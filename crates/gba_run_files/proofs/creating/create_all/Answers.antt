use Rattle.std.proofs.Common.{◌++◌, map}
use Rattle.std.specs.Prelude.{option_map}
use Rattle.std.proofs.lemmas.Result.{err_from_is_err_and}
use Rattle.gba_command.proofs.Calls.{files-stopped, files-then, stopped}
use Rattle.gba_command.specs.Views.{output_value}
use Rattle.gba_command.specs.Writing.{creation}
use Rattle.gba_joblog.specs.Views.{console_value}
use Rattle.gba_run_files.specs.Outputs.{last_output, outputs_of}
use Rattle.gba_run_files.specs.Views.{names_value}
use Rattle.gba_run_files.proofs.creating.create_all.Goals as goal

pub returns-in_err-create_files : goal.returns-in_err-create_files
returns-in_err-create_files g c = λ files bytes many.
    let outputs = outputs_of (map names_value c.args.names.now) (map console_value c.args.consoles.now) files in
    let last = last_output (option_map (λ name. name.now) c.args.last) bytes in
    let p = err_from_is_err_and c.from_residual.result c.from_residual.ensures.1 in
    rw (p.1, p.2)
    (files-stopped g.O.Sink.Tells creation (map output_value c.args.first.now) (outputs ++ last) _ _ _
    c.in_err-create_files.ensures (stopped _))

pub returns-in_err-create_outputs : goal.returns-in_err-create_outputs
returns-in_err-create_outputs g c = λ files bytes many.
    let outputs = outputs_of (map names_value c.args.names.now) (map console_value c.args.consoles.now) files in
    let last = last_output (option_map (λ name. name.now) c.args.last) bytes in
    let p =
    err_from_is_err_and c.from_residual-in_err-create_outputs.result c.from_residual-in_err-create_outputs.ensures.1 in
    rw (p.1, p.2)
    (files-then g.O.Sink.Tells creation (map output_value c.args.first.now) (outputs ++ last) _ _ _ _
    c.in_ok-create_files.ensures
    (files-stopped g.O.Sink.Tells creation outputs last _ _ _ (c.in_err-create_outputs.ensures files many) (stopped _)))

pub returns : goal.returns
returns g c = λ files bytes many.
    let outputs = outputs_of (map names_value c.args.names.now) (map console_value c.args.consoles.now) files in
    let last = last_output (option_map (λ name. name.now) c.args.last) bytes in
    files-then g.O.Sink.Tells creation (map output_value c.args.first.now) (outputs ++ last) _ _ _ _
    c.in_ok-create_files.ensures
    (files-then g.O.Sink.Tells creation outputs last _ _ _ _ (c.in_ok-create_outputs.ensures files many)
    (c.create_last.ensures bytes))
