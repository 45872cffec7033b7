use Rattle.std.proofs.Common.{◌+◌, drop, map}
use Rattle.std.proofs.lemmas.Result.{err_from_is_err_and}
use Rattle.gba_command.specs.Views.{output_value}
use Rattle.gba_command.specs.Writing.{creation}
use Rattle.gba_command.proofs.Calls.{leads-first, leads-next, leads-stop, leads-last, calls-from, calls-none, stopped}
use Rattle.gba_command.proofs.writing.create_files.Goals as goal

pub loop-file-init : goal.loop-file-init
loop-file-init g c = leads-first g.O.Sink.Tells (map creation (map output_value c.args.files.now)) _

pub returns-in_err-create : goal.returns-in_err-create
returns-in_err-create g c =
    let files = c.args.files.now in
    let i = c.loop-file.file-index in
    let p = err_from_is_err_and c.from_residual.result c.from_residual.ensures.1 in
    rw (p.1, p.2)
    (leads-stop g.O.Sink.Tells (map creation (map output_value files))
    (map creation (map output_value (drop (i + 1) files)))
    (map creation (map output_value (drop i files))) (creation (output_value c.file-item.result)) _ _ _ _
    (calls-from output_value creation files i c.file-item.result c.loop-file-test.true c.file-item.is)
    c.loop-file.invariant (rw c.as_str.ensures.value at c.in_err-create.ensures) (stopped _))

pub loop-file-preserved : goal.loop-file-preserved
loop-file-preserved g c =
    let files = c.args.files.now in
    let i = c.loop-file.file-index in
    leads-next g.O.Sink.Tells (map creation (map output_value files))
    (map creation (map output_value (drop (i + 1) files)))
    (map creation (map output_value (drop i files))) (creation (output_value c.file-item.result)) _ _ _
    (calls-from output_value creation files i c.file-item.result c.loop-file-test.true c.file-item.is)
    c.loop-file.invariant (rw c.as_str.ensures.value at c.in_ok-create.ensures)

pub returns : goal.returns
returns g c =
    leads-last g.O.Sink.Tells (map creation (map output_value c.args.files.now)) _ _ _
    (calls-none output_value creation c.args.files.now c.loop-file.file-index c.loop-file-test.false)
    c.loop-file.invariant
