use Rattle.std.proofs.Common.{arith}
use Rattle.gba_text.proofs.ReadLines.{reads_on, refuses, finishes, reads_few, lines-few}
use Rattle.gba_joblog.specs.Answers.{line_error}
use Rattle.gba_joblog.specs.Language.{jobs, job_of}
use Rattle.gba_joblog.specs.Views.{draft_value, job_value}
use Rattle.gba_joblog.proofs.parse.read_job.Goals as goal

pub loop-line-preserved : goal.loop-line-preserved
loop-line-preserved c =
    reads_on jobs c.args.bytes.now c.loop-line.cursor c.line.new.self (draft_value c.loop-line.draft)
    (draft_value c.read_line.new.draft) c.in-Some.line.now
    c.read_line.new.cursor.number c.read_line.new.cursor.lines c.loop-line.invariant c.in-Some.ensures.line
    c.line.ensures.state
    c.in-Ok.ensures.says c.read_line.ensures.number c.read_line.ensures.lines

pub returns-in-Err : goal.returns-in-Err
unfolding job_of
returns-in-Err c =
    record {
      job =
          refuses line_error jobs job_value c.args.bytes.now c.loop-line.cursor c.line.new.self
          (draft_value c.loop-line.draft) (draft_value c.read_line.new.draft) c.in-Some.line.now
          c.in-Err.refusal (omega arith) c.loop-line.invariant c.in-Some.ensures.line c.line.ensures.state
          c.in-Err.ensures.says;
    }

pub finish-requires : goal.finish-requires
finish-requires c =
    let few = reads_few jobs c.args.bytes.now c.loop-line.cursor c.line.new.self (draft_value c.loop-line.draft)
    (lines-few c.args.bytes.now) (omega arith) c.loop-line.invariant c.in_default.ensures.line c.line.ensures.state in
    omega (arith, few, c.line_number.ensures)

pub returns-in-Ok-finish : goal.returns-in-Ok-finish
unfolding job_of
returns-in-Ok-finish c =
    record {
      job = finishes jobs c.args.bytes.now c.loop-line.cursor c.line.new.self (draft_value c.loop-line.draft) _
          (omega arith) c.loop-line.invariant
          c.in_default.ensures.line c.line.ensures.state (rw (← c.line_number.ensures) c.in-Ok-finish.ensures);
    }

pub returns-in-Err-finish : goal.returns-in-Err-finish
unfolding job_of
returns-in-Err-finish c =
    record {
      job = finishes jobs c.args.bytes.now c.loop-line.cursor c.line.new.self (draft_value c.loop-line.draft) _
          (omega arith) c.loop-line.invariant
          c.in_default.ensures.line c.line.ensures.state (rw (← c.line_number.ensures) c.in-Err-finish.ensures);
    }
