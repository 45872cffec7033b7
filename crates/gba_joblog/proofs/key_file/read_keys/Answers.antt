use Rattle.std.proofs.Common.{arith, refl, Vec, Global}
use Rattle.gba_text.proofs.ReadLines.{reads_on, refuses, finishes}
use Rattle.gba_joblog.specs.Answers.{line_error}
use Rattle.gba_joblog.specs.KeyFile.{key_files, keys_of}
use Rattle.gba_joblog.specs.declared.job.KeyChange.{KeyChange}
use Rattle.gba_joblog.proofs.key_file.read_keys.Goals as goal

pub loop-line-preserved : goal.loop-line-preserved
loop-line-preserved c =
    reads_on key_files c.args.bytes.now c.loop-line.cursor c.line.new.self c.loop-line.changes.items
    c.read_line.new.changes.items c.in-Some.line.now
    c.read_line.new.cursor.number c.read_line.new.cursor.lines c.loop-line.invariant c.in-Some.ensures.line
    c.line.ensures.state
    c.in-Ok.ensures.says c.read_line.ensures.number c.read_line.ensures.lines

pub returns-in-Err : goal.returns-in-Err
unfolding keys_of
returns-in-Err c =
    record {
      keys =
          refuses {X = Vec KeyChange Global} line_error key_files (λ changes. changes.items) c.args.bytes.now
          c.loop-line.cursor c.line.new.self c.loop-line.changes.items c.read_line.new.changes.items c.in-Some.line.now
          c.in-Err.refusal (omega arith) c.loop-line.invariant c.in-Some.ensures.line c.line.ensures.state
          c.in-Err.ensures.says;
    }

pub returns : goal.returns
unfolding keys_of
returns c =
    record {
      keys = finishes key_files c.args.bytes.now c.loop-line.cursor c.line.new.self c.loop-line.changes.items _
          (omega arith) c.loop-line.invariant c.in_default.ensures.line c.line.ensures.state refl;
    }
