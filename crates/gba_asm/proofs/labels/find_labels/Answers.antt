use Rattle.std.proofs.Common.{◌∙◌}
use Rattle.gba_asm.specs.Answers.{labels_in}
use Rattle.gba_asm.specs.Statements.{line_says}
use Rattle.gba_text.proofs.ReadLines.{opens}
use Rattle.gba_asm.proofs.Passes.{found_first, found_more, found_all, place_after-is}
use Rattle.gba_asm.proofs.labels.find_labels.Goals as goal

pub loop-line-init : goal.loop-line-init
loop-line-init c =
    rw (c.new-cursor.ensures, c.start-place.ensures)
    (found_first c.args.source.now (labels_in c.new-labels.result.places) c.new-labels.ensures)

pub loop-line-preserved : goal.loop-line-preserved
loop-line-preserved c =
    let p = c.loop-line.place in
    let line = c.in-Some.line.now in
    let moved = c.after-place.ensures (line_says p.thumb line) c.read_line-read.ensures.says
    ∙ place_after-is p line in
    found_more c.args.source.now (labels_in c.loop-line.labels.places) (labels_in c.add.new.self.places)
    c.loop-line.cursor c.line.new.self p c.after-place.result line c.loop-line.invariant
    (opens c.loop-line.cursor c.line.new.self line c.in-Some.ensures.line c.line.ensures.state)
    (rw (c.line_number.ensures, c.read_line-read.ensures.label) at c.in_ok-add.ensures) moved

pub returns : goal.returns
returns c =
    found_all c.args.source.now (labels_in c.loop-line.labels.places) c.loop-line.cursor c.loop-line.place
    c.loop-line.invariant c.in_default.ensures.line
