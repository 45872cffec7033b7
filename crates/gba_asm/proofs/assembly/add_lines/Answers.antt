use Rattle.std.proofs.Common.{◌≡◌, ℕ, Ok, Vec, Global, refl}
use Rattle.gba_text.proofs.ReadLines.{reads_on, refuses, finishes}
use Rattle.gba_asm.specs.Answers.{labels_in, line_error, onto}
use Rattle.gba_asm.specs.Assembly.{line_bytes, sources}
use Rattle.gba_asm.specs.Places.{labels_of}
use Rattle.gba_asm.proofs.Passes.{line_given, line_refused, same_labels}
use Rattle.gba_asm.proofs.assembly.add_lines.Goals as goal

pub loop-line-preserved : goal.loop-line-preserved
loop-line-preserved c =
    let source = c.args.source.now in
    let image = c.loop-line.image.items in
    let after = c.add_line.new.image.items in
    let labels = labels_of source in
    let line = c.in-Some.line.now in
    let number = c.line.new.self.number in
    let same = same_labels (labels_in c.args.labels.now.places) labels c.requires.labels in
    let added : onto image (line_bytes labels number c.loop-line.place line) ≡ Ok after =
    rw (← same, ← c.line_number.ensures) c.in-Ok.ensures.bytes in
    reads_on (sources labels) source c.loop-line.cursor c.line.new.self
    (record { bytes = image; place = c.loop-line.place })
    (record { bytes = after; place = c.in-Ok.next }) line number c.line.new.self.lines c.loop-line.invariant
    c.in-Some.ensures.line c.line.ensures.state
    (line_given labels number image after c.loop-line.place c.in-Ok.next line added c.in-Ok.ensures.place) refl refl

pub returns-in-Err : goal.returns-in-Err
returns-in-Err c =
    let source = c.args.source.now in
    let image = c.loop-line.image.items in
    let after = c.add_line.new.image.items in
    let labels = labels_of source in
    let line = c.in-Some.line.now in
    let number = c.line.new.self.number in
    let same = same_labels (labels_in c.args.labels.now.places) labels c.requires.labels in
    refuses {X = Vec ℕ Global} line_error (sources labels) (λ image. image.items) source c.loop-line.cursor
    c.line.new.self
    (record { bytes = image; place = c.loop-line.place }) (record { bytes = after; place = c.loop-line.place }) line
    c.make_refusal.result c.requires.short c.loop-line.invariant c.in-Some.ensures.line c.line.ensures.state
    (line_refused labels number (record { bytes = image; place = c.loop-line.place }) image after line c.in-Err.refused
    c.make_refusal.result
    (rw (← same, ← c.line_number.ensures) c.in-Err.ensures.bytes)
    (rw c.line_number-in-Err.ensures at c.make_refusal.ensures))

pub returns : goal.returns
returns c =
    let labels = labels_of c.args.source.now in
    finishes (sources labels) c.args.source.now c.loop-line.cursor c.line.new.self
    (record { bytes = c.loop-line.image.items; place = c.loop-line.place }) _ c.requires.short c.loop-line.invariant
    c.in_default.ensures.line c.line.ensures.state refl
