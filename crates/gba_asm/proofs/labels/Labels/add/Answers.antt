use Rattle.std.proofs.Common.{◌≡◌, ◌∙◌, None, arith}
use Rattle.std.proofs.lemmas.Map.Text.{btree_map_updates_str}
use Rattle.gba_asm.specs.Answers.{labels_in}
use Rattle.gba_asm.proofs.Passes.{label_added}
use Rattle.gba_asm.proofs.labels.Labels.add.Goals as goal

pub returns : goal.returns
returns c = λ name.
    let absent : labels_in c.args.self.now.places c.in-Some.name.now ≡ None = grind arith in
    btree_map_updates_str c.in-Some.name.now c.args.self.now.places c.insert.new.self _ c.in_ok-insert.ensures.updates
    name
    ∙ rw c.in-Some.is
    (label_added (labels_in c.args.self.now.places) c.in-Some.name.now name c.args.line c.args.address absent)
