use Rattle.std.proofs.Common.{◌≡◌, length}
use Rattle.gba_asm.specs.Answers.{labels_in, onto}
use Rattle.gba_asm.specs.Encoding.{items_bytes}
use Rattle.gba_asm.proofs.encoding.add_items.Given as goal

abbrev pub invariant-loop-token : goal.invariant-loop-token
invariant-loop-token l =
    onto l.initial.image.items (items_bytes (labels_in l.labels.places) l.width l.initial.left)
    ≡ onto l.image.items (items_bytes (labels_in l.labels.places) l.width l.left)

abbrev pub decreases-loop-token : goal.decreases-loop-token
decreases-loop-token l = length l.left
