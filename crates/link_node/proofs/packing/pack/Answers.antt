use Rattle.std.proofs.Common.{◌≡◌, ◌+◌, ◌*◌, ◌^◌, arith}
use Rattle.link_node.specs.Packing.{packed_head, packed_words}
use Rattle.link_node.proofs.PackingLemmas.{packs}
use Rattle.link_node.proofs.packing.pack.Goals as goal

pub returns-clause-inverse : goal.returns-clause-inverse
returns-clause-inverse c =
    let s = c.args.s.now in
    let head : s.clock + c.number_of_mode.result * 2 ^ 40 + c.start_flags-start.result + c.reply_parts-reply.result.0
    ≡ packed_head s = omega arith in
    let words : c.word_of_start.result + c.reply_parts-reply.result.1 ≡ packed_words s = omega arith in
    rw (head, words) (packs s c.requires.clock c.requires.widths)
