use Rattle.std.proofs.Common.{◌≡◌, ◌∙◌, ap, true, arith}
use Rattle.gba_terms.specs.Bits.{field}
use Rattle.gba_arm_table.specs.Diagrams.{has_manual_bits}
use Rattle.gba_arm_table.specs.Limits.{within, registers_of, immediates_of, offsets_of}
use Rattle.gba_arm_table.specs.Table.{operation}
use Rattle.gba_arm_table.proofs.RoundTrip.{fitting, operation-diagram, manual-diagram}
use Rattle.gba_arm_table.proofs.encoding.encode.Goals as goal

pub returns-clause-round_trip : goal.returns-clause-round_trip
returns-clause-round_trip c =
    let registers : within (registers_of c.args.op.now) ≡ true = grind arith in
    let immediates : within (immediates_of c.args.op.now) ≡ true = grind arith in
    let offsets : within (offsets_of c.args.op.now) ≡ true = grind arith in
    ap operation c.word_of.ensures
    ∙ operation-diagram c.args.op.now (fitting c.args.op.now registers immediates offsets)

pub returns-clause-manual_bits : goal.returns-clause-manual_bits
returns-clause-manual_bits c =
    ap (λ word. has_manual_bits c.args.op.now (field word)) c.word_of.ensures ∙ manual-diagram c.args.op.now
