use Rattle.std.proofs.Common.{◌≡◌, ◌∙◌, ap, true, arith}
use Rattle.gba_arm_table.specs.Limits.{within}
use Rattle.gba_thumb_table.specs.Limits.{registers_of, immediates_of, offsets_of}
use Rattle.gba_thumb_table.specs.Table.{operation}
use Rattle.gba_thumb_table.proofs.RoundTrip.{fitting, operation-diagram}
use Rattle.gba_thumb_table.proofs.encoding.encode.Goals as goal

pub returns-clause-round_trip : goal.returns-clause-round_trip
returns-clause-round_trip c =
    let registers : within (registers_of c.args.op.now) ≡ true = grind arith in
    let immediates : within (immediates_of c.args.op.now) ≡ true = grind arith in
    let offsets : within (offsets_of c.args.op.now) ≡ true = grind arith in
    ap operation c.half_of.ensures
    ∙ operation-diagram c.args.op.now (fitting c.args.op.now registers immediates offsets)
