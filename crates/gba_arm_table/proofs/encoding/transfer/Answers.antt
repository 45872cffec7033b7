use Rattle.std.proofs.Common.{[], ◌∷◌, ap}
use Rattle.gba_arm_table.specs.Diagrams.{condition_part, diagram, flag_part, is_shifted, part}
use Rattle.gba_arm_table.proofs.Packing.{pack-transfer}
use Rattle.gba_arm_table.proofs.encoding.transfer.Goals as goal

pub returns : goal.returns
returns c =
    let one = c.in-Transfer in
    pack-transfer (diagram c.args.op)
    (condition_part one.cond ∷ part 2 1 ∷ flag_part (is_shifted one.offset) ∷ flag_part one.pre ∷ flag_part one.up
    ∷ flag_part one.byte ∷ flag_part one.write ∷ flag_part one.load ∷ part 4 one.rn ∷ part 4 one.rd ∷ [])
    one.offset c.pack.result (ap diagram one.is) (simp (
      c.pack.ensures,
      c.condition.ensures,
      c.part.ensures,
      c.is_shifted.ensures,
      c.flag.ensures,
      c.flag-2.ensures,
      c.flag-3.ensures,
      c.flag-4.ensures,
      c.flag-5.ensures,
      c.flag-6.ensures,
      c.nibble.ensures,
      c.nibble-2.ensures,
      c.offset_bits.ensures,
      c.part-2.ensures,
    ))
