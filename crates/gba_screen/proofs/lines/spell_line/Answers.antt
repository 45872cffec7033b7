use Rattle.std.proofs.Common.{◌*◌, ◌∙◌, arith, rules}
use borrow.Rule.Slice.PartMut.{same_len_mid}
use Rattle.gba_screen.proofs.Bytes.{spelled-all, spelled-more}
use Rattle.gba_screen.proofs.lines.spell_line.Goals as goal

pub loop-part-preserved : goal.loop-part-preserved
loop-part-preserved c = record {
  spelled =
      spelled-more c.loop-part.bytes c.copy_from_slice.new.self c.args.colours.now c.loop-part.part _
      c.loop-part.invariant.whole
      (search rules) c.loop-part-test.true c.loop-part.invariant.spelled
      (c.copy_from_slice.ensures.after ∙ c.bytes_of_eight-eight.ensures);
  whole =
      same_len_mid (16 * c.loop-part.part) _ c.loop-part.bytes c.copy_from_slice.new.self c.copy_from_slice.ensures.len
      ∙ c.loop-part.invariant.whole;
}

pub returns : goal.returns
returns c =
    spelled-all c.loop-part.bytes c.args.colours.now c.loop-part.part c.loop-part.invariant.whole c.requires
    (omega (arith, c.loop-part-test.false, c.loop-part.auto.part-end)) c.loop-part.invariant.spelled
