use Rattle.std.proofs.Common.{refl}
use Rattle.gba_dis.specs.Units.{is_thumb}
use Rattle.gba_dis.proofs.Lines.{all_added, line_added, none_left, split_left, within_left}
use Rattle.gba_dis.proofs.listing.add_lines.Goals as goal

pub loop-unit-preserved : goal.loop-unit-preserved
loop-unit-preserved c =
    let bytes = c.args.bytes.now in
    let at = c.loop-unit.at in
    record {
      within =
          within_left bytes at c.size-at.result c.loop-unit.invariant.within
          (rw c.size-at.ensures c.in-Some.ensures.within);
      text = line_added (is_thumb c.args.set) at _ c.in-Some.unit _ _ c.loop-unit.text.items c.add_line.new.text.items
          c.add.new.line.items _ c.loop-unit.invariant.text
          (split_left c.args.set bytes at c.size-at.result c.in-Some.unit c.in-Some.ensures.unit c.size-at.ensures)
          c.in_ok-add_line.ensures c.in_ok-add.ensures (rw c.size-at.ensures refl);
    }

pub returns : goal.returns
returns c =
    all_added (is_thumb c.args.set) c.loop-unit.at _ c.loop-unit.text.items _ c.loop-unit.invariant.text
    (none_left c.args.set c.args.bytes.now c.loop-unit.at c.in_default.ensures.unit)
