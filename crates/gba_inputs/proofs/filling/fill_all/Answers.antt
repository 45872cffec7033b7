use Rattle.std.proofs.Common.{arith}
use Rattle.gba_inputs.proofs.FilledLists.{filling-begin, filling-end, filling-more}
use Rattle.gba_inputs.proofs.filling.fill_all.Goals as goal

pub loop-i-init : goal.loop-i-init
loop-i-init c = filling-begin c.args.consoles.now c.args.inputs.now c.requires

pub loop-i-preserved : goal.loop-i-preserved
loop-i-preserved c =
    filling-more c.args.consoles.now c.loop-i.consoles c.args.inputs.now c.loop-i.inputs c.loop-i.i
    c.index-consoles-i.result c.fill_one.new.console c.index-inputs-i.result c.fill_one.new.inputs c.loop-i.invariant
    (omega arith) c.index-consoles-i.is c.index-inputs-i.is c.fill_one.ensures.console c.fill_one.ensures.images

pub returns : goal.returns
returns c = record {
  consoles = filling-end c.args.consoles.now c.loop-i.consoles c.args.inputs.now c.loop-i.inputs c.loop-i.i
      c.loop-i.invariant (omega arith);
  images = c.loop-i.invariant.images;
}
