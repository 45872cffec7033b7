use Rattle.std.proofs.Common.{◌%◌, ◌∙◌, arith}
use Rattle.gba_word.proofs.Powers.{turned_word}
use Rattle.gba_word.proofs.shifter.rotate.Goals as goal

pub returns : goal.returns
returns c = c.rotate_right.ensures ∙ turned_word c.args.value (c.args.turn % 32) (omega arith) (omega arith)
