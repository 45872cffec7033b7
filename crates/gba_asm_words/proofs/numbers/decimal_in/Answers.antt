use Rattle.std.proofs.Common.{◌∙◌, arith}
use Rattle.gba_text.proofs.Numerals.{IsAscii-from_digits}
use Rattle.gba_asm_words.proofs.Numerals.{decimal-parsed}
use Rattle.gba_asm_words.proofs.numbers.decimal_in.Goals as goal

pub ascii_text-requires : goal.ascii_text-requires
ascii_text-requires c = IsAscii-from_digits c.args.word.now (grind arith)

pub returns : goal.returns
returns c =
    c.ok.ensures.value ∙ rw c.ascii_text.ensures at (decimal-parsed c.ascii_text.result.now c.parse.result
    c.parse.ensures.value.0 (rw c.ascii_text.ensures (grind arith)) (rw c.ascii_text.ensures (grind arith)))
