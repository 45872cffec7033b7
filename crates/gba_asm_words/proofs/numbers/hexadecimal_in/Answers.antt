use Rattle.std.proofs.Common.{◌∙◌, arith}
use Rattle.gba_text.proofs.Numerals.{IsAscii-from_hex_digits}
use Rattle.gba_asm_words.proofs.Numerals.{hexadecimal-parsed}
use Rattle.gba_asm_words.proofs.numbers.hexadecimal_in.Goals as goal

pub ascii_text-requires : goal.ascii_text-requires
ascii_text-requires c = IsAscii-from_hex_digits c.args.digits.now (grind arith)

pub returns : goal.returns
returns c =
    c.ok.ensures.value ∙ hexadecimal-parsed c.args.digits.now c.from_str_radix.result
    (rw c.ascii_text.ensures at c.from_str_radix.ensures.value) (grind arith) (grind arith)
