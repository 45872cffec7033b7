use Rattle.std.proofs.Common.{sym, arith}
use Rattle.gba_text.proofs.Numerals.{IsAscii-from_digits, parsed_digits, number_of-none}
use Rattle.gba_text.proofs.numbers.number_in.Goals as goal

pub ascii_text-requires : goal.ascii_text-requires
ascii_text-requires c = IsAscii-from_digits c.args.word.now (grind arith)

pub returns-in_default-3 : goal.returns-in_default-3
returns-in_default-3 c =
    let none = rw (c.in_default.is, c.ascii_text.ensures) at
    (parsed_digits c.ascii_text.result.now c.parse.result c.parse.ensures.value.0 (rw c.ascii_text.ensures
    (grind arith))) in
    sym (number_of-none c.args.least c.args.most c.args.word.now none c.ranges.most.fits)
