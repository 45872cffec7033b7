use Rattle.std.proofs.Common.{◌≡◌, true, length, eqb, eq-eqb, ◌∙◌, refl, arith}
use Rattle.gba_text.specs.Numbers.{all_hex_digits, hex_number_of}
use Rattle.gba_text.proofs.Numerals.{IsAscii-from_hex_digits, parsed_hex_digits}
use Rattle.gba_text.proofs.numbers.hex_number_in.Goals as goal

pub ascii_text-requires : goal.ascii_text-requires
ascii_text-requires c = IsAscii-from_hex_digits c.args.word.now (grind arith)

pub returns : goal.returns
unfolding hex_number_of
returns c =
    let all : all_hex_digits c.args.word.now ≡ true = grind arith in
    let same : (eqb (length c.args.word.now) c.args.digits) ≡ true = eq-eqb _ _ (omega arith) in
    let parsed = rw c.ascii_text.ensures at c.from_str_radix.ensures.value in
    c.ok.ensures.value ∙ parsed_hex_digits c.args.word.now c.from_str_radix.result parsed all (omega arith)
    (omega arith) ∙ rw (same, all) refl
