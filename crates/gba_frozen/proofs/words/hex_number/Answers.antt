use Rattle.std.proofs.Common.{◌≡◌, Some, arith}
use Rattle.std.specs.Result.{result_ok}
use Rattle.std.specs.Str.Parse.{digits_value}
use Rattle.gba_text.proofs.Numerals.{IsAscii-from_hex_digits, parsed_hex_digits}
use Rattle.gba_frozen.proofs.Digits.{digits-hex, digits-small}
use Rattle.gba_frozen.proofs.words.hex_number.Goals as goal

pub ascii_text-requires : goal.ascii_text-requires
ascii_text-requires c = IsAscii-from_hex_digits c.args.digits.now (digits-hex c.args.digits.now c.requires.digits)

pub unreachable-requires : goal.unreachable-requires
unreachable-requires c =
    let word = c.args.digits.now in
    let all = digits-hex word c.requires.digits in
    let parsed = rw c.ascii_text.ensures at c.from_str_radix.ensures.value in
    let found : result_ok c.from_str_radix.result ≡ Some (digits_value 16 word) =
    parsed_hex_digits word c.from_str_radix.result parsed all (omega (arith, c.requires.some)) c.requires.few in
    let none = rw c.in-Err.is at found in
    cc

pub returns-clause-small : goal.returns-clause-small
returns-clause-small c =
    let word = c.args.digits.now in
    let all = digits-hex word c.requires.digits in
    let parsed = rw c.ascii_text.ensures at c.from_str_radix.ensures.value in
    let found : result_ok c.from_str_radix.result ≡ Some (digits_value 16 word) =
    parsed_hex_digits word c.from_str_radix.result parsed all (omega (arith, c.requires.some)) c.requires.few in
    let some = rw c.in-Ok.is at found in
    let same : c.in-Ok.number ≡ digits_value 16 word = cc in
    omega (arith, digits-small word c.requires.digits)
