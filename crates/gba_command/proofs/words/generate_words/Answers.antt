use Rattle.std.proofs.Common.{◌≡◌, Some, sym, ap, ◌∙◌, arith, rules}
use Rattle.gba_text.proofs.Numerals.{number-range}
use Rattle.gba_text.specs.Numbers.{number_of}
use Rattle.gba_command.proofs.words.generate_words.Goals as goal

pub overflow_cast-result : goal.overflow_cast-result
overflow_cast-result c =
    let said : number_of 0 4294967295 c.args.number.now ≡ Some c.in_ok-number.number =
    ap (number_of 0 4294967295) (sym c.as_bytes.ensures.value) ∙ sym c.number_in.ensures ∙ c.in_ok-number.was in
    let range = number-range 0 4294967295 c.in_ok-number.number c.args.number.now said in
    omega (arith, range.1)

pub returns-clause-sound : goal.returns-clause-sound
returns-clause-sound c =
    let number : number_of 0 4294967295 c.args.number.now ≡ Some c.in_ok-number.number =
    ap (number_of 0 4294967295) (sym c.as_bytes.ensures.value) ∙ sym c.number_in.ensures ∙ c.in_ok-number.was in
    let cycles : number_of 1 2147483648 c.args.cycles.now ≡ Some c.in_ok-cycles.cycles =
    ap (number_of 1 2147483648) (sym c.as_bytes-2.ensures.value) ∙ sym c.number_in-2.ensures ∙ c.in_ok-cycles.was in
    let below = number-range 0 4294967295 c.in_ok-number.number c.args.number.now number in
    let within = number-range 1 2147483648 c.in_ok-cycles.cycles c.args.cycles.now cycles in
    record {
      number = omega (arith, below.1);
      some_cycles = within.0;
      few_cycles = within.1;
      out = search rules;
    }
