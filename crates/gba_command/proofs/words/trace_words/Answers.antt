use Rattle.std.proofs.Common.{◌≡◌, Some, sym, ap, ◌∙◌, arith, rules}
use Rattle.gba_text.proofs.Numerals.{number-range}
use Rattle.gba_text.specs.Numbers.{number_of}
use Rattle.gba_command.proofs.words.trace_words.Goals as goal

pub returns-clause-sound : goal.returns-clause-sound
returns-clause-sound c =
    let first : number_of 0 1099511627775 c.args.first.now ≡ Some c.in_ok-first.first =
    ap (number_of 0 1099511627775) (sym c.as_bytes.ensures.value) ∙ sym c.number_in.ensures ∙ c.in_ok-first.was in
    let count : number_of 1 1000000 c.args.count.now ≡ Some c.in_ok-count.count =
    ap (number_of 1 1000000) (sym c.as_bytes-2.ensures.value) ∙ sym c.number_in-2.ensures ∙ c.in_ok-count.was in
    let below = number-range 0 1099511627775 c.in_ok-first.first c.args.first.now first in
    let within = number-range 1 1000000 c.in_ok-count.count c.args.count.now count in
    record {
      run = search rules;
      first = omega (arith, below.1);
      some_steps = within.0;
      few_steps = within.1;
    }
