use Rattle.std.proofs.Common.{◌≡◌, Some, sym, ap, ◌∙◌, rules}
use Rattle.gba_text.proofs.Numerals.{number-range}
use Rattle.gba_text.specs.Numbers.{number_of}
use Rattle.gba_command.proofs.words.freeze_words.Goals as goal

pub returns-clause-sound : goal.returns-clause-sound
returns-clause-sound c =
    let clock : number_of 1 274877906944 c.args.clock.now ≡ Some c.in_ok-clock.clock =
    ap (number_of 1 274877906944) (sym c.as_bytes.ensures.value) ∙ sym c.number_in.ensures ∙ c.in_ok-clock.was in
    let within = number-range 1 274877906944 c.in_ok-clock.clock c.args.clock.now clock in
    record {
      run = search rules;
      some_cycles = within.0;
      few_cycles = within.1;
    }
