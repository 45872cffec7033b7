use Rattle.std.proofs.Common.{◌+◌, ◌≡◌, false, length, nat_lt, Ok, inr, refl, rules}
use Rattle.gba_command.specs.Reading.{GoesTo}
use Rattle.gba_command.proofs.reading.read_file.Goals as goal

pub returns-in-Ok-2-clause-goes : goal.returns-in-Ok-2-clause-goes
unfolding GoesTo
returns-in-Ok-2-clause-goes g c =
    let read = c.in-Ok.ensures in
    let bytes = c.in-Ok.bytes.items in
    let short : nat_lt c.args.most (length bytes) ≡ false = search rules in
    let given =
    g.met.S.Store.gave c.args.name.now (c.args.most + 1) (Ok bytes) c.args.store.now c.read.new.self (record {
      read = read.read;
      stays = read.files;
      front = read.bytes;
      missing = λ tells none. absurd cc;
      absent = λ none. absurd cc;
      failed = λ none. absurd cc;
      later_absences = read.later_absences;
      later_faults = read.later_faults;
    }) in
    inr (inr (inr (c.read.new.self, bytes, given, short, inr (refl, refl))))
