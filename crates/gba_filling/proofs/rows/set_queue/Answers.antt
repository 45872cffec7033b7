use Rattle.std.proofs.Common.{ap, ◌∙◌}
use Rattle.gba_numbers.specs.Fields.{place_of}
use Rattle.gba_numbers.specs.Numbers.{is_there}
use Rattle.gba_frozen.specs.Reading.{queue_byte}
use Rattle.gba_filling.specs.Loose.{LooseConsole}
use Rattle.gba_filling.proofs.RowSteps.{queue-there}
use Rattle.gba_filling.proofs.rows.set_queue.Goals as goal

pub set_queue_bytes-requires-clause-there : goal.set_queue_bytes-requires-clause-there
set_queue_bytes-requires-clause-there c place below =
    ap (λ (one : LooseConsole). is_there (place_of (queue_byte c.args.queue place)) one.numbers) c.set-2.ensures
    ∙ queue-there c.args.queue place _ c.set.new.self.numbers c.requires.queue c.requires.few below
