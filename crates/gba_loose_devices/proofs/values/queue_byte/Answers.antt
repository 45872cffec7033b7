use Rattle.std.proofs.Common.{ℕ, ◌%◌, ◌^◌, ◌∙◌, ap, arith}
use Rattle.gba_loose_devices.proofs.Places.{queue-known, queue-short, queue-there, queue-value}
use Rattle.gba_loose_devices.proofs.values.queue_byte.Goals as goal

pub value-requires-clause-known : goal.value-requires-clause-known
value-requires-clause-known c =
    let short = queue-short c.args.queue c.args.numbers.now c.requires.queue c.is_whole.ensures in
    queue-known c.args.queue c.args.place c.requires.queue (omega (arith, short, c.requires.place))

pub value-requires-clause-there : goal.value-requires-clause-there
value-requires-clause-there c =
    let short = queue-short c.args.queue c.args.numbers.now c.requires.queue c.is_whole.ensures in
    queue-there c.args.queue c.args.place c.args.numbers.now c.requires.queue c.requires.place
    (omega (arith, short, c.requires.place))

pub returns : goal.returns
returns c =
    let short = queue-short c.args.queue c.args.numbers.now c.requires.queue c.is_whole.ensures in
    ap (λ (v : ℕ). v % 2 ^ 8)
    (c.value.ensures
    ∙ queue-value c.args.queue c.args.place c.args.numbers.now c.requires.queue
    (omega (arith, short, c.requires.place)))
