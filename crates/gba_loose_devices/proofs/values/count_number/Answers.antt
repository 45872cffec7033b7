use Rattle.std.proofs.Common.{◌∙◌, arith}
use Rattle.gba_loose_devices.proofs.Places.{queue-length, queue-short}
use Rattle.gba_loose_devices.proofs.values.count_number.Goals as goal

pub overflow_cast-result : goal.overflow_cast-result
overflow_cast-result c =
    let e = c.number.ensures ∙ queue-length c.args.queue c.args.numbers.now c.requires c.is_whole.ensures in
    let short = queue-short c.args.queue c.args.numbers.now c.requires c.is_whole.ensures in
    omega (arith, e, short)

pub returns-clause-count : goal.returns-clause-count
returns-clause-count c = c.number.ensures ∙ queue-length c.args.queue c.args.numbers.now c.requires c.is_whole.ensures

pub returns-clause-few : goal.returns-clause-few
returns-clause-few c =
    let e = c.number.ensures ∙ queue-length c.args.queue c.args.numbers.now c.requires c.is_whole.ensures in
    let short = queue-short c.args.queue c.args.numbers.now c.requires c.is_whole.ensures in
    omega (arith, e, short)
