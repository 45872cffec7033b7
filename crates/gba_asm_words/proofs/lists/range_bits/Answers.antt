use Rattle.std.proofs.Common.{◌≡◌, ◌≤◌, ◌+◌, ◌*◌, ◌^◌, pow_mono, pow-add, arith}
use Rattle.gba_asm_words.proofs.lists.range_bits.Goals as goal

pub overflow_sub-result : goal.overflow_sub-result
overflow_sub-result c =
    omega (
      arith,
      pow_mono {i = c.args.first} {j = c.args.last} c.requires.order,
      c.register_bit-top.ensures,
      c.register_bit.ensures,
    )

pub overflow_add-result : goal.overflow_add-result
overflow_add-result c =
    let low : 2 ^ c.args.last ≤ 2 ^ 15 = pow_mono {i = c.args.last} {j = 15} (omega arith) in
    let some : 1 ≤ 2 ^ c.args.first = pow_mono {i = 0} {j = c.args.first} (omega arith) in
    omega (arith, low, some, c.register_bit-top.ensures, c.register_bit.ensures)

pub returns : goal.returns
returns c =
    let twice : 2 ^ (c.args.last + 1) ≡ 2 ^ c.args.last * 2 = pow-add 2 c.args.last 1 in
    let order = pow_mono {i = c.args.first} {j = c.args.last} c.requires.order in
    omega (arith, twice, order, c.register_bit-top.ensures, c.register_bit.ensures)
