use Rattle.std.proofs.Common.{◌^◌, ◌*◌, ◌<◌, sym, subst, rules}
use Rattle.std.proofs.lemmas.Nat.{pow_pos, mod_below}
use Rattle.gba_thumb_table.proofs.Placing.{placed-small}
use Rattle.gba_thumb_table.proofs.encoding.number.Goals as goal

pub overflow_cast-result : goal.overflow_cast-result
overflow_cast-result c =
    let small : c.bits.result < 2 ^ c.args.width =
    subst (λ n. n < 2 ^ c.args.width) (sym c.bits.ensures) (mod_below _ _ (pow_pos _)) in
    let placed : c.bits.result * 2 ^ c.args.low < 2 ^ 16 =
    placed-small c.bits.result c.args.low c.args.width c.requires small in
    search rules
