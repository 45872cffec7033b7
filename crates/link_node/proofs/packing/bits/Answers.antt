use Rattle.std.proofs.Common.{◌<◌, arith, refl}
use Rattle.std.proofs.lemmas.Nat.{and_mask, one_shl}
use Rattle.link_node.proofs.packing.bits.Goals as goal

pub returns : goal.returns
returns c =
    let small : c.args.width < 64 = omega arith in
    rw (one_shl c.args.width 64 small, and_mask) refl
