use Rattle.std.proofs.Common.{◌≡◌, ◌*◌, ◌/◌, ◌^◌, eqb, false, ap, sym, ◌∙◌, arith}
use Rattle.std.proofs.lemmas.Bool.Decides.{nat_tests}
use lib.Count.{ones}
use Rattle.gba_exec_transfers.specs.Blocks.{span}
use Rattle.gba_exec_transfers.proofs.Lists.{length-registers_in}
use Rattle.gba_exec_transfers.proofs.blocks.span_of.Goals as goal

pub returns-else-list-eq0 : goal.returns-else-list-eq0
unfolding span
returns-else-list-eq0 c =
    let some : eqb c.args.list 0 ≡ false = grind (arith, nat_tests) in
    let whole : c.args.list / 2 ^ 0 ≡ c.args.list = omega arith in
    let counted = length-registers_in c.args.list 0 16 (omega arith) in
    rw some (ap (λ n. 4 * n) (sym (counted ∙ ap ones whole)))
