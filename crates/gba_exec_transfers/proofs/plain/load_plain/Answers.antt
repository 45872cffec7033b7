use Rattle.std.proofs.Common.{sym, subst}
use Rattle.gba_exec_transfers.specs.Done.{Done, Leaves}
use Rattle.gba_exec_transfers.proofs.PlainBlocks.{plain_loads}
use Rattle.gba_exec_transfers.proofs.plain.load_plain.Goals as goal

pub returns : goal.returns
returns g c =
    let after = c.load_list.new in
    let Left : Done g.B.Bus.State → Type 0 = λ done.
    Leaves done after.registers (g.B.Bus.state after.bus) c.load_list.result in
    subst Left
    (sym (plain_loads g.B.Bus.code_price_of g.B.Bus.load_of g.B.Bus.store_of c.args.plain c.args.site c.from.result
    c.from-2.result c.get-base.result c.align-first.result c.code_price-code.result c.args.registers.now
    c.move_base.new.registers (g.B.Bus.state c.args.bus.now) c.requires c.from.ensures c.from-2.ensures
    c.get-base.ensures c.get-base.type_inv c.align-first.ensures c.move_base.ensures c.code_price-code.ensures.cost))
    c.load_list.ensures.leaves
