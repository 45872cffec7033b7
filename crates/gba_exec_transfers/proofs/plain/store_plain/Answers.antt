use Rattle.std.proofs.Common.{sym, subst}
use Rattle.gba_exec_transfers.specs.Done.{Done, Leaves}
use Rattle.gba_exec_transfers.proofs.PlainBlocks.{plain_stores}
use Rattle.gba_exec_transfers.proofs.plain.store_plain.Goals as goal

pub returns : goal.returns
returns g c =
    let Left : Done g.B.Bus.State → Type 0 = λ done.
    Leaves done c.move_base.new.registers (g.B.Bus.state c.store_listed.new.bus) c.store_listed.result in
    subst Left
    (sym (plain_stores g.B.Bus.code_price_of g.B.Bus.load_of g.B.Bus.store_of c.args.plain c.args.site c.from.result
    c.from-list.result c.get-base.result c.first_of.result c.rest_of.result c.align-first.result
    c.store_one-price.result c.code_price-code.result c.args.registers.now c.move_base.new.registers
    (g.B.Bus.state c.args.bus.now)
    (g.B.Bus.state c.store_one-price.new.bus) c.requires c.from.ensures c.from-list.ensures c.get-base.ensures
    c.get-base.type_inv c.first_of.ensures.value c.rest_of.ensures.value c.align-first.ensures
    c.store_one-price.ensures.bus c.store_one-price.ensures.price c.move_base.ensures c.code_price-code.ensures.cost))
    c.store_listed.ensures.leaves
