use Rattle.gba_exec_transfers.specs.Blocks.{registers_in}
use Rattle.gba_exec_transfers.proofs.Accesses.{loads-accesses}
use Rattle.gba_exec_transfers.proofs.Words.{holds-words, registers_in-most, registers_in-rises}
use Rattle.gba_exec_transfers.proofs.laws.loads_in_order.Goals as goal

pub returns-clause-rising : goal.returns-clause-rising
returns-clause-rising g c = registers_in-rises

pub returns-clause-accesses : goal.returns-clause-accesses
returns-clause-accesses g c = loads-accesses g.B.Bus.code_price_of g.B.Bus.load_of g.B.Bus.store_of

pub returns-clause-words : goal.returns-clause-words
returns-clause-words g c = λ site list lowest done is.
    holds-words g.B.Bus.load_of g.B.Bus.store_of c.set_then_get.ensures.same c.set_then_get.ensures.others
    c.set_then_get.ensures.file site (registers_in list 0 16) lowest done is (registers_in-most list)
    (registers_in-rises list)
