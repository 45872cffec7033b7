use Rattle.std.proofs.Common.{get_or, ap, sym, ◌∙◌}
use Rattle.gba_psr.specs.Arrangement.{seat}
use Rattle.gba_psr.proofs.Seats.{seat_within, seat-seat}
use Rattle.gba_psr.proofs.banks.change_bank.Goals as goal

pub returns-then-from-to : goal.returns-then-from-to
returns-then-from-to c = λ place within.
    c.exchange-then-from-to.ensures place within
    ∙ c.exchange.ensures (seat c.args.to place) (seat_within c.args.to place within)

pub returns-else-from-to : goal.returns-else-from-to
returns-else-from-to c = λ place within.
    rw c.if-from-to.false (ap (λ p. get_or c.args.numbers.now p 0) (sym (seat-seat c.args.to place)))
