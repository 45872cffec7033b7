use Rattle.std.proofs.Common.{◌≡◌, ℕ, ◌<◌, get_or}
use Rattle.gba_psr.specs.Arrangement.{crossing}
use Rattle.gba_psr.proofs.banks.exchange.Given as goal

-- the places below the counter are exchanged
abbrev pub invariant-loop-number : goal.invariant-loop-number
invariant-loop-number l =
    (p : ℕ) → p < 37 → get_or l.numbers p 0 ≡ get_or l.initial.numbers (crossing l.first l.number l.distance p) 0
