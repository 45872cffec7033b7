use Rattle.std.proofs.Common.{◌≤◌, ◌∙◌, arith}
use Rattle.gba_console.proofs.Keying.{change_at, count-at, due-at, due-count-at, early-at, none-at, none-count-at}
use Rattle.gba_console.proofs.keys.apply.Goals as goal

pub returns-then-change-clock-clause-core : goal.returns-then-change-clock-clause-core
returns-then-change-clock-clause-core c =
    early-at c.args.clock c.args.changes.now c.loop-next.next c.loop-next.core (omega arith) c.if-change-clock.true
    ∙ c.loop-next.invariant.1

pub returns-then-change-clock-clause-count : goal.returns-then-change-clock-clause-count
returns-then-change-clock-clause-count c =
    let none = count-at c.args.clock c.args.changes.now c.loop-next.next (omega arith) c.if-change-clock.true in
    omega (arith, none, c.loop-next.invariant.2)

pub loop-next-preserved : goal.loop-next-preserved
loop-next-preserved c =
    let changes = c.args.changes.now in
    let next = c.loop-next.next in
    let due : (change_at changes next).clock ≤ c.args.clock = omega (arith, c.if-change-clock.false) in
    let one = due-count-at c.args.clock changes next (omega arith) due in (
      omega arith,
      due-at c.args.clock changes next c.loop-next.core c.set_keys.new.self (omega arith) due c.set_keys.ensures
          ∙ c.loop-next.invariant.1,
      omega (arith, one, c.loop-next.invariant.2),
    )

pub returns-clause-core : goal.returns-clause-core
returns-clause-core c =
    none-at c.args.clock c.args.changes.now c.loop-next.next c.loop-next.core (omega (arith, c.loop-next-test.false))
    ∙ c.loop-next.invariant.1

pub returns-clause-count : goal.returns-clause-count
returns-clause-count c =
    let none = none-count-at c.args.clock c.args.changes.now c.loop-next.next (omega (arith, c.loop-next-test.false)) in
    omega (arith, none, c.loop-next.invariant.2)
