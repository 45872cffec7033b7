use Rattle.std.proofs.Common.{◌∙◌, arith}
use Rattle.gba_console.specs.Machine.{without_limit}
use Rattle.link_order.specs.Cut.{plain_cut}
use Rattle.gba_trace.proofs.Rooms.{near, still-shown}
use Rattle.gba_trace.proofs.Showing.{clock-shown}
use Rattle.gba_trace.proofs.way.Way.with_room.Goals as goal

pub forget_all-requires-clause-near : goal.forget_all-requires-clause-near
forget_all-requires-clause-near c =
    near c.args.self.cut c.least_clock-clock.result c.later_end-end.result c.args.until
    c.least_clock-clock.ensures.value c.later_end-end.ensures

pub returns-clause-shows : goal.returns-clause-shows
returns-clause-shows c = λ plain shows.
    still-shown c.args.self.cut c.forget_all.result c.forget_all.ensures.plain ∙ shows

pub returns-clause-clock : goal.returns-clause-clock
returns-clause-clock c =
    let same = clock-shown c.shorn_unseen.ensures.unseen c.shorn_unseen.ensures.tells c.steps.ensures
    (plain_cut without_limit c.args.self.cut) c.forget_all.result
    (still-shown c.args.self.cut c.forget_all.result c.forget_all.ensures.plain) in
    omega (arith, same, c.later_end-end.ensures, c.least_clock-clock.ensures.value, c.requires.early)
