use Rattle.std.proofs.Common.{◌<◌, length, arith}
use Rattle.gba_console.specs.Alone.{console_kind}
use Rattle.gba_console.specs.Machine.{without_limit}
use Rattle.link_order.specs.Cut.{plain_cut}
use Rattle.link_order.specs.GlobalOrder.{least}
use Rattle.gba_trace.proofs.Rooms.{room-of}
use Rattle.gba_trace.proofs.Showing.{step-shown}
use Rattle.gba_trace.proofs.way.Way.step.Goals as goal

pub serial_step-requires : goal.serial_step-requires
serial_step-requires c =
    let cut = c.args.self.now.cut in
    let i = least console_kind (plain_cut without_limit cut) in
    let within : i < length cut.consoles = omega (arith, c.least-player.ensures.value, c.least-player.ensures.player) in
    let room = room-of c.args.self.now.end i cut.consoles c.requires.room within in
    omega (arith, room, c.requires.clock)

pub returns-clause-shows : goal.returns-clause-shows
returns-clause-shows c = λ plain shows.
    step-shown c.shorn_unseen.ensures.unseen c.shorn_unseen.ensures.tells c.steps.ensures plain
    c.args.self.now.cut shows c.serial_step.new.self c.serial_step.ensures.step
