use Rattle.std.proofs.Common.{◌+◌, ◌∙◌, refl, get_or}
use Rattle.link_run.specs.Adding.{as_sent, IsWaiting}
use Rattle.link_run.proofs.Addings.{WaitsBefore, adding_one, adding_room}
use Rattle.link_run.proofs.Rests.{no_incoming, waits_one}
use Rattle.link_run.proofs.gather.add_waiting.Goals as goal

pub add-requires-clause-room : goal.add-requires-clause-room
add-requires-clause-room c =
    adding_room (IsWaiting c.args.waits.now) (WaitsBefore c.args.waits.now c.loop-one.one-index) c.args.shell.now.sent
    c.loop-one.shell.sent c.requires c.loop-one.invariant.adding

pub add-requires-clause-widths : goal.add-requires-clause-widths
add-requires-clause-widths c =
    c.requires.fit (as_sent (get_or c.args.waits.now c.loop-one.one-index no_incoming)) (record {
      place = c.loop-one.one-index;
      other = no_incoming;
      below = c.loop-one-test.true;
      is = refl;
    })

pub loop-one-preserved : goal.loop-one-preserved
loop-one-preserved c = record {
  delays = c.add.ensures.delays ∙ c.loop-one.invariant.delays;
  adding =
      adding_one (IsWaiting c.args.waits.now) (WaitsBefore c.args.waits.now c.loop-one.one-index)
      (WaitsBefore c.args.waits.now (c.loop-one.one-index + 1)) c.args.shell.now.sent c.loop-one.shell.sent
      c.add.new.self.sent (as_sent (get_or c.args.waits.now c.loop-one.one-index no_incoming)) c.requires
      c.loop-one.invariant.adding c.add.ensures.either (record {
        place = c.loop-one.one-index;
        other = no_incoming;
        below = c.loop-one-test.true;
        is = refl;
      }) (λ one h. waits_one c.args.waits.now c.loop-one.one-index one c.loop-one-test.true h);
}
