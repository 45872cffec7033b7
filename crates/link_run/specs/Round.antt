use Rattle.std.specs.Prelude.{ℕ, ◌≡◌, ◌<◌, ◌≤◌, [], length, map}
use Rattle.std.specs.Vec.{vec_capacity}
use Rattle.link_order.specs.NodeKind.{NodeKind}
use Rattle.link_order.specs.Cut.{Cut, plain_cut, live, clock_at}
use Rattle.link_order.specs.GlobalOrder.{least, run, cycles_left}
use Rattle.link_table.specs.declared.key.Key.{Key}
use Rattle.link_run.specs.declared.round.Round.{Round}
use Rattle.link_run.specs.Rounds.{AreLanes, AreOpened}
use Rattle.link_run.specs.Going.{AllWent}

-- this project's profile: a round

-- a lane for each console of the key's cut, at the round's own table, and the memory to make a cut of them
pub record IsRound {N C : Type 0} (kind : NodeKind C) (plain : N → C) (key : Key N) (round : Round N) : Type 0 where
  pub lanes_are : AreLanes kind plain key round.shared round.lanes.items
  pub delays_are : round.spare.shell.delays ≡ key.cut.value.delays
  pub no_nodes : round.spare.nodes.items ≡ []
  pub no_seats : round.spare.seats.items ≡ []
  pub no_waits : round.spare.waits.items ≡ []
  pub room_of_nodes : length round.lanes.items ≤ vec_capacity round.spare.nodes
  pub room_of_seats : length round.lanes.items ≤ vec_capacity round.spare.seats
  pub room_of_waits : length round.lanes.items ≤ vec_capacity round.spare.waits

-- a round of this cut, whose lanes haven't stepped
pub record Begins {N C : Type 0} (kind : NodeKind C) (plain : N → C) (bound : N → ℕ) (cut : Cut N) (round : Round N)
    : Type 0
  where
    pub key : Key N
    pub opened : AreOpened kind plain bound cut key round.lanes.items
    pub round_is : IsRound kind plain key round

-- the same round, whose lanes have gone on
pub record HasGone {N C : Type 0} (kind : NodeKind C) (plain : N → C) (bound : N → ℕ) (until : ℕ) (first now : Round N)
    : Type 0
  where
    pub shared_is : now.shared ≡ first.shared
    pub spare_is : now.spare ≡ first.spare
    pub went : AllWent kind plain bound until first.lanes.items now.lanes.items

-- what a round makes of a cut: the global order goes on to the same end, with fewer cycles left, and no
-- limit has changed
pub record ComesNearer {N C : Type 0} (kind : NodeKind C) (plain : N → C) (bound : N → ℕ) (until : ℕ)
    (cut result : Cut N)
    : Type 0
  where
    pub same_end : live kind (run kind (plain_cut plain result) until)
        ≡ live kind (run kind (plain_cut plain cut) until)
    pub fewer : clock_at kind (plain_cut plain cut) (least kind (plain_cut plain cut)) < until
        → cycles_left kind (plain_cut plain result) until < cycles_left kind (plain_cut plain cut) until
    pub limits : map bound result.consoles ≡ map bound cut.consoles
