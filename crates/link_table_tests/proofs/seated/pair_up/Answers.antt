use Rattle.std.specs.Prelude.{List, length}
use Rattle.std.proofs.Common.{◌≡◌, ◌<◌, arith, ap, ◌∙◌, get_or}
use Rattle.link_table.specs.declared.key.Key.{Key}
use Rattle.link_table.specs.Seated.{SeatState}
use Rattle.link_table_tests.specs.declared.ticker.Ticker.{Ticker}
use Rattle.link_table_tests.specs.Following.{console_state}
use Rattle.link_table_tests.proofs.Openings.{IsDealt, dealt_seat, left_on, same_console, seated_on}
use Rattle.link_table_tests.proofs.seated.pair_up.Goals as goal

pub new-requires : goal.new-requires
new-requires c =
    let all : c.nodes-nodes.result.now ≡ c.args.cut.now.consoles = c.nodes-nodes.ensures.value in
    let below : c.loop-player.player < length c.args.cut.now.consoles = omega (arith, ap length all) in
    (dealt_seat c.args.cut.now c.args.shared.now c.args.seats.items c.loop-player.player c.index-nodes-player.result
    c.remove-seat.result c.requires.begun c.nodes-nodes.ensures.cable c.nodes-nodes.ensures.sound
    c.requires.limits below (c.index-nodes-player.is
    ∙ ap (λ (l : List Ticker). get_or l c.loop-player.player c.index-nodes-player.result) all)
    (c.remove-seat.ensures.value
    ∙ ap (λ (l : List (SeatState (Key Ticker))). get_or l 0 c.remove-seat.result) c.loop-player.invariant.seats)).fresh

pub loop-player-preserved : goal.loop-player-preserved
loop-player-preserved c =
    let all : c.nodes-nodes.result.now ≡ c.args.cut.now.consoles = c.nodes-nodes.ensures.value in
    let below : c.loop-player.player < length c.args.cut.now.consoles = omega (arith, ap length all) in
    let d : IsDealt c.args.shared.now (length c.args.cut.now.consoles) c.loop-player.player c.index-nodes-player.result
    c.remove-seat.result
    = dealt_seat c.args.cut.now c.args.shared.now c.args.seats.items c.loop-player.player c.index-nodes-player.result
    c.remove-seat.result c.requires.begun c.nodes-nodes.ensures.cable c.nodes-nodes.ensures.sound
    c.requires.limits below (c.index-nodes-player.is
    ∙ ap (λ (l : List Ticker). get_or l c.loop-player.player c.index-nodes-player.result) all)
    (c.remove-seat.ensures.value
    ∙ ap (λ (l : List (SeatState (Key Ticker))). get_or l 0 c.remove-seat.result) c.loop-player.invariant.seats) in
    let same : c.new.result ≡ console_state c.remove-seat.result
    = same_console c.new.result (console_state c.remove-seat.result) c.new.ensures.table c.new.ensures.player
    c.new.ensures.players in
    record {
      seats =
          left_on c.args.seats.items c.loop-player.seats.items c.remove-seat.new.self.items c.loop-player.player
          c.remove-seat.result c.loop-player.invariant.seats
          (let total = c.requires.begun.dealt.count_is in omega arith) c.remove-seat.ensures.items;
      made =
          seated_on c.args.shared.now (length c.args.cut.now.consoles) c.loop-player.player c.loop-player.consoles.items
          c.push.new.self.items c.new.result c.loop-player.invariant.made c.in_ok-push.ensures.items (same ∙ d.state);
    }
