use Rattle.std.proofs.Common.{ℕ, ◌≡◌, ◌+◌, arith, sym, ap, ◌∙◌, append_assoc}
use Rattle.std.specs.Prelude.{List, [], ◌∷◌, ◌++◌, length, map, slice_get, true, ◌==◌}
use Rattle.std.specs.Vec.{vec_len}
use Rattle.std.proofs.lemmas.Bool.Decides.{nat_tests}
use Rattle.std.proofs.lemmas.List.{map-append, append-nil}
use Rattle.link_order.specs.NodeKind.{NodeKind, kind_of}
use Rattle.link_table.specs.declared.key.Key.{Key}
use Rattle.link_lane.specs.Following.{LaneState, Follows}
use Rattle.link_run.specs.Rounds.{node_of, seat_of_lane, waits_of}
use Rattle.link_run.proofs.Finishings.{first_goes, first_of, none_left, one_done}
use Rattle.link_run.proofs.round.part_all.Goals as goal

pub loop-lanes-preserved : goal.loop-lanes-preserved
loop-lanes-preserved g c =
    let kind : NodeKind g.N.Node.Record = kind_of g.N.Node.clock g.N.Node.was g.N.Node.next in
    let before : List (LaneState g.row.N.Denot) = c.loop-lanes.lanes.items in
    let after : List (LaneState g.row.N.Denot) = c.remove.new.self.items in
    let x : LaneState g.row.N.Denot = c.remove.result in
    let inv = c.loop-lanes.invariant in
    let split : before ≡ x ∷ after
    = first_of before after x (omega (arith, c.remove.ensures.len, c.loop-lanes.lanes.ok)) c.remove.ensures.value
    c.remove.ensures.items in
    let parts = c.into_parts-node.ensures in
    let counts : length before ≡ length after + 1 = omega (arith, ap length split) in
    let Done : LaneState g.row.N.Denot → Type 0 = λ (lane : LaneState g.row.N.Denot).
    (key : Key g.row.N.Denot) → lane.seat.key ≡ key ∷ [] → Follows kind g.N.Node.plain key lane in
    record {
      nodes = first_goes node_of _ c.loop-lanes.nodes.items c.keep.new.list.items before after x
          c.into_parts-node.result.node split c.keep.ensures.items parts.node inv.nodes;
      seats = first_goes seat_of_lane _ c.loop-lanes.seats.items c.keep-in-loop-lanes.new.list.items before after x
          c.into_parts-node.result.seat split c.keep-in-loop-lanes.ensures.items parts.seat inv.seats;
      waits = first_goes waits_of _ (map (λ list. list.items) c.loop-lanes.waits.items)
          (map (λ list. list.items) c.keep-in-loop-lanes-2.new.list.items) before after x
          c.into_parts-node.result.waiting.items split
          (ap (map (λ list. list.items)) c.keep-in-loop-lanes-2.ensures.items
          ∙ map-append (λ list. list.items) c.loop-lanes.waits.items (c.into_parts-node.result.waiting ∷ []))
          parts.waiting inv.waits;
      room_of_nodes = omega (arith, counts, inv.room_of_nodes, c.keep.ensures.len, c.keep.ensures.room);
      room_of_seats = omega (
        arith,
        counts,
        inv.room_of_seats,
        c.keep-in-loop-lanes.ensures.len,
        c.keep-in-loop-lanes.ensures.room,
      );
      room_of_waits = omega (
        arith,
        counts,
        inv.room_of_waits,
        c.keep-in-loop-lanes-2.ensures.len,
        c.keep-in-loop-lanes-2.ensures.room,
      );
      done = inv.done ++ x ∷ [];
      split = inv.split ∙ ap (λ (l : List (LaneState g.row.N.Denot)). inv.done ++ l) split
          ∙ sym (append_assoc inv.done (x ∷ []) after);
      followed = λ i lane key stands keys.
          one_done Done inv.done x (λ k y s own at. inv.followed k y own s at) parts.follows i lane stands key keys;
    }

pub returns-clause-follow : goal.returns-clause-follow
returns-clause-follow g c i lane key stands keys =
    let inv = c.loop-lanes.invariant in
    let none : length c.loop-lanes.lanes.items ≡ 0
    = omega (
      arith,
      c.loop-lanes.lanes.ok,
      zero_of (vec_len c.loop-lanes.lanes) (sym c.is_empty.ensures ∙ c.loop-lanes-test.false),
    ) in
    let whole : c.args.lanes.items ≡ inv.done
    = inv.split ∙ ap (λ (l : List (LaneState g.row.N.Denot)). inv.done ++ l)
    (none_left c.loop-lanes.lanes.items none) ∙ append-nil inv.done in
    inv.followed i lane key (ap (λ (l : List (LaneState g.row.N.Denot)). slice_get l i) (sym whole) ∙ stands) keys
  where
    zero_of : (n : ℕ) → (n == 0) ≡ true → n ≡ 0
    zero_of n e = grind (arith, nat_tests)
