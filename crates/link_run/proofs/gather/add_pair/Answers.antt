use Rattle.std.proofs.Common.{ℕ, ◌≡◌, ◌/◌, ◌%◌, arith, sym, ap, ◌∙◌, subst}
use Rattle.std.specs.Prelude.{map, slice_index}
use Rattle.link_order.specs.declared.sent.Sent.{Sent}
use Rattle.link_order.specs.NodeKind.{NodeKind, kind_of}
use Rattle.link_core.proofs.Readings.{read-node}
use Rattle.link_table.specs.declared.key.Key.{Key}
use Rattle.link_run.specs.Adding.{RestOf, PairRest}
use Rattle.link_run.proofs.Addings.{may_sub, adds_as}
use Rattle.link_run.proofs.Rests.{pair_is}
use Rattle.link_run.proofs.gather.add_pair.Goals as goal

pub add_rest-requires-clause-may : goal.add_rest-requires-clause-may
add_rest-requires-clause-may g c =
    let kind : NodeKind g.N.Node.Record = kind_of g.N.Node.clock g.N.Node.was g.N.Node.next in
    let own : ℕ = c.args.pair / 4 in
    let peer : ℕ = c.args.pair % 4 in
    let was_is : c.was-was.result ≡ slice_index (map kind.was (map g.N.Node.plain c.args.nodes.now)) own
    = c.was-was.ensures ∙ ap (λ (n : g.row.N.Denot). kind.was (g.N.Node.plain n)) c.index-nodes-player.is
    ∙ sym (read-node g.N.Node.plain kind.was c.args.nodes.now own c.index-nodes-player.result
    (omega (arith, c.if-player-nodes.false))) in
    let Rest : Key g.row.N.Denot → Sent → Type 0 = λ (key : Key g.row.N.Denot) (one : Sent).
    RestOf kind g.N.Node.plain key c.args.joined.now own peer c.args.shell.now.delays c.was-was.result one in
    let Pair : Key g.row.N.Denot → Sent → Type 0 = λ (key : Key g.row.N.Denot) (one : Sent).
    PairRest kind g.N.Node.plain key c.args.joined.now c.args.nodes.now c.args.shell.now.delays c.args.pair one in
    let to_pair : (key : Key g.row.N.Denot) (one : Sent) → Rest key one → Pair key one
    = λ key one h. record {
      own = own;
      peer = peer;
      pair_is = omega arith;
      own_below = omega (arith, c.if-player-nodes.false);
      peer_below = omega (arith, c.if-peer-nodes.false);
      apart = c.if-peer-player.false;
      rest =
          subst (λ (was : ℕ). RestOf kind g.N.Node.plain key c.args.joined.now own peer c.args.shell.now.delays was one)
          was_is h;
    } in
    let key : Key g.row.N.Denot = c.requires.may.0 in
    (key, c.requires.may.1, may_sub (Pair key) (Rest key) c.args.shell.now.sent c.requires.may.2 (to_pair key))

pub returns-clause-adds : goal.returns-clause-adds
returns-clause-adds g c key keys =
    let kind : NodeKind g.N.Node.Record = kind_of g.N.Node.clock g.N.Node.was g.N.Node.next in
    let own : ℕ = c.args.pair / 4 in
    let peer : ℕ = c.args.pair % 4 in
    let was_is : c.was-was.result ≡ slice_index (map kind.was (map g.N.Node.plain c.args.nodes.now)) own
    = c.was-was.ensures ∙ ap (λ (n : g.row.N.Denot). kind.was (g.N.Node.plain n)) c.index-nodes-player.is
    ∙ sym (read-node g.N.Node.plain kind.was c.args.nodes.now own c.index-nodes-player.result
    (omega (arith, c.if-player-nodes.false))) in
    let Rest : Key g.row.N.Denot → Sent → Type 0 = λ (key : Key g.row.N.Denot) (one : Sent).
    RestOf kind g.N.Node.plain key c.args.joined.now own peer c.args.shell.now.delays c.was-was.result one in
    let Pair : Key g.row.N.Denot → Sent → Type 0 = λ (key : Key g.row.N.Denot) (one : Sent).
    PairRest kind g.N.Node.plain key c.args.joined.now c.args.nodes.now c.args.shell.now.delays c.args.pair one in
    let to_pair : (key : Key g.row.N.Denot) (one : Sent) → Rest key one → Pair key one
    = λ key one h. record {
      own = own;
      peer = peer;
      pair_is = omega arith;
      own_below = omega (arith, c.if-player-nodes.false);
      peer_below = omega (arith, c.if-peer-nodes.false);
      apart = c.if-peer-player.false;
      rest =
          subst (λ (was : ℕ). RestOf kind g.N.Node.plain key c.args.joined.now own peer c.args.shell.now.delays was one)
          was_is h;
    } in
    adds_as (Rest key) (Pair key) c.args.shell.now.sent c.add_rest.new.shell.sent (c.add_rest.ensures.adds key keys)
    (to_pair key)
    (λ one h. let p =
    pair_is kind g.N.Node.plain key c.args.joined.now c.args.nodes.now c.args.shell.now.delays c.args.pair
    one c.requires.few h in
    subst (λ (was : ℕ). RestOf kind g.N.Node.plain key c.args.joined.now own peer c.args.shell.now.delays was one)
    (sym was_is) p.rest)
