use Rattle.std.proofs.Common.{ℕ, ◌≡◌, ◌+◌, inl, inr, arith, sym, ap, ◌∙◌, subst}
use Rattle.std.specs.Prelude.{[], ◌∷◌, slice_index}
use Rattle.link_node.specs.declared.delays.Delays.{Delays}
use Rattle.link_order.specs.declared.sent.Sent.{Sent}
use Rattle.link_order.specs.NodeKind.{NodeKind, kind_of}
use Rattle.link_table.specs.declared.key.Key.{Key}
use Rattle.link_table.specs.Joining.{JoinedState, with_fetched}
use Rattle.link_run.specs.Adding.{PairRest, PairsRest}
use Rattle.link_run.proofs.Addings.{may_after, adding_more}
use Rattle.link_run.proofs.Rests.{pair_moved, pairs_one}
use Rattle.link_run.proofs.gather.add_rests.Goals as goal

pub add_pair-requires-clause-may : goal.add_pair-requires-clause-may
add_pair-requires-clause-may g c =
    let kind : NodeKind g.N.Node.Record = kind_of g.N.Node.clock g.N.Node.was g.N.Node.next in
    let first : JoinedState (Key g.row.N.Denot) = c.args.joined.now in
    let now : JoinedState (Key g.row.N.Denot) = c.loop-pair.joined in
    let n : ℕ = c.loop-pair.pair in
    let made : now.made ≡ first.made
    = ap (λ (z : JoinedState (Key g.row.N.Denot)). z.made) c.loop-pair.invariant.same in
    let same : slice_index now.fetched n ≡ slice_index first.fetched n
    = c.loop-pair.invariant.later n (omega arith) in
    let Pair : Key g.row.N.Denot → Sent → Type 0 = λ (key : Key g.row.N.Denot) (one : Sent).
    PairRest kind g.N.Node.plain key now c.args.nodes.now c.loop-pair.shell.delays n one in
    let Pairs : Key g.row.N.Denot → ℕ → Sent → Type 0 = λ (key : Key g.row.N.Denot) (some : ℕ) (one : Sent).
    PairsRest kind g.N.Node.plain key first c.args.nodes.now c.args.shell.now.delays some one in
    let to_pairs : (key : Key g.row.N.Denot) (one : Sent) → Pair key one → Pairs key 16 one
    = λ key one h. record {
      pair = n;
      below = c.loop-pair-test.true;
      rest = pair_moved kind g.N.Node.plain key now first c.args.nodes.now c.args.shell.now.delays n one made same
          (subst (λ (d : Delays). PairRest kind g.N.Node.plain key now c.args.nodes.now d n one)
          c.loop-pair.invariant.delays h);
    } in
    let key : Key g.row.N.Denot = c.requires.may.0 in
    let keys : now.key ≡ key ∷ []
    = ap (λ (z : JoinedState (Key g.row.N.Denot)). z.key) c.loop-pair.invariant.same ∙ c.requires.may.1 in (
      key,
      keys,
      may_after (Pairs key 16) (Pairs key n) (Pair key) c.args.shell.now.sent c.loop-pair.shell.sent
          c.requires.may.2 (c.loop-pair.invariant.adding key c.requires.may.1) (to_pairs key),
    )

pub loop-pair-preserved : goal.loop-pair-preserved
loop-pair-preserved g c =
    let kind : NodeKind g.N.Node.Record = kind_of g.N.Node.clock g.N.Node.was g.N.Node.next in
    let first : JoinedState (Key g.row.N.Denot) = c.args.joined.now in
    let now : JoinedState (Key g.row.N.Denot) = c.loop-pair.joined in
    let n : ℕ = c.loop-pair.pair in
    let made : now.made ≡ first.made
    = ap (λ (z : JoinedState (Key g.row.N.Denot)). z.made) c.loop-pair.invariant.same in
    let same : slice_index now.fetched n ≡ slice_index first.fetched n
    = c.loop-pair.invariant.later n (omega arith) in
    let Pair : Key g.row.N.Denot → Sent → Type 0 = λ (key : Key g.row.N.Denot) (one : Sent).
    PairRest kind g.N.Node.plain key now c.args.nodes.now c.loop-pair.shell.delays n one in
    let Pairs : Key g.row.N.Denot → ℕ → Sent → Type 0 = λ (key : Key g.row.N.Denot) (some : ℕ) (one : Sent).
    PairsRest kind g.N.Node.plain key first c.args.nodes.now c.args.shell.now.delays some one in
    let to_pairs : (key : Key g.row.N.Denot) (one : Sent) → Pair key one → Pairs key 16 one
    = λ key one h. record {
      pair = n;
      below = c.loop-pair-test.true;
      rest = pair_moved kind g.N.Node.plain key now first c.args.nodes.now c.args.shell.now.delays n one made same
          (subst (λ (d : Delays). PairRest kind g.N.Node.plain key now c.args.nodes.now d n one)
          c.loop-pair.invariant.delays h);
    } in
    record {
      same = c.add_pair.ensures.same
          ∙ ap (λ (z : JoinedState (Key g.row.N.Denot)). with_fetched z c.add_pair.new.joined.fetched)
          c.loop-pair.invariant.same;
      wide = c.add_pair.ensures.wide;
      later = λ other past. c.add_pair.ensures.others other (λ e. absurd (omega arith))
          ∙ c.loop-pair.invariant.later other (omega arith);
      delays = c.add_pair.ensures.delays ∙ c.loop-pair.invariant.delays;
      adding = λ key keys.
          let own : now.key ≡ key ∷ []
          = ap (λ (z : JoinedState (Key g.row.N.Denot)). z.key) c.loop-pair.invariant.same ∙ keys in
          adding_more (Pairs key 16) (Pairs key n) (Pairs key (n + 1)) (Pair key) c.args.shell.now.sent
          c.loop-pair.shell.sent c.add_pair.new.shell.sent (c.loop-pair.invariant.adding key keys)
          (c.add_pair.ensures.adds key own) (to_pairs key)
          (λ one h. elim (pairs_one kind g.N.Node.plain key first c.args.nodes.now c.args.shell.now.delays n one h) [
            | inl before ↦ inl before
            | inr here ↦ inr (
                subst (λ (d : Delays). PairRest kind g.N.Node.plain key now c.args.nodes.now d n one)
                (sym c.loop-pair.invariant.delays)
                (pair_moved kind g.N.Node.plain key first now c.args.nodes.now c.args.shell.now.delays n one (sym made)
                (sym same) here))
          ]);
    }
