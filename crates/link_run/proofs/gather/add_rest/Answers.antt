use Rattle.std.proofs.Common.{ℕ, ◌≡◌, ◌+◌, ◌<◌, inl, inr, arith, refl, sym, ap, ◌∙◌, subst}
use Rattle.std.specs.Prelude.{List, [], ◌∷◌, length, slice_index}
use Rattle.std.proofs.lemmas.Bool.{cases_lt}
use Rattle.link_node.specs.declared.delays.Delays.{Delays}
use Rattle.link_order.specs.declared.sent.Sent.{Sent}
use Rattle.link_order.specs.NodeKind.{NodeKind, kind_of}
use Rattle.link_node.specs.Delays.{hop_of}
use Rattle.link_script.specs.Script.{Script}
use Rattle.link_table.specs.declared.key.Key.{Key}
use Rattle.link_table.specs.Text.{script_of}
use Rattle.link_table.specs.Uniting.{pair_place}
use Rattle.link_table.specs.Joining.{JoinedState}
use Rattle.link_run.specs.Adding.{Adding, IsRest, RestOf}
use Rattle.link_run.proofs.Addings.{adding_one, adding_same, adding_room}
use Rattle.link_run.proofs.Rests.{RestStep, rest_step, rest_done, rest_one, rest_dead}
use Rattle.link_run.proofs.gather.add_rest.Goals as goal

pub add_late-requires-clause-room : goal.add_late-requires-clause-room
add_late-requires-clause-room g c late =
    let kind : NodeKind g.N.Node.Record = kind_of g.N.Node.clock g.N.Node.was g.N.Node.next in
    let key : Key g.row.N.Denot = c.requires.may.0 in
    adding_room _ _ c.args.shell.now.sent c.loop-signal.shell.sent c.requires.may.2
    (c.loop-signal.invariant.adding key c.requires.may.1)

pub add_late-requires-clause-widths : goal.add_late-requires-clause-widths
add_late-requires-clause-widths g c late =
    let kind : NodeKind g.N.Node.Record = kind_of g.N.Node.clock g.N.Node.was g.N.Node.next in
    let key : Key g.row.N.Denot = c.requires.may.0 in
    let s : Script = script_of kind g.N.Node.plain key in
    let first : JoinedState (Key g.row.N.Denot) = c.args.joined.now in
    let old : JoinedState (Key g.row.N.Denot) = c.loop-signal.joined in
    let place : ℕ = pair_place c.args.player c.args.peer in
    let own : old.key ≡ key ∷ []
    = ap (λ (z : JoinedState (Key g.row.N.Denot)). z.key) c.loop-signal.invariant.same ∙ c.requires.may.1 in
    let step : RestStep s first old c.rest.new.joined c.args.player c.args.peer c.in-Some.signal
    = rest_step s first old c.rest.new.joined c.args.player c.args.peer c.in-Some.signal c.loop-signal.invariant.same
    c.loop-signal.invariant.wide c.requires.peer c.requires.pair (c.in-Some.ensures.rest key own) in
    let between : c.hop-between.result ≡ hop_of c.args.shell.now.delays c.args.peer c.args.player
    = c.hop-between.ensures ∙ ap (λ (d : Delays). hop_of d c.args.peer c.args.player) c.delays.ensures.value in
    let is : c.args.was < c.in-Some.signal.clock + c.hop-between.result
    → RestOf kind g.N.Node.plain key first c.args.player c.args.peer c.args.shell.now.delays c.args.was
    (record { sender = c.args.peer; signal = c.in-Some.signal })
    = λ late. record {
      number = slice_index old.fetched place;
      signal = c.in-Some.signal;
      from_first = c.loop-signal.invariant.more;
      before = step.before;
      stands = step.stands;
      late = omega (arith, late, between);
      is = refl;
    } in
    c.requires.may.2.fit (record { sender = c.args.peer; signal = c.in-Some.signal }) (is late)

pub loop-signal-smaller : goal.loop-signal-smaller
loop-signal-smaller g c =
    let kind : NodeKind g.N.Node.Record = kind_of g.N.Node.clock g.N.Node.was g.N.Node.next in
    let key : Key g.row.N.Denot = c.requires.may.0 in
    let s : Script = script_of kind g.N.Node.plain key in
    let first : JoinedState (Key g.row.N.Denot) = c.args.joined.now in
    let old : JoinedState (Key g.row.N.Denot) = c.loop-signal.joined in
    let place : ℕ = pair_place c.args.player c.args.peer in
    let own : old.key ≡ key ∷ []
    = ap (λ (z : JoinedState (Key g.row.N.Denot)). z.key) c.loop-signal.invariant.same ∙ c.requires.may.1 in
    let step : RestStep s first old c.rest.new.joined c.args.player c.args.peer c.in-Some.signal
    = rest_step s first old c.rest.new.joined c.args.player c.args.peer c.in-Some.signal c.loop-signal.invariant.same
    c.loop-signal.invariant.wide c.requires.peer c.requires.pair (c.in-Some.ensures.rest key own) in
    omega (arith, step.own, step.before)

pub loop-signal-preserved : goal.loop-signal-preserved
loop-signal-preserved g c =
    let kind : NodeKind g.N.Node.Record = kind_of g.N.Node.clock g.N.Node.was g.N.Node.next in
    let key : Key g.row.N.Denot = c.requires.may.0 in
    let s : Script = script_of kind g.N.Node.plain key in
    let first : JoinedState (Key g.row.N.Denot) = c.args.joined.now in
    let old : JoinedState (Key g.row.N.Denot) = c.loop-signal.joined in
    let place : ℕ = pair_place c.args.player c.args.peer in
    let own : old.key ≡ key ∷ []
    = ap (λ (z : JoinedState (Key g.row.N.Denot)). z.key) c.loop-signal.invariant.same ∙ c.requires.may.1 in
    let step : RestStep s first old c.rest.new.joined c.args.player c.args.peer c.in-Some.signal
    = rest_step s first old c.rest.new.joined c.args.player c.args.peer c.in-Some.signal c.loop-signal.invariant.same
    c.loop-signal.invariant.wide c.requires.peer c.requires.pair (c.in-Some.ensures.rest key own) in
    let between : c.hop-between.result ≡ hop_of c.args.shell.now.delays c.args.peer c.args.player
    = c.hop-between.ensures ∙ ap (λ (d : Delays). hop_of d c.args.peer c.args.player) c.delays.ensures.value in
    let is : c.args.was < c.in-Some.signal.clock + c.hop-between.result
    → RestOf kind g.N.Node.plain key first c.args.player c.args.peer c.args.shell.now.delays c.args.was
    (record { sender = c.args.peer; signal = c.in-Some.signal })
    = λ late. record {
      number = slice_index old.fetched place;
      signal = c.in-Some.signal;
      from_first = c.loop-signal.invariant.more;
      before = step.before;
      stands = step.stands;
      late = omega (arith, late, between);
      is = refl;
    } in
    let one : Sent = record { sender = c.args.peer; signal = c.in-Some.signal } in
    record {
      same = step.same;
      wide = step.wide;
      others = λ pair apart. step.others pair apart ∙ c.loop-signal.invariant.others pair apart;
      delays = c.add_late.ensures.delays ∙ c.loop-signal.invariant.delays;
      more = omega (arith, step.own, c.loop-signal.invariant.more);
      adding = λ other keys.
          let both : key ∷ [] ≡ other ∷ [] = sym c.requires.may.1 ∙ keys in
          let same : key ≡ other = cc in
          let Next : Key g.row.N.Denot → Type 0 = λ (k : Key g.row.N.Denot).
          Adding (RestOf kind g.N.Node.plain k first c.args.player c.args.peer c.args.shell.now.delays c.args.was)
          (IsRest (script_of kind g.N.Node.plain k) c.args.peer
          (hop_of c.args.shell.now.delays c.args.peer c.args.player) (slice_index first.fetched place)
          (slice_index c.rest.new.joined.fetched place) c.args.was) c.args.shell.now.sent c.add_late.new.shell.sent in
          let before = c.loop-signal.invariant.adding key c.requires.may.1 in
          let here : Next key = elim (cases_lt c.args.was (c.in-Some.signal.clock + c.hop-between.result)) [
            | inl late ↦
                adding_one (RestOf kind g.N.Node.plain key first c.args.player c.args.peer c.args.shell.now.delays
                c.args.was) (IsRest s c.args.peer (hop_of c.args.shell.now.delays c.args.peer c.args.player)
                (slice_index first.fetched place) (slice_index old.fetched place) c.args.was)
                (IsRest s c.args.peer (hop_of c.args.shell.now.delays c.args.peer c.args.player)
                (slice_index first.fetched place) (slice_index c.rest.new.joined.fetched place) c.args.was)
                c.args.shell.now.sent c.loop-signal.shell.sent c.add_late.new.shell.sent one c.requires.may.2 before
                (c.add_late.ensures.late late) (is late)
                (λ z h. rest_one s c.args.peer (hop_of c.args.shell.now.delays c.args.peer c.args.player)
                (slice_index first.fetched place) (slice_index old.fetched place) c.args.was c.in-Some.signal z
                step.stands (slice_index c.rest.new.joined.fetched place) step.own h)
            | inr dead ↦
                adding_same (RestOf kind g.N.Node.plain key first c.args.player c.args.peer c.args.shell.now.delays
                c.args.was) (IsRest s c.args.peer (hop_of c.args.shell.now.delays c.args.peer c.args.player)
                (slice_index first.fetched place) (slice_index old.fetched place) c.args.was)
                (IsRest s c.args.peer (hop_of c.args.shell.now.delays c.args.peer c.args.player)
                (slice_index first.fetched place) (slice_index c.rest.new.joined.fetched place) c.args.was)
                c.args.shell.now.sent c.loop-signal.shell.sent c.add_late.new.shell.sent before
                (c.add_late.ensures.dead dead)
                (λ z h. rest_dead s c.args.peer (hop_of c.args.shell.now.delays c.args.peer c.args.player)
                (slice_index first.fetched place) (slice_index old.fetched place) c.args.was c.in-Some.signal z
                step.stands (slice_index c.rest.new.joined.fetched place) step.own (omega (arith, dead, between)) h)
          ] in
          subst Next same here;
    }

pub returns-clause-wide : goal.returns-clause-wide
returns-clause-wide g c =
    let kind : NodeKind g.N.Node.Record = kind_of g.N.Node.clock g.N.Node.was g.N.Node.next in
    let key : Key g.row.N.Denot = c.requires.may.0 in
    let first : JoinedState (Key g.row.N.Denot) = c.args.joined.now in
    let old : JoinedState (Key g.row.N.Denot) = c.loop-signal.joined in
    let own : old.key ≡ key ∷ []
    = ap (λ (z : JoinedState (Key g.row.N.Denot)). z.key) c.loop-signal.invariant.same ∙ c.requires.may.1 in
    let done = rest_done (script_of kind g.N.Node.plain key) first old c.rest.new.joined c.args.player c.args.peer
    c.loop-signal.invariant.same c.requires.peer (c.in_default.ensures.rest key own) in
    ap length done.1 ∙ c.loop-signal.invariant.wide

pub returns-clause-others : goal.returns-clause-others
returns-clause-others g c pair apart =
    let kind : NodeKind g.N.Node.Record = kind_of g.N.Node.clock g.N.Node.was g.N.Node.next in
    let key : Key g.row.N.Denot = c.requires.may.0 in
    let first : JoinedState (Key g.row.N.Denot) = c.args.joined.now in
    let old : JoinedState (Key g.row.N.Denot) = c.loop-signal.joined in
    let own : old.key ≡ key ∷ []
    = ap (λ (z : JoinedState (Key g.row.N.Denot)). z.key) c.loop-signal.invariant.same ∙ c.requires.may.1 in
    let done = rest_done (script_of kind g.N.Node.plain key) first old c.rest.new.joined c.args.player c.args.peer
    c.loop-signal.invariant.same c.requires.peer (c.in_default.ensures.rest key own) in
    ap (λ (l : List ℕ). slice_index l pair) done.1 ∙ c.loop-signal.invariant.others pair apart

pub returns-clause-adds : goal.returns-clause-adds
returns-clause-adds g c key' keys =
    let kind : NodeKind g.N.Node.Record = kind_of g.N.Node.clock g.N.Node.was g.N.Node.next in
    let key : Key g.row.N.Denot = c.requires.may.0 in
    let first : JoinedState (Key g.row.N.Denot) = c.args.joined.now in
    let old : JoinedState (Key g.row.N.Denot) = c.loop-signal.joined in
    let own : old.key ≡ key ∷ []
    = ap (λ (z : JoinedState (Key g.row.N.Denot)). z.key) c.loop-signal.invariant.same ∙ c.requires.may.1 in
    let done = rest_done (script_of kind g.N.Node.plain key) first old c.rest.new.joined c.args.player c.args.peer
    c.loop-signal.invariant.same c.requires.peer (c.in_default.ensures.rest key own) in
    adding_same (RestOf kind g.N.Node.plain key' first c.args.player c.args.peer c.args.shell.now.delays c.args.was)
    (IsRest (script_of kind g.N.Node.plain key') c.args.peer
    (hop_of c.args.shell.now.delays c.args.peer c.args.player)
    (slice_index first.fetched (pair_place c.args.player c.args.peer))
    (slice_index old.fetched (pair_place c.args.player c.args.peer)) c.args.was)
    (RestOf kind g.N.Node.plain key' first c.args.player c.args.peer c.args.shell.now.delays c.args.was)
    c.args.shell.now.sent c.loop-signal.shell.sent c.loop-signal.shell.sent (c.loop-signal.invariant.adding key' keys)
    refl
    (λ one h. record {
      number = h.number;
      signal = h.signal;
      from_first = h.from_first;
      before = omega (arith, h.before, done.0);
      stands = h.stands;
      late = h.late;
      is = h.is;
    })
