-- A lane after its next steps.
use Rattle.std.specs.Prelude.{List, [], ◌∷◌, length, map, take, Option, None, Some, IfSome, IsSome, All, slice_get}
use Rattle.std.specs.Prelude.{option_to_list, ◌++◌}
use Rattle.std.specs.Prelude.{false, nat_le, if◌then◌else◌}
use Rattle.std.proofs.Common.{ℕ, suc, ◌≡◌, ◌≢◌, ◌+◌, ◌*◌, ◌<◌, ◌≤◌, inl, inr, arith, refl, sym, ap, ◌∙◌, subst}
use Rattle.std.proofs.lemmas.Bool.{cases_lt}
use Rattle.std.proofs.lemmas.Bool.Decides.{nat_tests}
use Rattle.std.proofs.lemmas.List.{length-map}
use Rattle.link_node.specs.declared.signal.Incoming.{Incoming}
use Rattle.link_node.specs.declared.signal.Signal.{Signal}
use Rattle.link_node.specs.Alone.{StepsAlone, Stays, Steps}
use Rattle.link_node.specs.Due.{IsDue, InOrder}
use Rattle.link_order.specs.NodeKind.{NodeKind, IsLawful}
use Rattle.link_order.specs.Order.{from}
use Rattle.link_order.specs.Due.{due, waiting}
use Rattle.link_order.specs.Cut.{Cut, hop, count, clock_at}
use Rattle.link_order.specs.GlobalOrder.{trace}
use Rattle.link_order.specs.Interleaving.{moment}
use Rattle.link_order.specs.Way.{Move, move_of, moves_of, console_after}
use Rattle.link_order.proofs.DueOrder.{due_is_due}
use Rattle.link_laws.proofs.Advance.{number_found}
use Rattle.link_trace.proofs.Ways.{ways, turns}
use Rattle.link_script.specs.Script.{Script, now, sent, told}
use Rattle.link_script.proofs.Lines.{clock_next}
use Rattle.link_script.proofs.Scripts.{now_next, sent_next, sent_here}
use Rattle.link_rule.specs.declared.view.Peer.{Peer}
use Rattle.link_rule.specs.declared.view.Progress.{Progress}
use Rattle.link_rule.specs.Rule.{peer_at, IsNextSignal}
use Rattle.link_rule.specs.Steps.{with_written, unlooked, stepped_on, MayPublish, Publishes}
use Rattle.link_rule.proofs.Publishing.{unlooked_at, same_silent}
use Rattle.link_table.specs.declared.key.Key.{Key}
use Rattle.link_table.specs.Text.{script_of}
use Rattle.link_table.specs.Seated.{SeatState, with_made}
use Rattle.link_inbox.specs.Waiting.{InboxState, next_arrival, arrived, later}
use Rattle.link_lane.specs.declared.lane.Lane.TheInside.{Inside}
use Rattle.link_lane.specs.Following.{LaneState, key_cut, known_of}
use Rattle.link_lane.specs.Hearing.{Hears, IsLane, lane_state}
use Rattle.link_lane.specs.Pausing.{IsAhead, IsAheadTo, BeginsBelow}
use Rattle.link_lane.proofs.Known.{known_rises, known_by}
use Rattle.link_lane.proofs.Waitings.{is_taken}
use Rattle.link_lane.proofs.Lanes.{own_clock, in_script}

-- what a step of this lane's console takes where it stands at y, and what it makes
abbrev pub due_at : {N C : Type 0} → NodeKind C → (N → C) → Inside N → Key N → C → List Incoming
due_at kind plain l key y =
    due (hop (key_cut plain key)) (known_of (key_cut plain key) (script_of kind plain key) l.seat.made.peers)
    l.seat.player (kind.was y) (kind.clock y) (count (key_cut plain key))

abbrev pub due_of : {N C : Type 0} → NodeKind C → (N → C) → Inside N → Key N → List Incoming
due_of kind plain l key = due_at kind plain l key (plain l.node)

abbrev pub next_of : {N C : Type 0} → NodeKind C → (N → C) → Inside N → Key N → C × Option Signal
next_of kind plain l key = kind.next (plain l.node) (due_of kind plain l key)

-- what waits for the console once its last step began at this clock
abbrev pub waits_at : {N C : Type 0} → NodeKind C → (N → C) → Inside N → Key N → ℕ → List Incoming
waits_at kind plain l key was =
    waiting (hop (key_cut plain key)) (known_of (key_cut plain key) (script_of kind plain key) l.seat.made.peers)
    l.seat.player was (count (key_cut plain key))

-- y is this lane's console after so many steps more, which sent nothing, and `waits` waits for it
pub record GoesSilently {N C : Type 0} (kind : NodeKind C) (plain : N → C) (l : Inside N) (key : Key N) (end silent : ℕ)
    (y : C) (waits : List Incoming) : Type 0
  where
    pub console : console_after kind (key_cut plain key) (trace kind (key_cut plain key) key.limit) l.seat.player
        (l.seat.made.steps + silent) ≡ Some y
    pub clock_is : now (script_of kind plain key) l.seat.player (l.seat.made.steps + silent) ≡ kind.clock y
    pub quiet : sent (script_of kind plain key) l.seat.player (l.seat.made.steps + silent)
        ≡ sent (script_of kind plain key) l.seat.player l.seat.made.steps
    pub waits_are : waits ≡ waits_at kind plain l key (kind.was y)
    pub begun : kind.was y ≤ kind.clock y
    pub short : kind.clock y ≤ kind.was y + 512
    pub up : kind.clock (plain l.node) ≤ kind.clock y
    pub below : BeginsBelow (script_of kind plain key) end l.seat.player l.seat.made.steps (l.seat.made.steps + silent)

-- the trace's next steps of this player, so many that send nothing and one more: they come to this console, the last
-- sends this, and `waits` waits for it
pub record GoesOn {N C : Type 0} (kind : NodeKind C) (plain : N → C) (l : Inside N) (key : Key N) (end silent : ℕ)
    (made : C × Option Signal) (waits : List Incoming) : Type 0
  where
    pub move : Move
    pub stands : slice_get ((script_of kind plain key).line l.seat.player).moves (l.seat.made.steps + silent)
        ≡ Some move
    pub quiet : sent (script_of kind plain key) l.seat.player (l.seat.made.steps + silent)
        ≡ sent (script_of kind plain key) l.seat.player l.seat.made.steps
    pub clock_is : move.clock ≡ kind.clock made.0
    pub tells_is : move.tells ≡ made.1
    pub console : console_after kind (key_cut plain key) (trace kind (key_cut plain key) key.limit) l.seat.player
        (suc (l.seat.made.steps + silent)) ≡ Some made.0
    pub waits_are : waits ≡ waits_at kind plain l key (kind.was made.0)
    pub begun : kind.was made.0 ≤ kind.clock made.0
    pub short : kind.clock made.0 ≤ kind.was made.0 + 512
    pub later : kind.clock (plain l.node) < kind.clock made.0
    pub allowed : (j : ℕ) → j < (script_of kind plain key).players → j ≢ l.seat.player
        → now (script_of kind plain key) l.seat.player (l.seat.made.steps + silent)
        < (peer_at l.seat.made.peers j).base + (script_of kind plain key).hop j l.seat.player
    pub below : BeginsBelow (script_of kind plain key) end l.seat.player l.seat.made.steps
        (suc (l.seat.made.steps + silent))

-- what arrives by a clock, and what stays
pub record Arrives {N C : Type 0} (kind : NodeKind C) (plain : N → C) (l : Inside N) (key : Key N) (y : C)
    (waits : List Incoming) : Type 0
  where
    pub now : arrived (kind.clock y) waits ≡ due_at kind plain l key y
    pub after : later (kind.clock y) waits ≡ waits_at kind plain l key (kind.clock y)
    pub ordered : InOrder (due_at kind plain l key y)
    pub taken : All (IsDue (kind.was y) (kind.clock y)) (due_at kind plain l key y)

arrives : {N C : Type 0} (kind : NodeKind C) → IsLawful kind → (plain : N → C) (bound : N → ℕ) (l : Inside N)
    (h : IsLane kind plain bound l) (y : C) (waits : List Incoming) → kind.was y ≤ kind.clock y
    → waits ≡ waits_at kind plain l h.key (kind.was y) → Arrives kind plain l h.key y waits
unfolding script_of
arrives {C = C} kind law plain bound l h y waits begun waits_are =
    let cut : Cut C = key_cut plain h.key in
    let s : Script = script_of kind plain h.key in
    let i : ℕ = l.seat.player in
    let known : ℕ → List Signal = known_of cut s l.seat.made.peers in
    let t = is_taken (hop cut) known i (kind.was y) (kind.clock y) (count cut) waits
    (known_rises kind law cut h.key.limit (λ j. (peer_at l.seat.made.peers j).taken) h.cable h.sound) begun
    waits_are in
    record {
      now = t.now;
      after = t.after;
      ordered = t.ordered;
      taken = due_is_due (hop cut) known i (kind.was y) (kind.clock y) (count cut)
          h.cable.at_most_four (λ j lj apart. h.cable.some_delay j i lj h.follows.player apart);
    }

-- before its next step
stays : {N C : Type 0} (kind : NodeKind C) → IsLawful kind → (plain : N → C) (bound : N → ℕ) (l : Inside N)
    (h : IsLane kind plain bound l) (end : ℕ) → GoesSilently kind plain l h.key end 0 (plain l.node) l.inbox.waits
stays {C = C} kind law plain bound l h end =
    let none : l.seat.made.steps + 0 ≡ l.seat.made.steps = omega arith in
    record {
      console = ap (λ (k : ℕ). console_after kind (key_cut plain h.key) (trace kind (key_cut plain h.key) h.key.limit)
          l.seat.player k) none ∙ h.follows.stands;
      clock_is = ap (now (script_of kind plain h.key) l.seat.player) none ∙ own_clock kind law plain bound l h;
      quiet = ap (sent (script_of kind plain h.key) l.seat.player) none;
      waits_are = h.follows.waits_are;
      begun = h.begun;
      short = h.short;
      up = omega arith;
      below = λ k first less. absurd (omega arith);
    }

-- and one step further, which began below `end`
goes_further : {N C : Type 0} (kind : NodeKind C) → IsLawful kind → (plain : N → C) (bound : N → ℕ) (l : Inside N)
    (h : IsLane kind plain bound l) (end silent : ℕ) (y : C) (waits : List Incoming)
    → GoesSilently kind plain l h.key end silent y waits → kind.clock y < end → kind.clock y < h.key.limit
    → IsAhead (hop h.key.cut.value) (lane_state l) (kind.clock y)
    → GoesOn kind plain l h.key end silent (kind.next y (due_at kind plain l h.key y)) (later (kind.clock y) waits)
unfolding script_of
goes_further {C = C} kind law plain bound l h end silent y waits g early in_time ahead =
    let key = h.key in
    let cut : Cut C = key_cut plain key in
    let s : Script = script_of kind plain key in
    let ps : List ℕ = trace kind cut key.limit in
    let i : ℕ = l.seat.player in
    let k : ℕ = l.seat.made.steps + silent in
    let peers : List Peer = l.seat.made.peers in
    let signals : List Incoming = due_at kind plain l key y in
    let players = h.follows.players_is in
    let t = turns kind law cut key.limit i k y (known_of cut s peers) (λ j. (peer_at peers j).base) h.cable h.sound
    (record {
      player = h.follows.player;
      stands = g.console;
      early = in_time;
      knows = λ j lj apart.
          let hears = h.hears j lj apart in
          known_by kind law cut key.limit j (peer_at peers j).base (peer_at peers j).taken hears.at h.cable h.sound
          h.script lj hears.base_is hears.all_taken;
      ahead = λ j lj apart. ahead j (omega arith) apart;
    }) in
    let w = ways kind law cut key.limit i h.cable h.sound h.follows.player in
    let step = w.steps k t.goes in
    let move : Move = move_of kind (moment kind cut ps i k) i in
    let there = number_found kind.clock (moment kind cut ps i (suc k)).consoles i (kind.next y signals).0 t.console in
    let was_is : kind.was (kind.next y signals).0 ≡ kind.clock y = law.moves y signals in
    let rises : kind.clock y < kind.clock (kind.next y signals).0 = law.rises y signals in
    let far : kind.clock (kind.next y signals).0 ≤ kind.clock y + 512 = law.short y signals in
    let up : kind.clock (plain l.node) ≤ kind.clock y = g.up in
    let own : now s i k ≡ kind.clock y = g.clock_is in
    let a = arrives kind law plain bound l h y waits g.begun g.waits_are in
    record {
      move = move;
      stands = step.move_is;
      quiet = g.quiet;
      clock_is =
          sym (clock_next (clock_at kind cut i) (moves_of kind cut ps i) k move step.move_is)
          ∙ sym (w.clock_is (suc k)) ∙ there;
      tells_is = t.tells;
      console = t.console;
      waits_are = a.after ∙ ap (waits_at kind plain l key) (sym was_is);
      begun = omega arith;
      short = omega arith;
      later = omega arith;
      allowed = λ j lj apart.
          let less : j < count cut = lj in
          let b : kind.clock y < (peer_at peers j).base + hop cut j i = ahead j (omega arith) apart in
          subst (λ (n : ℕ). n < (peer_at peers j).base + hop cut j i) (sym own) b;
      below = λ n first less.
          elim (cases_lt n k) [
            | inl before ↦ g.below n first before
            | inr past ↦
                let same : k ≡ n = omega arith in
                subst (λ (z : ℕ). now s i z < end) same (omega arith)
          ];
    }

-- the next step, where the clock is below the limit and below each peer's base and delay, as its callers see it
pub goes_on : {N C : Type 0} (kind : NodeKind C) → IsLawful kind → (plain : N → C) (bound : N → ℕ) (l : Inside N)
    (h : IsLane kind plain bound l) (state : LaneState N) → lane_state l ≡ state
    → ((key : Key N) → state.seat.key ≡ key ∷ [] → kind.clock (plain state.node) < key.limit)
    → ((key : Key N) → state.seat.key ≡ key ∷ [] → IsAhead (hop key.cut.value) state (kind.clock (plain state.node)))
    → GoesOn kind plain l h.key h.key.limit 0 (next_of kind plain l h.key)
    (later (kind.clock (plain l.node)) l.inbox.waits)
goes_on {N = N} kind law plain bound l h state is early ahead =
    let keys : state.seat.key ≡ h.key ∷ [] = ap (λ (z : LaneState N). z.seat.key) (sym is) ∙ h.follows.key_is in
    let in_time : kind.clock (plain l.node) < h.key.limit
    = subst (λ (z : LaneState N). kind.clock (plain z.node) < h.key.limit) (sym is) (early h.key keys) in
    goes_further kind law plain bound l h h.key.limit 0 (plain l.node) l.inbox.waits
    (stays kind law plain bound l h h.key.limit) in_time in_time
    (subst (λ (z : LaneState N). IsAhead (hop h.key.cut.value) z (kind.clock (plain z.node))) (sym is)
    (ahead h.key keys))

-- what an inbox delivers for the step, and what it keeps
pub delivers : {N C : Type 0} (kind : NodeKind C) → IsLawful kind → (plain : N → C) (bound : N → ℕ) (l : Inside N)
    (h : IsLane kind plain bound l) → Arrives kind plain l h.key (plain l.node) l.inbox.waits
delivers kind law plain bound l h =
    arrives kind law plain bound l h (plain l.node) l.inbox.waits h.begun h.follows.waits_are

-- nothing arrives before the next arrival
record NoneArrives (clock : ℕ) (waits : List Incoming) : Type 0 where
  now : arrived clock waits ≡ []
  after : later clock waits ≡ waits

none_arrives : (clock : ℕ) (waits : List Incoming) → clock < next_arrival waits → NoneArrives clock waits
none_arrives clock [] early = record { now = refl; after = refl }
none_arrives clock (one ∷ rest) early =
    let t : nat_le one.arrival clock ≡ false = grind (arith, nat_tests) in
    record {
      now = ap (λ b. if b then one ∷ arrived clock rest else []) t;
      after = ap (λ b. if b then later clock rest else one ∷ rest) t;
    }

-- what steps with nothing due make of a lane: nothing told so far, or what the last one tells
record GoesAlone {N C : Type 0} (kind : NodeKind C) (plain : N → C) (l : Inside N) (key : Key N) (end : ℕ) (z : C)
    (o : Option Signal) : Type 0
  where
    silently : o ≡ None → (silent : ℕ) × GoesSilently kind plain l key end silent z l.inbox.waits
    last : kind.clock (plain l.node) < kind.clock z
        → (silent : ℕ) × GoesOn kind plain l key end silent (z, o) l.inbox.waits

goes_alone : {N C : Type 0} (kind : NodeKind C) → IsLawful kind → (plain : N → C) (bound : N → ℕ) (l : Inside N)
    (h : IsLane kind plain bound l) (end : ℕ) → end ≤ h.key.limit → IsAheadTo (hop h.key.cut.value) (lane_state l) end
    → end ≤ next_arrival l.inbox.waits → (z : C) (o : Option Signal)
    → StepsAlone kind.clock kind.next end (plain l.node) z o → GoesAlone kind plain l h.key end z o
goes_alone {C = C} kind law plain bound l h end low ahead alone z o Stays = record {
  silently = λ quiet. (0, stays kind law plain bound l h end);
  last = λ up. absurd (omega arith);
}
goes_alone {N = N} {C = C} kind law plain bound l h end low ahead alone z o (Steps y before early) =
    let key = h.key in
    let s : Script = script_of kind plain key in
    let i : ℕ = l.seat.player in
    let b = goes_alone kind law plain bound l h end low ahead alone y None before in
    let before_it = b.silently refl in
    let silent : ℕ = before_it.0 in
    let g : GoesSilently kind plain l key end silent y l.inbox.waits = before_it.1 in
    let none = none_arrives (kind.clock y) l.inbox.waits (omega arith) in
    let a = arrives kind law plain bound l h y l.inbox.waits g.begun g.waits_are in
    let nothing : due_at kind plain l key y ≡ [] = sym a.now ∙ none.now in
    let far = goes_further kind law plain bound l h end silent y l.inbox.waits g early (omega arith)
    (λ j lj apart. let t = ahead j lj apart in omega (arith, t, early)) in
    let on : GoesOn kind plain l key end silent (kind.next y []) l.inbox.waits
    = subst (λ (w : List Incoming). GoesOn kind plain l key end silent (kind.next y []) w) none.after
    (subst (λ (d : List Incoming). GoesOn kind plain l key end silent (kind.next y d)
    (later (kind.clock y) l.inbox.waits)) nothing far) in
    let k : ℕ = l.seat.made.steps + silent in
    record {
      silently = λ quiet.
          let unsent : length (option_to_list on.move.tells) ≡ 0
          = ap (λ (t : Option Signal). length (option_to_list t)) (on.tells_is ∙ quiet) in
          let more : sent s i (suc k) ≡ sent s i k + length (option_to_list on.move.tells)
          = sent_next s i k on.move on.stands in
          let one : l.seat.made.steps + suc silent ≡ suc k = omega arith in (
            suc silent,
            record {
              console =
                  ap (λ (n : ℕ). console_after kind (key_cut plain key) (trace kind (key_cut plain key) key.limit) i
                  n) one ∙ on.console;
              clock_is = ap (now s i) one ∙ now_next s i k on.move on.stands ∙ on.clock_is;
              quiet = ap (sent s i) one ∙ more ∙ ap (λ (n : ℕ). sent s i k + n) unsent
                  ∙ (let t : sent s i k + 0 ≡ sent s i k = omega arith in t) ∙ on.quiet;
              waits_are = on.waits_are;
              begun = on.begun;
              short = on.short;
              up = omega (arith, on.later);
              below = subst (BeginsBelow s end i l.seat.made.steps) (sym one) on.below;
            },
          );
      last = λ up. (silent, on);
    }

-- the steps that a lane goes alone, as its callers see it
pub goes_on_alone : {N C : Type 0} (kind : NodeKind C) → IsLawful kind → (plain : N → C) (bound : N → ℕ) (l : Inside N)
    (h : IsLane kind plain bound l) (state : LaneState N) (end : ℕ) → lane_state l ≡ state
    → ((key : Key N) → state.seat.key ≡ key ∷ [] → end ≤ key.limit)
    → ((key : Key N) → state.seat.key ≡ key ∷ [] → IsAheadTo (hop key.cut.value) state end)
    → end ≤ next_arrival state.waits → (z : C) (o : Option Signal)
    → StepsAlone kind.clock kind.next end (plain l.node) z o → kind.clock (plain l.node) < kind.clock z
    → (silent : ℕ) × GoesOn kind plain l h.key end silent (z, o) l.inbox.waits
goes_on_alone {N = N} kind law plain bound l h state end is low ahead alone z o steps up =
    let keys : state.seat.key ≡ h.key ∷ [] = ap (λ (z : LaneState N). z.seat.key) (sym is) ∙ h.follows.key_is in
    (goes_alone kind law plain bound l h end (low h.key keys)
    (subst (λ (z : LaneState N). IsAheadTo (hop h.key.cut.value) z end) (sym is) (ahead h.key keys))
    (subst (λ (z : LaneState N). end ≤ next_arrival z.waits) (sym is) alone) z o steps).last up

if_some : (o : Option Signal) (P : Signal → Type 0) → ((x : Signal) → o ≡ Some x → P x) → IfSome o P
if_some None P h = tt
if_some (Some x) P h = h x refl

whole : (o : Option Signal) → IsSome o → 2 * length (option_to_list o) ≡ 2
whole None some = let t : _ = some in absurd cc
whole (Some x) some = refl

pub own_key : {N C : Type 0} (kind : NodeKind C) (plain : N → C) (bound : N → ℕ) (l : Inside N)
    (h : IsLane kind plain bound l) (key : Key N) → l.seat.key ≡ key ∷ [] → h.key ≡ key
own_key kind plain bound l h key keys =
    let both : h.key ∷ [] ≡ key ∷ [] = sym h.follows.key_is ∙ keys in
    cc

-- the signal is the one that comes next
pub told_next : {N C : Type 0} (kind : NodeKind C) (plain : N → C) (bound : N → ℕ) (l : Inside N)
    (h : IsLane kind plain bound l) (end silent : ℕ) (made : C × Option Signal) (waits : List Incoming)
    → GoesOn kind plain l h.key end silent made waits → (o : Option Signal) → o ≡ made.1
    → IfSome o (λ x. (key : Key N) → l.seat.key ≡ key ∷ []
    → IsNextSignal (script_of kind plain key) l.seat.player l.seat.made.steps x)
told_next {N = N} kind plain bound l h end silent made waits go o is =
    let s : Script = script_of kind plain h.key in
    let i : ℕ = l.seat.player in
    let k : ℕ = l.seat.made.steps + silent in
    if_some o _ (λ x e key keys.
    subst (λ (k : Key N). IsNextSignal (script_of kind plain k) l.seat.player l.seat.made.steps x)
    (own_key kind plain bound l h key keys)
    (ap (slice_get (told s i)) (sym go.quiet)
    ∙ sent_here s i k go.move x go.stands (go.tells_is ∙ sym is ∙ e)))

-- and the clock may be published
pub publish_next : {N C : Type 0} (kind : NodeKind C) (plain : N → C) (bound : N → ℕ) (l : Inside N)
    (h : IsLane kind plain bound l) (end silent : ℕ) (made : C × Option Signal) (waits : List Incoming)
    → GoesOn kind plain l h.key end silent made waits → (o : Option Signal) → o ≡ made.1 → (seat : SeatState (Key N))
    → seat ≡ with_made l.seat (with_written l.seat.made (2 * length (option_to_list o))) → (clock : ℕ)
    → clock ≡ kind.clock made.0 → (key : Key N) → seat.key ≡ key ∷ []
    → MayPublish (script_of kind plain key) seat.player seat.made clock
publish_next {N = N} kind plain bound l h end silent made waits go o is seat seat_is clock clock_is key keys =
    let own : l.seat.key ≡ key ∷ [] = ap (λ (z : SeatState (Key N)). z.key) (sym seat_is) ∙ keys in
    subst (λ (z : SeatState (Key N)). MayPublish (script_of kind plain key) z.player z.made clock) (sym seat_is)
    (subst (λ (k : Key N). MayPublish (script_of kind plain k) l.seat.player
    (with_written l.seat.made (2 * length (option_to_list o))) clock) (own_key kind plain bound l h key own)
    (record {
      silent = silent;
      move = go.move;
      stands = go.stands;
      quiet = go.quiet;
      clock_is = clock_is ∙ sym go.clock_is;
      written = λ some. whole o (subst (λ (z : Option Signal). IsSome z) (go.tells_is ∙ sym is) some);
      unwritten = λ quiet.
          ap (λ (z : Option Signal). 2 * length (option_to_list z)) (is ∙ sym go.tells_is ∙ quiet);
      allowed = go.allowed;
    }))

known_unlooked : {C : Type 0} (cut : Cut C) (s : Script) (peers : List Peer) (j : ℕ)
    → known_of cut s (map unlooked peers) j ≡ known_of cut s peers j
known_unlooked cut s peers j =
    ap (λ (p : Peer). from j cut.sent ++ take p.taken (told s j)) (unlooked_at peers j)

hears_on : (s : Script) (i j clock next : ℕ) (p : Peer) → clock ≤ next → Hears s i j clock p
    → Hears s i j next (unlooked p)
hears_on s i j clock next p up h = record {
  at = h.at;
  base_is = h.base_is;
  all_taken = h.all_taken;
  last = h.last;
  clock_is = h.clock_is;
  count_is = h.count_is;
  based = h.based;
  fetched = h.fetched;
  soon = λ n x e less. let a = h.soon n x e less in omega (arith, a);
}

-- the steps that were published are those that were made
pub published : {N C : Type 0} (kind : NodeKind C) (plain : N → C) (bound : N → ℕ) (l : Inside N)
    (h : IsLane kind plain bound l) (end silent : ℕ) (made : C × Option Signal) (waits : List Incoming)
    (go : GoesOn kind plain l h.key end silent made waits) (o : Option Signal) → o ≡ made.1 → (clock : ℕ)
    → clock ≡ kind.clock made.0 → (told after : SeatState (Key N))
    → told ≡ with_made l.seat (with_written l.seat.made (2 * length (option_to_list o)))
    → after ≡ with_made told after.made
    → Publishes (script_of kind plain h.key) told.player told.made clock after.made
    → after ≡ with_made l.seat (stepped_on l.seat.made silent (length (option_to_list go.move.tells)))
published {N = N} kind plain bound l h end silent made waits go o is clock clock_is told after told_is after_is p =
    let s : Script = script_of kind plain h.key in
    let i : ℕ = l.seat.player in
    let n : ℕ = 2 * length (option_to_list o) in
    let mid : Progress = with_written l.seat.made n in
    let inside : i < s.players = in_script kind plain h.key i h.follows.player in
    let q : Publishes s i mid clock after.made
    = subst (λ (z : SeatState (Key N)). Publishes s z.player z.made clock after.made) told_is p in
    let own : MayPublish s i mid clock = record {
      silent = silent;
      move = go.move;
      stands = go.stands;
      quiet = go.quiet;
      clock_is = clock_is ∙ sym go.clock_is;
      written = λ some. whole o (subst (λ (z : Option Signal). IsSome z) (go.tells_is ∙ sym is) some);
      unwritten = λ quiet.
          ap (λ (z : Option Signal). 2 * length (option_to_list z)) (is ∙ sym go.tells_is ∙ quiet);
      allowed = go.allowed;
    } in
    let same : q.made.silent ≡ silent = same_silent s i mid clock h.script inside q.made own in
    let both : Some q.made.move ≡ Some go.move
    = sym q.made.stands ∙ ap (λ (z : ℕ). slice_get (s.line i).moves (l.seat.made.steps + z)) same ∙ go.stands in
    let moves : q.made.move ≡ go.move = cc in
    let made_is : after.made ≡ stepped_on mid silent (length (option_to_list go.move.tells))
    = q.new_is ∙ ap (λ (z : ℕ). stepped_on mid z (length (option_to_list q.made.move.tells))) same
    ∙ ap (λ (z : Move). stepped_on mid silent (length (option_to_list z.tells))) moves in
    after_is ∙ ap (λ (z : SeatState (Key N)). with_made z after.made) told_is ∙ ap (with_made l.seat) made_is

-- a lane after these steps
pub stepped_lane : {N C : Type 0} (kind : NodeKind C) → IsLawful kind → (plain : N → C) (bound : N → ℕ) (l : Inside N)
    (h : IsLane kind plain bound l) (end silent : ℕ) (made : C × Option Signal) (inbox : InboxState)
    → (go : GoesOn kind plain l h.key end silent made inbox.waits) → (node : N) → plain node ≡ made.0
    → bound node ≡ bound l.node → (after : SeatState (Key N))
    → after ≡ with_made l.seat (stepped_on l.seat.made silent (length (option_to_list go.move.tells)))
    → IsLane kind plain bound (record {
      node = node;
      seat = after;
      inbox = inbox;
      taken = l.taken;
      horizon = l.horizon;
      apart = l.apart;
    })
stepped_lane {N = N} {C = C} kind law plain bound l h end silent made inbox go node node_is limit after seat_is =
    let cut : Cut C = key_cut plain h.key in
    let s : Script = script_of kind plain h.key in
    let i : ℕ = l.seat.player in
    let x : C = plain l.node in
    let peers : List Peer = l.seat.made.peers in
    let was_is : kind.was (plain node) ≡ kind.was made.0 = ap kind.was node_is in
    let clock_is : kind.clock (plain node) ≡ kind.clock made.0 = ap kind.clock node_is in
    let later : kind.clock x < kind.clock made.0 = go.later in
    let begun : kind.was made.0 ≤ kind.clock made.0 = go.begun in
    let short : kind.clock made.0 ≤ kind.was made.0 + 512 = go.short in
    let limits = h.limit in
    let same : known_of cut s peers ≡ known_of cut s (map unlooked peers)
    = λ t j. (sym (known_unlooked cut s peers j)) t in
    subst (λ (z : SeatState (Key N)). IsLane kind plain bound (record {
      node = node;
      seat = z;
      inbox = inbox;
      taken = l.taken;
      horizon = l.horizon;
      apart = l.apart;
    })) (sym seat_is)
    (record {
      key = h.key;
      cable = h.cable;
      sound = h.sound;
      script = h.script;
      limit = omega arith;
      small_limit = h.small_limit;
      follows = record {
        key_is = h.follows.key_is;
        player = h.follows.player;
        players_is = h.follows.players_is;
        stands = go.console ∙ ap Some (sym node_is);
        unwritten = refl;
        waits_are =
            go.waits_are
            ∙ ap (λ (w : ℕ). waiting (hop cut) (known_of cut s peers) i w (count cut)) (sym was_is)
            ∙ ap (λ (k : ℕ → List Signal). waiting (hop cut) k i (kind.was (plain node)) (count cut)) same;
      };
      begun = omega arith;
      short = omega arith;
      all_peers = length-map peers unlooked ∙ h.all_peers;
      hears = λ j lj apart.
          subst (λ (p : Peer). Hears s i j (kind.clock (plain node)) p) (sym (unlooked_at peers j))
          (hears_on s i j (kind.clock x) (kind.clock (plain node)) (peer_at peers j) (omega arith)
          (h.hears j lj apart));
      wide = h.wide;
      taken_is = λ j lj. h.taken_is j lj ∙ ap (λ (p : Peer). p.taken) (sym (unlooked_at peers j));
      horizon_is = λ j lj apart.
          subst (λ (p : Peer). l.horizon ≤ p.base + hop cut j i) (sym (unlooked_at peers j)) (h.horizon_is j lj apart);
    })
