-- A lane before its first step, and after it has heard of a peer.
use Rattle.std.specs.Prelude.{List, [], ◌∷◌, ◌++◌, length, take, Some, All, slice_get, slice_set, slice_index, option_map}
use Rattle.std.proofs.Common.{ℕ, zero, suc, ◌≡◌, ◌≢◌, ◌+◌, ◌*◌, ◌<◌, ◌≤◌, inl, inr, arith, refl, sym, ap, ◌∙◌, subst}
use Rattle.std.proofs.Common.{append_assoc, ◌⊎◌, ◌^◌}
use Rattle.std.proofs.lemmas.List.{append-nil, length-map, length-set, get_or-set_same, get_or-set_other}
use Rattle.std.proofs.lemmas.List.Elements.{All-append}
use Rattle.std.proofs.lemmas.Option.{slice_get-map, slice_get_within}
use Rattle.link_node.specs.declared.signal.Incoming.{Incoming}
use Rattle.link_node.specs.declared.signal.Signal.{Signal}
use Rattle.link_order.specs.declared.sent.Sent.{Sent}
use Rattle.link_order.specs.NodeKind.{NodeKind, IsLawful}
use Rattle.link_order.specs.Order.{from}
use Rattle.link_order.specs.Due.{incoming, place_due, waiting}
use Rattle.link_order.specs.Cut.{Cut, hop, count, clock_at, was_at, IsSoundSignal}
use Rattle.link_order.specs.GlobalOrder.{trace}
use Rattle.link_order.specs.Interleaving.{moment}
use Rattle.link_order.proofs.Numbers.{same_or_apart}
use Rattle.link_order.proofs.Lists.{all_map}
use Rattle.link_order.proofs.DueSignals.{more, more_same, more_other}
use Rattle.link_order.proofs.DueOrder.{from_all}
use Rattle.link_laws.proofs.Advance.{number_found}
use Rattle.link_laws.proofs.History.{trace_leads, moment_none}
use Rattle.link_trace.specs.Law.{Rise}
use Rattle.link_trace.proofs.Ways.{ways}
use Rattle.link_script.specs.Script.{Script, now, sent, told}
use Rattle.link_script.proofs.Lines.{take_next}
use Rattle.link_script.proofs.Scripts.{now_up, sent_small}
use Rattle.link_rule.specs.declared.view.Peer.{Peer}
use Rattle.link_rule.specs.declared.view.Progress.{Progress}
use Rattle.link_rule.specs.Rule.{peer_at, opening_progress}
use Rattle.link_rule.specs.Steps.{with_peer, looked, fetched, Looks}
use Rattle.link_rule.proofs.Opening.{opening_peers}
use Rattle.link_rule.proofs.Looking.{peer_here, peer_there, base_cases}
use Rattle.link_table.specs.declared.key.Key.{Key}
use Rattle.link_table.specs.Text.{script_of}
use Rattle.link_table.specs.Seated.{SeatState, with_made}
use Rattle.link_inbox.specs.Waiting.{InboxState}
use Rattle.crossbeam_utils.specs.declared.cache_padded.CachePadded.{CachePadded}
use Rattle.link_lane.specs.declared.lane.Lane.TheInside.{Inside}
use Rattle.link_lane.specs.Following.{LaneState, key_cut, known_of, Opens}
use Rattle.link_lane.specs.Hearing.{Hears, IsLane, lane_state}
use Rattle.link_lane.specs.Pausing.{peer_of}
use Rattle.link_lane.proofs.Known.{all_before, known_rises}
use Rattle.link_lane.proofs.Waitings.{few_waiting, waits_one_more, waits_no_more}

-- the node's clock is the one after as many steps as the seat has counted
pub own_clock : {N C : Type 0} (kind : NodeKind C) → IsLawful kind → (plain : N → C) (bound : N → ℕ) (l : Inside N)
    (h : IsLane kind plain bound l)
    → now (script_of kind plain h.key) l.seat.player l.seat.made.steps ≡ kind.clock (plain l.node)
unfolding script_of
own_clock {C = C} kind law plain bound l h =
    let cut : Cut C = key_cut plain h.key in
    let w = ways kind law cut h.key.limit l.seat.player h.cable h.sound h.follows.player in
    sym (w.clock_is l.seat.made.steps)
    ∙ number_found kind.clock
    (moment kind cut (trace kind cut h.key.limit) l.seat.player l.seat.made.steps).consoles l.seat.player (plain l.node)
    h.follows.stands

-- the signals of a cut that a player may still take bear clocks that it has passed, or almost
cut_soon : {C : Type 0} (kind : NodeKind C) (cut : Cut C) (i j clock : ℕ) → i < count cut → j ≢ i
    → clock_at kind cut i ≤ clock → All (IsSoundSignal kind cut) cut.sent
    → All (λ (x : Signal). x.clock < clock + hop cut i j) (from j cut.sent)
cut_soon kind cut i j clock below apart up signals =
    let P : Signal → Type 0 = λ (x : Signal). x.clock < clock + hop cut i j in
    from_all P j cut.sent
    (all_map (IsSoundSignal kind cut) (λ (one : Sent). one.sender ≡ j → P one.signal) cut.sent
    (λ one g e.
    let away : i ≢ one.sender = λ t. apart (sym (t ∙ e)) in
    let a : one.signal.clock < clock_at kind cut i + hop cut i one.sender = g.allowed i below away in
    let b : one.signal.clock < clock_at kind cut i + hop cut i j
    = subst (λ (z : ℕ). one.signal.clock < clock_at kind cut i + hop cut i z) e a in
    omega arith) signals)

-- few signals wait
pub few_wait : {N C : Type 0} (kind : NodeKind C) → IsLawful kind → (plain : N → C) (bound : N → ℕ) (l : Inside N)
    → IsLane kind plain bound l → length l.inbox.waits ≤ 10236
unfolding script_of
few_wait {C = C} kind law plain bound l h =
    let key = h.key in
    let cut : Cut C = key_cut plain key in
    let s : Script = script_of kind plain key in
    let i : ℕ = l.seat.player in
    let peers : List Peer = l.seat.made.peers in
    let clock : ℕ = kind.clock (plain l.node) in
    let known : ℕ → List Signal = known_of cut s peers in
    let below : i < count cut = h.follows.player in
    let first : now s i 0 ≡ clock_at kind cut i = refl in
    let up : now s i 0 ≤ now s i l.seat.made.steps = now_up s h.script i 0 l.seat.made.steps below (omega arith) in
    let own : now s i l.seat.made.steps ≡ clock = own_clock kind law plain bound l h in
    let rising : Rise known = known_rises kind law cut key.limit (λ j. (peer_at peers j).taken) h.cable h.sound in
    let few : length (waiting (hop cut) known i (kind.was (plain l.node)) (count cut)) ≤ 2559 * count cut
    = few_waiting (hop cut) known i (kind.was (plain l.node)) clock (count cut) h.short rising
    (λ j lj apart.
    let hears = h.hears j lj apart in
    let fetched_ones : (peer_at peers j).taken ≤ (peer_at peers j).count = hears.fetched in
    All-append (λ (x : Signal). x.clock < clock + hop cut i j) (from j cut.sent)
    (take (peer_at peers j).taken (told s j))
    (cut_soon kind cut i j clock below apart (omega arith) h.sound.signals)
    (all_before (λ (x : Signal). x.clock < clock + hop cut i j) (told s j) (peer_at peers j).taken
    (λ n x e less. hears.soon n x e (omega arith))))
    (λ j lj apart. (
      h.cable.some_delay j i lj below apart,
      (let a = h.cable.short_delay j i lj below apart in
          let b = h.cable.short_delay i j below lj (λ t. apart (sym t)) in
          omega (arith, a, b)),
    ))
    h.begun in
    let same : length l.inbox.waits ≡ length (waiting (hop cut) known i (kind.was (plain l.node)) (count cut))
    = ap length h.follows.waits_are in
    let four : count cut ≤ 4 = h.cable.at_most_four in
    omega arith

-- a lane of which something else was heard of one peer
heard_lane : {N C : Type 0} (kind : NodeKind C) (plain : N → C) (bound : N → ℕ) (l : Inside N)
    (h : IsLane kind plain bound l) (peer : ℕ) (q : Peer) (inbox : InboxState) (taken : List ℕ)
    → peer < l.seat.players → peer ≢ l.seat.player
    → Hears (script_of kind plain h.key) l.seat.player peer (kind.clock (plain l.node)) q
    → (peer_at l.seat.made.peers peer).base ≤ q.base
    → inbox.waits ≡ waiting (hop (key_cut plain h.key))
    (known_of (key_cut plain h.key) (script_of kind plain h.key) (slice_set l.seat.made.peers peer q)) l.seat.player
    (kind.was (plain l.node)) (count (key_cut plain h.key))
    → length taken ≡ 4 → slice_index taken peer ≡ q.taken
    → ((j : ℕ) → j ≢ peer → slice_index taken j ≡ slice_index l.taken j)
    → IsLane kind plain bound (record {
      node = l.node;
      seat = with_made l.seat (with_peer l.seat.made peer q);
      inbox = inbox;
      taken = taken;
      horizon = l.horizon;
      apart = l.apart;
    })
heard_lane {C = C} kind plain bound l h peer q inbox taken below apart hears up waits wide own others =
    let cut : Cut C = key_cut plain h.key in
    let s : Script = script_of kind plain h.key in
    let made : Progress = l.seat.made in
    let all : length made.peers ≡ 4 = h.all_peers in
    let players = h.follows.players_is in
    let four : count cut ≤ 4 = h.cable.at_most_four in
    let here : peer_at (with_peer made peer q).peers peer ≡ q = peer_here made peer q (omega arith) in
    record {
      key = h.key;
      cable = h.cable;
      sound = h.sound;
      script = h.script;
      limit = h.limit;
      small_limit = h.small_limit;
      follows = record {
        key_is = h.follows.key_is;
        player = h.follows.player;
        players_is = h.follows.players_is;
        stands = h.follows.stands;
        unwritten = h.follows.unwritten;
        waits_are = waits;
      };
      begun = h.begun;
      short = h.short;
      all_peers = length-set made.peers peer q ∙ all;
      hears = λ j lj away.
          elim (same_or_apart j peer) [
            | inl e ↦
                subst (λ (z : ℕ). Hears s l.seat.player z (kind.clock (plain l.node))
                (peer_at (with_peer made peer q).peers z)) (sym e)
                (subst (λ (p : Peer). Hears s l.seat.player peer (kind.clock (plain l.node)) p) (sym here) hears)
            | inr n ↦
                subst (λ (p : Peer). Hears s l.seat.player j (kind.clock (plain l.node)) p)
                (sym (peer_there made peer j q n)) (h.hears j lj away)
          ];
      wide = wide;
      taken_is = λ j lj.
          elim (same_or_apart j peer) [
            | inl e ↦
                subst (λ (z : ℕ). slice_index taken z ≡ (peer_at (with_peer made peer q).peers z).taken) (sym e)
                (own ∙ ap (λ (p : Peer). p.taken) (sym here))
            | inr n ↦
                others j n ∙ h.taken_is j lj ∙ ap (λ (p : Peer). p.taken) (sym (peer_there made peer j q n))
          ];
      horizon_is = λ j lj away.
          let old = h.horizon_is j lj away in
          elim (same_or_apart j peer) [
            | inl e ↦
                let same : peer_at (with_peer made peer q).peers j ≡ q
                = ap (λ (z : ℕ). peer_at (with_peer made peer q).peers z) e ∙ here in
                let then_base : (peer_at made.peers j).base ≤ q.base
                = subst (λ (z : ℕ). (peer_at made.peers z).base ≤ q.base) (sym e) up in
                subst (λ (p : Peer). l.horizon ≤ p.base + hop cut j l.seat.player) (sym same) (omega (arith, old))
            | inr n ↦
                subst (λ (p : Peer). l.horizon ≤ p.base + hop cut j l.seat.player)
                (sym (peer_there made peer j q n)) old
          ];
    }

known_apart : {C : Type 0} (cut : Cut C) (s : Script) (made : Progress) (peer j : ℕ) (q : Peer) → j ≢ peer
    → known_of cut s (slice_set made.peers peer q) j ≡ known_of cut s made.peers j
known_apart cut s made peer j q n =
    ap (λ (p : Peer). from j cut.sent ++ take p.taken (told s j)) (peer_there made peer j q n)

known_here : {C : Type 0} (cut : Cut C) (s : Script) (made : Progress) (peer : ℕ) (q : Peer) → peer < length made.peers
    → known_of cut s (slice_set made.peers peer q) peer ≡ from peer cut.sent ++ take q.taken (told s peer)
known_here cut s made peer q below =
    ap (λ (p : Peer). from peer cut.sent ++ take p.taken (told s peer)) (peer_here made peer q below)

-- a look changes nothing of what is known
known_looked : {C : Type 0} (cut : Cut C) (s : Script) (made : Progress) (peer : ℕ) (q : Peer)
    → peer < length made.peers → q.taken ≡ (peer_at made.peers peer).taken → (j : ℕ)
    → known_of cut s (slice_set made.peers peer q) j ≡ known_of cut s made.peers j
known_looked cut s made peer q below same j =
    elim (same_or_apart j peer) [
      | inl e ↦
          subst (λ (z : ℕ). known_of cut s (slice_set made.peers peer q) z ≡ known_of cut s made.peers z) (sym e)
          (known_here cut s made peer q below
          ∙ ap (λ (n : ℕ). from peer cut.sent ++ take n (told s peer)) same)
      | inr n ↦ known_apart cut s made peer j q n
    ]

-- and a fetch adds one signal
known_fetched : {C : Type 0} (cut : Cut C) (s : Script) (made : Progress) (peer : ℕ) (q : Peer) (x : Signal)
    → peer < length made.peers → q.taken ≡ suc (peer_at made.peers peer).taken
    → slice_get (told s peer) (peer_at made.peers peer).taken ≡ Some x → (j : ℕ)
    → known_of cut s (slice_set made.peers peer q) j ≡ more (known_of cut s made.peers) peer x j
known_fetched cut s made peer q x below next stands j =
    let n : ℕ = (peer_at made.peers peer).taken in
    let known : ℕ → List Signal = known_of cut s made.peers in
    elim (same_or_apart j peer) [
      | inl e ↦
          subst (λ (z : ℕ). known_of cut s (slice_set made.peers peer q) z ≡ more known peer x z) (sym e)
          (known_here cut s made peer q below
          ∙ ap (λ (k : ℕ). from peer cut.sent ++ take k (told s peer)) next
          ∙ ap (λ (l : List Signal). from peer cut.sent ++ l) (take_next (told s peer) n x stands)
          ∙ sym (append_assoc (from peer cut.sent) (take n (told s peer)) (x ∷ []))
          ∙ sym (more_same known peer x))
      | inr n ↦ known_apart cut s made peer j q n ∙ sym (more_other known peer x j n)
    ]

-- a lane after a look at a peer
pub looked_lane : {N C : Type 0} (kind : NodeKind C) → IsLawful kind → (plain : N → C) (bound : N → ℕ) (l : Inside N)
    (h : IsLane kind plain bound l) (peer clock counted : ℕ) (seat : SeatState (Key N))
    → peer < l.seat.players → peer ≢ l.seat.player → seat ≡ with_made l.seat seat.made
    → Looks (script_of kind plain h.key) l.seat.player peer l.seat.made clock counted seat.made
    → IsLane kind plain bound (record {
      node = l.node;
      seat = seat;
      inbox = l.inbox;
      taken = l.taken;
      horizon = l.horizon;
      apart = l.apart;
    })
looked_lane {N = N} {C = C} kind law plain bound l h peer clock counted seat below apart is looks =
    let cut : Cut C = key_cut plain h.key in
    let s : Script = script_of kind plain h.key in
    let i : ℕ = l.seat.player in
    let made : Progress = l.seat.made in
    let p : Peer = peer_at made.peers peer in
    let q : Peer = looked p clock counted in
    let players = h.follows.players_is in
    let four : count cut ≤ 4 = h.cable.at_most_four in
    let all : length made.peers ≡ 4 = h.all_peers in
    let inside : peer < length made.peers = omega arith in
    let hears = h.hears peer (omega arith) apart in
    let seat_is : seat ≡ with_made l.seat (with_peer made peer q) = is ∙ ap (with_made l.seat) looks.new_is in
    let later : p.base ≤ clock = looks.later in
    let got : p.taken ≤ counted = looks.got in
    let own : now s i made.steps ≡ kind.clock (plain l.node) = own_clock kind law plain bound l h in
    let soon : (n : ℕ) (x : Signal) → slice_get (told s peer) n ≡ Some x → n < counted
    → x.clock < kind.clock (plain l.node) + s.hop i peer
    = λ n x e less. subst (λ (z : ℕ). x.clock < z + s.hop i peer) own (looks.soon n x e less) in
    let heard : Hears s i peer (kind.clock (plain l.node)) q
    = elim (base_cases p.taken counted clock p.base) [
      | inl t ↦ record {
        at = looks.at;
        base_is = t.1 ∙ looks.clock_is;
        all_taken = let c = looks.count_is in omega (arith, t.0, c);
        last = looks.at;
        clock_is = looks.clock_is;
        count_is = looks.count_is;
        based = omega (arith, t.1);
        fetched = got;
        soon = soon;
      }
      | inr t ↦ record {
        at = hears.at;
        base_is = t ∙ hears.base_is;
        all_taken = hears.all_taken;
        last = looks.at;
        clock_is = looks.clock_is;
        count_is = looks.count_is;
        based = omega (arith, t);
        fetched = got;
        soon = soon;
      }
    ] in
    let up : p.base ≤ q.base
    = elim (base_cases p.taken counted clock p.base) [ inl t ↦ omega (arith, t.1) | inr t ↦ omega (arith, t) ] in
    let known : known_of cut s made.peers ≡ known_of cut s (slice_set made.peers peer q)
    = λ t j. (sym (known_looked cut s made peer q inside refl j)) t in
    subst (λ (z : SeatState (Key N)). IsLane kind plain bound (record {
      node = l.node;
      seat = z;
      inbox = l.inbox;
      taken = l.taken;
      horizon = l.horizon;
      apart = l.apart;
    })) (sym seat_is)
    (heard_lane kind plain bound l h peer q l.inbox l.taken below apart heard up
    (h.follows.waits_are
    ∙ ap (λ (k : ℕ → List Signal). waiting (hop cut) k i (kind.was (plain l.node)) (count cut)) known)
    h.wide (h.taken_is peer (omega arith)) (λ j n. refl))

-- the next signal of a peer
pub record IsFetched {N C : Type 0} (kind : NodeKind C) (plain : N → C) (l : Inside N) (key : Key N) (peer : ℕ)
    (x : Signal) : Type 0
  where
    pub below : peer < l.seat.players
    pub apart : peer ≢ l.seat.player
    pub left : (peer_at l.seat.made.peers peer).taken < (peer_at l.seat.made.peers peer).count
    pub stands : slice_get (told (script_of kind plain key) peer) (peer_at l.seat.made.peers peer).taken ≡ Some x

pub is_next : {N C : Type 0} (kind : NodeKind C) (plain : N → C) (bound : N → ℕ) (l : Inside N)
    (h : IsLane kind plain bound l) (peer : ℕ) (x : Signal) (now : LaneState N) → lane_state l ≡ now
    → peer < now.seat.players → peer ≢ now.seat.player → (peer_of now peer).taken < (peer_of now peer).count
    → slice_get (told (script_of kind plain h.key) peer) (slice_index l.taken peer) ≡ Some x
    → IsFetched kind plain l h.key peer x
is_next {N = N} {C = C} kind plain bound l h peer x now is below apart left stands =
    let inside : peer < l.seat.players = subst (λ (z : LaneState N). peer < z.seat.players) (sym is) below in
    let players = h.follows.players_is in
    let four : count (key_cut plain h.key) ≤ 4 = h.cable.at_most_four in
    record {
      below = inside;
      apart = subst (λ (z : LaneState N). peer ≢ z.seat.player) (sym is) apart;
      left = subst (λ (z : LaneState N). (peer_of z peer).taken < (peer_of z peer).count) (sym is) left;
      stands = ap (λ (n : ℕ). slice_get (told (script_of kind plain h.key) peer) n)
          (sym (h.taken_is peer (omega arith))) ∙ stands;
    }

-- the delay, as the seat tells it
pub delay_of : {N C : Type 0} (kind : NodeKind C) (plain : N → C) (bound : N → ℕ) (l : Inside N)
    (h : IsLane kind plain bound l) (peer delay : ℕ) (made : Progress) (seat : SeatState (Key N))
    → seat ≡ with_made l.seat made
    → ((key : Key N) → seat.key ≡ key ∷ [] → delay ≡ hop key.cut.value peer seat.player)
    → delay ≡ hop h.key.cut.value peer l.seat.player
delay_of {N = N} kind plain bound l h peer delay made seat is said =
    said h.key (ap (λ (z : SeatState (Key N)). z.key) is ∙ h.follows.key_is)
    ∙ ap (λ (z : SeatState (Key N)). hop h.key.cut.value peer z.player) is

fetched_heard : (s : Script) (i j clock : ℕ) (p : Peer) → p.taken < p.count → Hears s i j clock p
    → Hears s i j clock (fetched p)
fetched_heard s i j clock p left h =
    elim (base_cases (p.taken + 1) p.count p.clock p.base) [
      | inl t ↦ record {
        at = h.last;
        base_is = t.1 ∙ h.clock_is;
        all_taken = let c = h.count_is in omega (arith, t.0, c);
        last = h.last;
        clock_is = h.clock_is;
        count_is = h.count_is;
        based = omega (arith, t.1);
        fetched = omega arith;
        soon = h.soon;
      }
      | inr t ↦ record {
        at = h.at;
        base_is = t ∙ h.base_is;
        all_taken = let a = h.all_taken in omega (arith, a);
        last = h.last;
        clock_is = h.clock_is;
        count_is = h.count_is;
        based = let b = h.based in omega (arith, t, b);
        fetched = omega arith;
        soon = h.soon;
      }
    ]

fetched_up : (p : Peer) → p.base ≤ p.clock → p.base ≤ (fetched p).base
fetched_up p based =
    elim (base_cases (p.taken + 1) p.count p.clock p.base) [ inl t ↦ omega (arith, t.1) | inr t ↦ omega (arith, t) ]

set_there : (xs : List ℕ) (i j v : ℕ) → j ≢ i → slice_index (slice_set xs i v) j ≡ slice_index xs j
set_there xs i j v apart = get_or-set_other xs i j v 0 apart

-- a lane after a fetch, whose signal is put among those that wait where it can still be taken
pub fetched_lane : {N C : Type 0} (kind : NodeKind C) (plain : N → C) (bound : N → ℕ) (l : Inside N)
    (h : IsLane kind plain bound l) (peer arrival next : ℕ) (x : Signal) (seat : SeatState (Key N)) (inbox : InboxState)
    → IsFetched kind plain l h.key peer x
    → seat ≡ with_made l.seat (with_peer l.seat.made peer (fetched (peer_at l.seat.made.peers peer)))
    → arrival ≡ x.clock + hop h.key.cut.value peer l.seat.player → next ≡ slice_index l.taken peer + 1
    → ((kind.was (plain l.node) < arrival)
    × (inbox.waits ≡ place_due (record { sender = peer; arrival = arrival; signal = x }) l.inbox.waits))
    ⊎ ((arrival ≤ kind.was (plain l.node)) × (inbox.waits ≡ l.inbox.waits))
    → IsLane kind plain bound (record {
      node = l.node;
      seat = seat;
      inbox = inbox;
      taken = slice_set l.taken peer next;
      horizon = l.horizon;
      apart = l.apart;
    })
fetched_lane {N = N} {C = C} kind plain bound l h peer arrival next x seat inbox f seat_is arrival_is next_is cases =
    let cut : Cut C = key_cut plain h.key in
    let s : Script = script_of kind plain h.key in
    let i : ℕ = l.seat.player in
    let n : ℕ = count cut in
    let was : ℕ = kind.was (plain l.node) in
    let made : Progress = l.seat.made in
    let p : Peer = peer_at made.peers peer in
    let q : Peer = fetched p in
    let known : ℕ → List Signal = known_of cut s made.peers in
    let players = h.follows.players_is in
    let four : n ≤ 4 = h.cable.at_most_four in
    let all : length made.peers ≡ 4 = h.all_peers in
    let below : peer < l.seat.players = f.below in
    let less : peer < n = omega arith in
    let hears = h.hears peer less f.apart in
    let own : slice_index l.taken peer ≡ p.taken = h.taken_is peer (omega arith) in
    let wide : length l.taken ≡ 4 = h.wide in
    let one : p.taken + 1 ≡ suc p.taken = omega arith in
    let grows : more known peer x ≡ known_of cut s (slice_set made.peers peer q)
    = λ t j. (sym (known_fetched cut s made peer q x (omega arith) one f.stands j)) t in
    let waits : inbox.waits ≡ waiting (hop cut) (known_of cut s (slice_set made.peers peer q)) i was n
    = elim cases [
      | inl t ↦
          t.1
          ∙ ap (λ (a : ℕ). place_due (record { sender = peer; arrival = a; signal = x }) l.inbox.waits) arrival_is
          ∙ ap (place_due (incoming (hop cut peer i) peer x)) h.follows.waits_are
          ∙ sym (waits_one_more (hop cut) known i was n peer x less f.apart
          (subst (λ (a : ℕ). was < a) arrival_is t.0))
          ∙ ap (λ (k : ℕ → List Signal). waiting (hop cut) k i was n) grows
      | inr t ↦
          t.1 ∙ h.follows.waits_are
          ∙ sym (waits_no_more (hop cut) known i was n peer x (subst (λ (a : ℕ). a ≤ was) arrival_is t.0))
          ∙ ap (λ (k : ℕ → List Signal). waiting (hop cut) k i was n) grows
    ] in
    subst (λ (z : SeatState (Key N)). IsLane kind plain bound (record {
      node = l.node;
      seat = z;
      inbox = inbox;
      taken = slice_set l.taken peer next;
      horizon = l.horizon;
      apart = l.apart;
    })) (sym seat_is)
    (heard_lane kind plain bound l h peer q inbox (slice_set l.taken peer next) below f.apart
    (fetched_heard s i peer (kind.clock (plain l.node)) p f.left hears) (fetched_up p hears.based) waits
    (length-set l.taken peer next ∙ wide)
    (get_or-set_same l.taken peer next 0 (omega arith) ∙ next_is ∙ ap (λ (k : ℕ). k + 1) own)
    (λ j apart. set_there l.taken peer j next apart))

-- a player of the cut is one of its script
pub in_script : {N C : Type 0} (kind : NodeKind C) (plain : N → C) (key : Key N) (j : ℕ) → j < count (key_cut plain key)
    → j < (script_of kind plain key).players
unfolding script_of
in_script kind plain key j below = below

-- how many signals were fetched is a small number
pub few_taken : {N C : Type 0} (kind : NodeKind C) (plain : N → C) (bound : N → ℕ) (l : Inside N)
    (h : IsLane kind plain bound l) (peer : ℕ) → peer < l.seat.players → peer ≢ l.seat.player
    → slice_index l.taken peer < 2 ^ 40
few_taken {C = C} kind plain bound l h peer below apart =
    let cut : Cut C = key_cut plain h.key in
    let s : Script = script_of kind plain h.key in
    let players = h.follows.players_is in
    let four : count cut ≤ 4 = h.cable.at_most_four in
    let less : peer < count cut = omega arith in
    let hears = h.hears peer less apart in
    let count_is : (peer_at l.seat.made.peers peer).count ≡ sent s peer hears.last = hears.count_is in
    let fetched_ones : (peer_at l.seat.made.peers peer).taken ≤ (peer_at l.seat.made.peers peer).count =
    hears.fetched in
    let small : sent s peer hears.last < 2 ^ 40 =
    sent_small s h.script peer hears.last (in_script kind plain h.key peer less) in
    let own : slice_index l.taken peer ≡ (peer_at l.seat.made.peers peer).taken = h.taken_is peer (omega arith) in
    omega arith

opening_taken : (s : Script) (j : ℕ) → (peer_at (opening_progress s).peers j).taken ≡ 0
opening_taken s zero = refl
opening_taken s (suc zero) = refl
opening_taken s (suc (suc zero)) = refl
opening_taken s (suc (suc (suc zero))) = refl
opening_taken s (suc (suc (suc (suc n)))) = refl

nothing_taken : (j : ℕ) → slice_index (0 ∷ 0 ∷ 0 ∷ 0 ∷ []) j ≡ 0
nothing_taken zero = refl
nothing_taken (suc zero) = refl
nothing_taken (suc (suc zero)) = refl
nothing_taken (suc (suc (suc zero))) = refl
nothing_taken (suc (suc (suc (suc n)))) = refl

-- a lane before its first step
pub opened : {N C : Type 0} (kind : NodeKind C) → IsLawful kind → (plain : N → C) (bound : N → ℕ) (node : N)
    (seat : SeatState (Key N)) (opening : List Incoming) → Opens kind plain bound node seat opening
    → (inbox : InboxState) → inbox.waits ≡ opening → (apart : CachePadded (Unit {0}))
    → IsLane kind plain bound (record {
      node = node;
      seat = seat;
      inbox = inbox;
      taken = 0 ∷ 0 ∷ 0 ∷ 0 ∷ [];
      horizon = 0;
      apart = apart;
    })
unfolding script_of
opened {N = N} {C = C} kind law plain bound node seat opening o inbox inbox_is apart =
    let key : Key N = o.key in
    let cut : Cut C = key_cut plain key in
    let s : Script = script_of kind plain key in
    let i : ℕ = seat.player in
    let ps : List ℕ = trace kind cut key.limit in
    let nodes : List N = key.cut.value.consoles in
    let first : Progress = opening_progress s in
    let leads = trace_leads kind law cut key.limit o.cable.some_console o.cable.some_delay o.sound in
    let none = (moment_none kind law key.limit ps cut i leads o.sound).console in
    let there : slice_get cut.consoles i ≡ Some (plain node)
    = slice_get-map plain nodes i ∙ ap (option_map plain) o.node_is in
    let below : i < count cut = slice_get_within cut.consoles i (plain node) there in
    let clock_is : clock_at kind cut i ≡ kind.clock (plain node)
    = number_found kind.clock cut.consoles i (plain node) there in
    let was_is : was_at kind cut i ≡ kind.was (plain node)
    = number_found kind.was cut.consoles i (plain node) there in
    let same : (λ (j : ℕ). from j cut.sent) ≡ known_of cut s first.peers
    = λ t j. (sym (ap (λ (n : ℕ). from j cut.sent ++ take n (told s j)) (opening_taken s j)
    ∙ append-nil (from j cut.sent))) t in
    subst (λ (z : SeatState (Key N)). IsLane kind plain bound (record {
      node = node;
      seat = z;
      inbox = inbox;
      taken = 0 ∷ 0 ∷ 0 ∷ 0 ∷ [];
      horizon = 0;
      apart = apart;
    })) (sym o.seat_is)
    (record {
      key = key;
      cable = o.cable;
      sound = o.sound;
      script = o.script;
      limit = o.limit;
      small_limit = o.small_limit;
      follows = record {
        key_is = refl;
        player = below;
        players_is = sym (length-map nodes plain);
        stands = none ∙ there;
        unwritten = refl;
        waits_are =
            inbox_is ∙ o.opening_is
            ∙ ap (λ (k : ℕ → List Signal). waiting (hop cut) k i (kind.was (plain node)) (count cut)) same;
      };
      begun = let a = o.sound.begun i below in omega arith;
      short = let a = o.sound.short i below in omega arith;
      all_peers = refl;
      hears = λ j lj apart.
          let four : count cut ≤ 4 = o.cable.at_most_four in
          subst (λ (p : Peer). Hears s i j (kind.clock (plain node)) p) (sym (opening_peers s j (omega arith)))
          (record {
            at = 0;
            base_is = refl;
            all_taken = omega arith;
            last = 0;
            clock_is = refl;
            count_is = refl;
            based = omega arith;
            fetched = omega arith;
            soon = λ n x e less. absurd (omega arith);
          });
      wide = refl;
      taken_is = λ j lj. nothing_taken j ∙ sym (opening_taken s j);
      horizon_is = λ j lj apart. omega arith;
    })
