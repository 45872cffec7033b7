-- A round, from its opening to its end.
use Rattle.std.specs.Prelude.{List, [], ◌∷◌, length, map, All, Some, None, slice_get, slice_index}
use Rattle.std.proofs.Common.{ℕ, zero, suc, ◌≡◌, ◌<◌, ◌≤◌, inl, inr, arith, refl, sym, ap, ◌∙◌, subst, get_or}
use Rattle.std.proofs.lemmas.List.{length-map}
use Rattle.std.specs.Vec.{vec_capacity}
use Rattle.atomic_table.specs.Seated.{TableId}
use Rattle.link_order.specs.NodeKind.{NodeKind, IsLawful}
use Rattle.link_order.specs.Cut.{Cut, count, clock_at, hop, live, plain_cut, IsCable}
use Rattle.link_order.specs.GlobalOrder.{least, cycles_left_below, cycles_left, run}
use Rattle.link_order.proofs.Numbers.{same_or_apart, least_is_player}
use Rattle.link_order.proofs.Sound.{least_ahead}
use Rattle.link_order.proofs.LiveRuns.{run_live}
use Rattle.link_laws.proofs.Advance.{number_found}
use Rattle.link_script.specs.Script.{Script, now, IsSoundMove}
use Rattle.link_script.proofs.Lines.{found, clock_next}
use Rattle.link_script.proofs.Scripts.{now_up}
use Rattle.link_rule.specs.declared.view.Progress.{Progress}
use Rattle.link_rule.specs.Rule.{peer_at, opening_progress}
use Rattle.link_table.specs.declared.key.Key.{Key}
use Rattle.link_table.specs.Text.{script_of}
use Rattle.link_table.specs.Seated.{SeatState}
use Rattle.link_table.proofs.Openings.{read_map}
use Rattle.link_lane.specs.Following.{LaneState, key_cut}
use Rattle.link_lane.specs.Pausing.{IsAhead}
use Rattle.link_run.specs.Rounds.{node_of, AreLanes, HaveBegun, Finishes}
use Rattle.link_run.specs.Round.{IsRound, Begins, HasGone, ComesNearer}
use Rattle.link_run.specs.Going.{MayGo, Went, AllWent}
use Rattle.link_run.specs.declared.round.Round.{Round}
use Rattle.link_run.specs.declared.round.Spare.{Spare}
use Rattle.link_run.proofs.Closings.{get_map}

-- each lane by its place
pub record WentAt {N C : Type 0} (kind : NodeKind C) (plain : N → C) (bound : N → ℕ) (until : ℕ)
    (olds : List (LaneState N)) (i : ℕ) (new : LaneState N) : Type 0
  where
    pub old : LaneState N
    pub stands : slice_get olds i ≡ Some old
    pub went : Went kind plain bound until old new

pub went_length : {N C : Type 0} (kind : NodeKind C) (plain : N → C) (bound : N → ℕ) (until : ℕ)
    (olds news : List (LaneState N)) → AllWent kind plain bound until olds news → length news ≡ length olds
went_length kind plain bound until [] [] all = refl
went_length kind plain bound until [] (y ∷ ys) all = absurd all
went_length kind plain bound until (x ∷ xs) [] all = absurd all
went_length kind plain bound until (x ∷ xs) (y ∷ ys) all =
    omega (arith, went_length kind plain bound until xs ys all.1)

pub went_at : {N C : Type 0} (kind : NodeKind C) (plain : N → C) (bound : N → ℕ) (until : ℕ)
    (olds news : List (LaneState N)) → AllWent kind plain bound until olds news → (i : ℕ) (new : LaneState N)
    → slice_get news i ≡ Some new → WentAt kind plain bound until olds i new
went_at kind plain bound until [] [] all i new e = let f : None ≡ Some new = e in cc
went_at kind plain bound until [] (y ∷ ys) all i new e = absurd all
went_at kind plain bound until (x ∷ xs) [] all i new e = absurd all
went_at {N = N} kind plain bound until (x ∷ xs) (y ∷ ys) all zero new e =
    let f : Some y ≡ Some new = e in
    let g : y ≡ new = cc in
    record { old = x; stands = refl; went = subst (λ (z : LaneState N). Went kind plain bound until x z) g all.0 }
went_at kind plain bound until (x ∷ xs) (y ∷ ys) all (suc i) new e =
    let r = went_at kind plain bound until xs ys all.1 i new e in
    record { old = r.old; stands = r.stands; went = r.went }

pub went_limits : {N C : Type 0} (kind : NodeKind C) (plain : N → C) (bound : N → ℕ) (until : ℕ)
    (olds news : List (LaneState N)) → AllWent kind plain bound until olds news
    → map bound (map node_of news) ≡ map bound (map node_of olds)
went_limits kind plain bound until [] [] all = refl
went_limits kind plain bound until [] (y ∷ ys) all = absurd all
went_limits kind plain bound until (x ∷ xs) [] all = absurd all
went_limits kind plain bound until (x ∷ xs) (y ∷ ys) all =
    ap (λ (n : ℕ). n ∷ map bound (map node_of ys)) all.0.limit_is
    ∙ ap (λ (l : List ℕ). bound x.node ∷ l) (went_limits kind plain bound until xs ys all.1)

-- lanes that have gone on are still the lanes of their table
pub still_lanes : {N C : Type 0} (kind : NodeKind C) (plain : N → C) (bound : N → ℕ) (key : Key N) (table : TableId)
    (until : ℕ) (olds news : List (LaneState N)) → AreLanes kind plain key table olds
    → AllWent kind plain bound until olds news → AreLanes kind plain key table news
still_lanes {N = N} kind plain bound key table until olds news are all =
    let counts = went_length kind plain bound until olds news all in
    record {
      cable = are.cable;
      sound = are.sound;
      fit = are.fit;
      script = are.script;
      small_limit = are.small_limit;
      count_is = counts ∙ are.count_is;
      each = λ i new stands.
          let w = went_at kind plain bound until olds news all i new stands in
          let own = are.each i w.old w.stands in
          let seat = w.went.seat_is in
          record {
            table_is = ap (λ (z : SeatState (Key N)). z.table) seat ∙ own.table_is;
            key_is = ap (λ (z : SeatState (Key N)). z.key) seat ∙ own.key_is;
            player_is = ap (λ (z : SeatState (Key N)). z.player) seat ∙ own.player_is;
            players_are = ap (λ (z : SeatState (Key N)). z.players) seat ∙ own.players_are ∙ sym counts;
          };
    }

-- a round is of one cut
pub begun_once : {N C : Type 0} (kind : NodeKind C) (plain : N → C) (bound : N → ℕ) (one other : Cut N)
    (round : Round N) → Begins kind plain bound one round → Begins kind plain bound other round → one ≡ other
begun_once {N = N} kind plain bound one other round a b =
    let are = a.round_is.lanes_are in
    let at = found round.lanes.items 0
    (omega (arith, are.count_is, are.cable.some_console, length-map a.key.cut.value.consoles plain)) in
    let first = are.each 0 at.0 at.1 in
    let second = b.round_is.lanes_are.each 0 at.0 at.1 in
    let both : a.key ∷ [] ≡ b.key ∷ [] = sym first.key_is ∙ second.key_is in
    let same : a.key ≡ b.key = cc in
    sym a.opened.cut_is ∙ ap (λ (k : Key N). k.cut.value) same ∙ b.opened.cut_is

-- the end of a run is at most the key's limit
pub within_limit : {N C : Type 0} (kind : NodeKind C) (plain : N → C) (bound : N → ℕ) (cut : Cut N) (round : Round N)
    (until : ℕ) (b : Begins kind plain bound cut round) → All (λ (n : N). until ≤ bound n) cut.consoles
    → until ≤ b.key.limit
within_limit {N = N} kind plain bound cut round until b all =
    let l = b.opened.limit_is in
    let lengths : length (map bound cut.consoles) ≡ length cut.consoles = length-map cut.consoles bound in
    let within : l.place < length (map bound cut.consoles) = l.within in
    let at = found cut.consoles l.place (omega arith) in
    let own : slice_index (map bound cut.consoles) l.place ≡ bound at.0
    = number_found bound cut.consoles l.place at.0 at.1 in
    let here : until ≤ bound (get_or cut.consoles l.place at.0) = all l.place at.0 (omega arith) in
    let read : slice_index (map bound cut.consoles) l.place ≡ bound (get_or cut.consoles l.place at.0)
    = read_map bound cut.consoles l.place at.0 (omega arith) in
    omega (arith, read, here, l.one_of)

-- a lane of a list, by its number
lane_here : {N : Type 0} (lanes : List (LaneState N)) (i : ℕ) (d : LaneState N) → i < length lanes
    → slice_get lanes i ≡ Some (get_or lanes i d)
lane_here [] i d below = absurd (omega arith)
lane_here (x ∷ xs) zero d below = refl
lane_here (x ∷ xs) (suc i) d below = lane_here xs i d (omega arith)

pub may_all_go : {N C : Type 0} (kind : NodeKind C) (plain : N → C) (bound : N → ℕ) (cut : Cut N) (round : Round N)
    (until : ℕ) → Begins kind plain bound cut round → All (λ (n : N). until ≤ bound n) cut.consoles
    → All (MayGo round.shared until) round.lanes.items
may_all_go {N = N} kind plain bound cut round until b all i d below =
    let lanes : List (LaneState N) = round.lanes.items in
    let own = b.round_is.lanes_are.each i (get_or lanes i d) (lane_here lanes i d below) in
    let far = within_limit kind plain bound cut round until b all in
    record {
      table_is = own.table_is;
      limit = λ key keys.
          let both : b.key ∷ [] ≡ key ∷ [] = sym own.key_is ∙ keys in
          let same : b.key ≡ key = cc in
          subst (λ (k : Key N). until ≤ k.limit) same far;
    }

-- all their steps began below the end
pub have_begun : {N C : Type 0} (kind : NodeKind C) (plain : N → C) (bound : N → ℕ) (cut : Cut N) (round : Round N)
    (until : ℕ) (news : List (LaneState N)) (b : Begins kind plain bound cut round)
    → AllWent kind plain bound until round.lanes.items news → HaveBegun kind plain b.key until news
have_begun {N = N} {C = C} kind plain bound cut round until news b all i new stands k from_none before =
    let w = went_at kind plain bound until round.lanes.items news all i new stands in
    let own = b.round_is.lanes_are.each i w.old w.stands in
    let fresh : w.old.seat.made.steps ≡ 0 = ap (λ (p : Progress). p.steps) (b.opened.fresh i w.old w.stands) in
    subst (λ (p : ℕ). now (script_of kind plain b.key) p k < until) own.player_is
    (w.went.began b.key own.key_is k (omega arith) before)

opening_base : (s : Script) (j : ℕ) → j < 4 → (peer_at (opening_progress s).peers j).base ≡ (s.line j).clock
opening_base s zero below = refl
opening_base s (suc zero) below = refl
opening_base s (suc (suc zero)) below = refl
opening_base s (suc (suc (suc zero))) below = refl
opening_base s (suc (suc (suc (suc j)))) below = absurd (omega arith)

-- fewer cycles are left where no clock falls and one that has some left rises
left_no_more : (c d : ℕ → ℕ) (until n : ℕ) → ((i : ℕ) → i < n → c i ≤ d i)
    → cycles_left_below d until n ≤ cycles_left_below c until n
left_no_more c d until zero up = omega arith
left_no_more c d until (suc n) up =
    omega (arith, up n (omega arith), left_no_more c d until n (λ i below. up i (omega arith)))

left_fewer : (c d : ℕ → ℕ) (until n l : ℕ) → ((i : ℕ) → i < n → c i ≤ d i) → l < n → c l < until → c l < d l
    → cycles_left_below d until n < cycles_left_below c until n
left_fewer c d until zero l up below early rises = absurd (omega arith)
left_fewer c d until (suc n) l up below early rises =
    elim (same_or_apart l n) [
      | inl same ↦
          let a : c l ≡ c n = ap c same in
          let b : d l ≡ d n = ap d same in
          omega (arith, left_no_more c d until n (λ i inside. up i (omega arith)), a, b)
      | inr apart ↦
          omega (
            arith,
            up n (omega arith),
            left_fewer c d until n l (λ i inside. up i (omega arith)) (omega arith) early rises,
          )
    ]

-- what a round makes of its cut
pub rounds : {N C : Type 0} (kind : NodeKind C) → IsLawful kind → (plain : N → C) (bound : N → ℕ) (cut result : Cut N)
    (round : Round N) (until : ℕ) (news : List (LaneState N)) (b : Begins kind plain bound cut round)
    → AllWent kind plain bound until round.lanes.items news → Finishes kind plain b.key until news result
    → ComesNearer kind plain bound until cut result
unfolding script_of
rounds {N = N} {C = C} kind law plain bound cut result round until news b all f =
    let key : Key N = b.key in
    let p : Cut C = plain_cut plain cut in
    let q : Cut C = plain_cut plain result in
    let s : Script = script_of kind plain key in
    let olds : List (LaneState N) = round.lanes.items in
    let cuts : key_cut plain key ≡ p = ap (plain_cut plain) b.opened.cut_is in
    let are = b.round_is.lanes_are in
    let lengths : length news ≡ length olds = went_length kind plain bound until olds news all in
    let total : length olds ≡ count p
    = sym (length-map olds node_of) ∙ ap length b.opened.nodes_are ∙ sym (length-map cut.consoles plain) in
    let new_total : count q ≡ length news
    = length-map result.consoles plain ∙ ap length f.nodes_are ∙ length-map news node_of in
    let old_clock : (i : ℕ) (old : LaneState N) → slice_get olds i ≡ Some old
    → clock_at kind p i ≡ kind.clock (plain old.node)
    = λ i old stands. number_found kind.clock p.consoles i (plain old.node)
    (get_map plain cut.consoles i old.node
    (ap (λ (l : List N). slice_get l i) (sym b.opened.nodes_are) ∙ get_map node_of olds i old stands)) in
    let new_clock : (i : ℕ) (new : LaneState N) → slice_get news i ≡ Some new
    → clock_at kind q i ≡ now s i new.seat.made.steps
    = λ i new stands. number_found kind.clock q.consoles i (plain new.node)
    (get_map plain result.consoles i new.node
    (ap (λ (l : List N). slice_get l i) f.nodes_are ∙ get_map node_of news i new stands))
    ∙ (f.each i new stands).clock_is in
    let line_clock : (i : ℕ) → now s i 0 ≡ clock_at kind p i
    = λ i. ap (λ (d : Cut C). clock_at kind d i) cuts in
    let below_key : (i : ℕ) → i < count p → i < s.players
    = λ i below. subst (λ (d : Cut C). i < count d) (sym cuts) below in
    let up : (i : ℕ) → i < count p → clock_at kind p i ≤ clock_at kind q i
    = λ i below.
    let at = found news i (omega (arith, lengths, total)) in
    omega (
      arith,
      line_clock i,
      new_clock i at.0 at.1,
      now_up s are.script i 0 at.0.seat.made.steps (below_key i below) (omega arith),
    ) in
    let counts : count q ≡ count p = omega (arith, new_total, lengths, total) in
    record {
      same_end =
          ap (λ (d : Cut C). live kind (run kind d until)) f.live_is
          ∙ run_live kind law f.whole until f.goes_on.cable.some_console f.goes_on.cable.some_delay f.goes_on.sound
          ∙ ap (live kind) f.goes_on.same_end ∙ ap (λ (d : Cut C). live kind (run kind d until)) cuts;
      fewer = λ early.
          let cable : IsCable p = subst (λ (d : Cut C). IsCable d) cuts are.cable in
          let l : ℕ = least kind p in
          let below : l < count p = least_is_player (clock_at kind p) (count p) cable.some_console in
          let at = found news l (omega (arith, lengths, total)) in
          let w = went_at kind plain bound until olds news all l at.0 at.1 in
          let own = are.each l w.old w.stands in
          let made : w.old.seat.made ≡ opening_progress s = b.opened.fresh l w.old w.stands in
          let clock_is = old_clock l w.old w.stands in
          let ahead : IsAhead (hop key.cut.value) w.old (kind.clock (plain w.old.node))
          = λ j inside apart.
          let j_below : j < count p = omega (arith, inside, own.players_are, total) in
          let far = least_ahead kind p cable.some_console cable.some_delay j j_below
          (λ e. apart (e ∙ sym own.player_is)) in
          let base : (peer_at w.old.seat.made.peers j).base ≡ clock_at kind p j
          = ap (λ (z : Progress). (peer_at z.peers j).base) made
          ∙ opening_base s j (omega (arith, j_below, cable.at_most_four)) ∙ line_clock j in
          let hops : hop key.cut.value j w.old.seat.player ≡ hop p j l
          = ap (λ (d : Cut C). hop d j w.old.seat.player) cuts ∙ ap (hop p j) own.player_is in
          omega (arith, far, base, hops, clock_is) in
          let moved = w.went.moves key own.key_is (omega (arith, early, clock_is)) ahead in
          let steps : ℕ = at.0.seat.made.steps in
          let some : 0 < steps = omega (arith, moved) in
          let within = (f.each l at.0 at.1).within in
          let move = found (s.line l).moves 0 (omega (arith, within, some)) in
          let sound : IsSoundMove (now s l 0) move.0 = are.script.moves l (below_key l below) 0 move.0 move.1 in
          let next : now s l 1 ≡ move.0.clock = clock_next (s.line l).clock (s.line l).moves 0 move.0 move.1 in
          let later = now_up s are.script l 1 steps (below_key l below) (omega arith) in
          let rises : clock_at kind p l < clock_at kind q l
          = omega (arith, line_clock l, new_clock l at.0 at.1, sound.rises, next, later) in
          subst (λ (n : ℕ). cycles_left_below (clock_at kind q) until n < cycles_left kind p until) (sym counts)
          (left_fewer (clock_at kind p) (clock_at kind q) until (count p) l up below early rises);
      limits =
          ap (map bound) f.nodes_are ∙ went_limits kind plain bound until olds news all
          ∙ ap (map bound) b.opened.nodes_are;
    }

-- a round whose lanes have gone on
pub still_round : {N C : Type 0} (kind : NodeKind C) (plain : N → C) (bound : N → ℕ) (cut : Cut N) (first now : Round N)
    (until : ℕ) (b : Begins kind plain bound cut first) → HasGone kind plain bound until first now
    → IsRound kind plain b.key now
still_round {N = N} kind plain bound cut first now until b gone =
    let lengths = went_length kind plain bound until first.lanes.items now.lanes.items gone.went in
    let r = b.round_is in
    let lanes = still_lanes kind plain bound b.key first.shared until first.lanes.items now.lanes.items r.lanes_are
    gone.went in
    let spare = gone.spare_is in
    record {
      lanes_are =
          subst (λ (t : TableId). AreLanes kind plain b.key t now.lanes.items) (sym gone.shared_is) lanes;
      delays_are = ap (λ (z : Spare N). z.shell.delays) spare ∙ r.delays_are;
      no_nodes = ap (λ (z : Spare N). z.nodes.items) spare ∙ r.no_nodes;
      no_seats = ap (λ (z : Spare N). z.seats.items) spare ∙ r.no_seats;
      no_waits = ap (λ (z : Spare N). z.waits.items) spare ∙ r.no_waits;
      room_of_nodes =
          omega (arith, lengths, r.room_of_nodes, ap (λ (z : Spare N). vec_capacity z.nodes) spare);
      room_of_seats =
          omega (arith, lengths, r.room_of_seats, ap (λ (z : Spare N). vec_capacity z.seats) spare);
      room_of_waits =
          omega (arith, lengths, r.room_of_waits, ap (λ (z : Spare N). vec_capacity z.waits) spare);
    }
