-- A session from segment to segment.
use Rattle.std.proofs.Common.{◌≡◌, ◌<◌, ◌≤◌, ◌∙◌, ℕ, Bool, not, nat_le, nat_lt, List, [], ◌∷◌, length, get_or, map, sym, ap, subst, arith}
use Rattle.std.specs.List.{All}
use Rattle.std.proofs.lemmas.List.{get_or-map, length-map, same_lists}
use Rattle.gba_console.specs.Alone.{console_kind}
use Rattle.gba_console.specs.Machine.{Machine, clock_of, without_limit}
use Rattle.gba_console.specs.Segments.{LiveSegments, forgotten_cut, joined}
use Rattle.gba_session.proofs.Joining.{joined-forgotten}
use Rattle.gba_session.proofs.SameRun.{run-many}
use Rattle.gba_joblog.specs.declared.outputs.PerKind.{PerKind}
use Rattle.gba_snapshot.proofs.Forgetting.{state-unlimited}
use Rattle.gba_session.specs.Held.{CanRun, HasPieces, HasRoom, HaveTaken, IsSegmented, asks_in, session_value}
use Rattle.gba_session.specs.Session.{Consoles, is_over, later_end, segment_cut}
use Rattle.gba_session.specs.Start.{run_until}
use Rattle.gba_session.specs.declared.player.Player.{Player}
use Rattle.link_order.specs.Cut.{Cut, plain_cut}

pub later-end-after : (until clock : ℕ) → clock < until → clock < later_end until clock
later-end-after until clock early = omega (arith, early)

pub later-end-within : (until clock : ℕ) → later_end until clock ≤ until
later-end-within until clock = omega arith

-- whether a segment is the last one
pub last-told : (end until : ℕ) → nat_le until end ≡ not (nat_lt end until)
last-told end until = grind arith

-- the whole run so far is the run before the last segment, and that segment behind it
module _ (law : LiveSegments) (s : Consoles) (can : CanRun s.start) (begun : s.from ≤ s.to) where
  pub whole-joined : run_until s.to s.start ≡ joined (run_until s.from s.start) (segment_cut s)
  whole-joined = law s.start s.from s.to can.some_console can.delays can.sound begun

  -- from the last segment's end a run goes on as from the whole run's
  pub goes-on : (end : ℕ)
      → run_until end (forgotten_cut (segment_cut s)) ≡ run_until end (forgotten_cut (run_until s.to s.start))
  goes-on end =
      ap (λ (c : Cut Machine). run_until end c)
      (sym (ap forgotten_cut whole-joined ∙ joined-forgotten (run_until s.from s.start) (segment_cut s)))

-- there are as many consoles in each part of a run
pub until-many : (until : ℕ) (cut : Cut Machine) → length (run_until until cut).consoles ≡ length cut.consoles
until-many until cut = run-many console_kind cut until

pub segment-many : (s : Consoles) → length (segment_cut s).consoles ≡ length s.start.consoles
segment-many s =
    until-many s.to (forgotten_cut (run_until s.from s.start))
    ∙ length-map (run_until s.from s.start).consoles _
    ∙ until-many s.from s.start

-- the end of a console's room is no part of what it gives
plain-pieces : (over : Bool) (p : Player) (m : Machine) → HasPieces over p m → HasPieces over p (without_limit m)
plain-pieces over p m has = record {
  words = has.words;
  state = λ done asked. has.state done asked ∙ sym (state-unlimited m);
  save = has.save;
}

-- a console of some
one-of : (ms : List Machine) → 0 < length ms → Machine
one-of [] some = absurd (omega (arith, some))
one-of (m ∷ ms) some = m

one-player : (players : List Player) → 0 < length players → Player
one-player [] some = absurd (omega (arith, some))
one-player (p ∷ players) some = p

abbrev asked : Cut Machine → ℕ → ℕ → ℕ → List (PerKind Bool) → Consoles
asked start from to until asks = record { start = start; from = from; to = to; until = until; asks = asks }

-- what holds after a segment
module _ (law : LiveSegments) (start : Cut Machine) (from to until : ℕ) (players new : List Player)
    (cut later : Cut Machine)
    (end : ℕ) (over : Bool) (held : IsSegmented (session_value start from to until players) cut players)
    (early : to < until) (is : end ≡ later_end until to)
    (ran : plain_cut without_limit later ≡ run_until end (forgotten_cut (plain_cut without_limit cut)))
    (done : All (λ (m : Machine). end ≤ clock_of m) later.consoles) where
  now : Consoles
  now = session_value start from to until players

  cut-many : length cut.consoles ≡ length start.consoles
  unfolding now
  cut-many =
      sym (length-map cut.consoles without_limit) ∙ ap (λ (c : Cut Machine). length c.consoles) held.is
      ∙ segment-many now

  ran-many : length later.consoles ≡ length start.consoles
  unfolding now
  ran-many =
      sym (length-map later.consoles without_limit) ∙ ap (λ (c : Cut Machine). length c.consoles) ran
      ∙ until-many end (forgotten_cut (plain_cut without_limit cut)) ∙ length-map (map without_limit cut.consoles) _
      ∙ length-map cut.consoles without_limit ∙ cut-many

  pub players-many : length players ≡ length later.consoles
  players-many = omega (arith, held.many, cut-many, ran-many)

  module _ (told : over ≡ not (nat_lt end until)) (taken : HaveTaken over players later.consoles new) where
    then_ : Consoles
    then_ = session_value start to end until new

    is-now : plain_cut without_limit later ≡ segment_cut then_
    unfolding now then_
    is-now =
        ran ∙ ap (λ (c : Cut Machine). run_until end (forgotten_cut c)) held.is
        ∙ goes-on law now held.start held.begun end

    at : (k : ℕ) (m : Machine) → k < length later.consoles
        → get_or (segment_cut then_).consoles k m ≡ without_limit (get_or later.consoles k m)
    at k m within =
        ap (λ (c : Cut Machine). get_or c.consoles k m) (sym is-now)
        ∙ get_or-map without_limit later.consoles k m m within

    new-pieces : (k : ℕ) (p : Player) (m : Machine) → k < length new
        → HasPieces (is_over then_) (get_or new k p) (get_or (segment_cut then_).consoles k m)
    unfolding then_
    new-pieces k p m within =
        let was : k < length players = omega (arith, within, taken.many) in
        let there : k < length later.consoles = omega (arith, was, players-many) in
        let has = plain-pieces over (get_or new k p) (get_or later.consoles k m) (taken.each k p m p was).pieces in
        subst (λ (b : Bool). HasPieces b (get_or new k p) (get_or (segment_cut then_).consoles k m)) told
        (subst (HasPieces over (get_or new k p)) (sym (at k m there)) has)

    new-rooms : All HasRoom new
    new-rooms k p within =
        let was : k < length players = omega (arith, within, taken.many) in
        let m = one-of later.consoles (omega (arith, was, players-many)) in
        (taken.each k p m p was).room (held.rooms k p was)

    pub advances : IsSegmented (session_value start to end until new) later new
    unfolding then_
    advances = record {
      is = is-now;
      late = done;
      begun = omega (arith, is, early, later-end-after until to early);
      within = omega (arith, is, later-end-within until to);
      most = held.most;
      start = held.start;
      many = omega (arith, taken.many, players-many);
      rooms = new-rooms;
      pieces = new-pieces;
    }

    same-asks : map asks_in new ≡ map asks_in players
    same-asks =
        same_lists (map asks_in new) (map asks_in players)
        (length-map new asks_in ∙ taken.many ∙ sym (length-map players asks_in)) (λ k d within.
        let there : k < length new = omega (arith, within, length-map new asks_in) in
        let was : k < length players = omega (arith, there, taken.many) in
        let m = one-of later.consoles (omega (arith, was, players-many)) in
        let p = one-player new (omega (arith, there)) in
        get_or-map asks_in new k p d there ∙ (taken.each k p m p was).asks ∙ sym (get_or-map asks_in players k p d was))

    pub advances-to : session_value start to end until new
        ≡ record (session_value start from to until players) { from = to; to = later_end until to }
    advances-to =
        ap (λ (asks : List (PerKind Bool)). asked start to end until asks) same-asks
        ∙ ap (λ (clock : ℕ). asked start to clock until (map asks_in players)) is
