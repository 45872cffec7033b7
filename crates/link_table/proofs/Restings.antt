-- What a joined seat knows, and what is left to fetch.
use Rattle.std.specs.Prelude.{List, [], ◌∷◌, length, map, Some, slice_get, slice_index, slice_set}
use Rattle.std.proofs.Common.{ℕ, zero, suc, ◌≡◌, ◌≢◌, ◌+◌, ◌-◌, ◌%◌, ◌<◌, ◌≤◌, ◌^◌, inl, inr, arith, refl, sym, ap, ◌∙◌, subst}
use Rattle.std.proofs.lemmas.List.{length-map, length-set, get_or-set_same, get_or-set_other}
use Rattle.std.proofs.lemmas.Option.{slice_get_within}
use mathlib.Core.Option.{none}
use Rattle.atomic_table.specs.Seated.{TableId}
use Rattle.atomic_table.specs.Table.{Allows, step}
use Rattle.link_node.specs.declared.signal.Signal.{Signal}
use Rattle.link_node.specs.Packing.{packed_head, signal_in}
use Rattle.link_node.proofs.PackingLemmas.{packs}
use Rattle.link_order.specs.NodeKind.{NodeKind}
use Rattle.link_order.proofs.Numbers.{same_or_apart}
use Rattle.link_script.specs.Script.{Script, now, sent, told, IsSoundScript}
use Rattle.link_script.proofs.Lines.{found}
use Rattle.link_script.proofs.Scripts.{sent_up, sent_small, now_small, sent_there, signal_is}
use Rattle.link_rule.specs.declared.view.Progress.{Progress}
use Rattle.link_rule.specs.Words.{clock_place, ring_place, clock_word, count_of}
use Rattle.link_rule.specs.Rule.{peer_at, KnowsOf, holds}
use Rattle.link_rule.specs.Steps.{Met, Rests, rests}
use Rattle.link_rule.proofs.Decoding.{count_part, whole_count}
use Rattle.link_rule.proofs.Resting.{rest_allowed}
use Rattle.link_table.specs.declared.key.Key.{Key}
use Rattle.link_table.specs.declared.joined.Joined.TheInside.{Inside}
use Rattle.link_table.specs.Text.{script_of}
use Rattle.link_table.specs.Seated.{SeatState}
use Rattle.link_table.specs.Uniting.{made_of, pair_place, AreTaken, IsUnited}
use Rattle.link_table.specs.Joining.{JoinedState, joined_state, with_fetched, IsJoined}
use Rattle.link_table.proofs.Seats.{Mine, Place}

-- a load by a seat of all players is allowed
pub may_rest : {N C : Type 0} (kind : NodeKind C) (plain : N → C) (table_key : Key N) (slots id word : ℕ) (me : Mine N)
    → me.1 ≡ []
    → Allows (holds (script_of kind plain) table_key) slots id me word (λ n. n)
    (rests (script_of kind plain) (step slots word 0 0 none) me)
may_rest {N = N} kind plain table_key slots id word me empty =
    let whole : (me.0, []) ≡ me = λ t. (me.0, sym empty t) in
    subst (λ (m : Mine N). Allows (holds (script_of kind plain) table_key) slots id m word (λ n. n)
    (rests (script_of kind plain) (step slots word 0 0 none) m)) whole
    (rest_allowed (script_of kind plain) table_key slots id word me.0)

-- a player's fetched signals are among those that were sent
taken_within : (s : Script) (i j : ℕ) (r o : Progress) → IsSoundScript s → j < s.players → o.sent ≡ sent s j o.steps
    → KnowsOf s i j r o → (peer_at r.peers j).taken ≤ o.sent
taken_within s i j r o sound below counted k =
    let up = sent_up s sound j k.seen.at o.steps below k.seen.past in
    omega (arith, k.fetched, k.seen.count_is, up)

map_get : {X Y : Type 0} (f : X → Y) (xs : List X) (i : ℕ) (y : Y) → slice_get (map f xs) i ≡ Some y
    → (x : X) × (slice_get xs i ≡ Some x) × (f x ≡ y)
map_get f [] i y e = cc
map_get f (x ∷ xs) zero y e = (x, refl, cc)
map_get f (x ∷ xs) (suc i) y e = map_get f xs i y e

-- the united place and what was kept of the seats make a joined seat
pub is_joined : {N C : Type 0} (kind : NodeKind C) (plain : N → C) (shared table : TableId)
    (seats : List (SeatState (Key N))) (me : Mine N) (s : Inside N) (slots value : ℕ)
    (u : IsUnited kind plain shared seats table me)
    → rests (script_of kind plain) (step slots 0 0 0 none) me value s.place.me
    → length s.fetched ≡ 16 → AreTaken seats s.fetched (length seats) → IsJoined kind plain s
is_joined {N = N} kind plain shared table seats me st slots value u load wide taken =
    let s : Script = script_of kind plain u.key in
    let made : List Progress = map made_of seats in
    let keys = ap (λ (m : Mine N). m.0.key) u.me_is in
    let first = ap (λ (m : Mine N). m.0.first) u.me_is in
    let records : me.0.records ≡ made = ap (λ (m : Mine N). m.0.records) u.me_is in
    let count : length made ≡ length seats = length-map seats made_of in
    let many : length me.0.records ≡ s.players = ap length records ∙ count ∙ u.count_is in
    let met : Met s made = subst (λ (l : List Progress). Met s l) records (load.1 u.key keys first many) in
    record {
      key = u.key;
      made = made;
      me_is = load.0 ∙ u.me_is;
      sound = u.sound;
      met = met;
      fetched = record {
        wide = wide;
        least = λ i j r o ri oj apart.
            let a = map_get made_of seats i r ri in
            let lj = slice_get_within made j o oj in
            let li = slice_get_within made i r ri in
            let four : s.players ≤ 4 = u.sound.at_most_four in
            let all = u.count_is in
            let is : slice_index st.fetched (pair_place i j) ≡ (peer_at a.0.made.peers j).taken
            = taken i j a.0 a.1 (omega arith) (omega arith) in
            let own : (peer_at a.0.made.peers j).taken ≡ (peer_at r.peers j).taken
            = ap (λ (z : Progress). (peer_at z.peers j).taken) a.2 in
            omega arith;
        most = λ i j r o ri oj apart.
            let a = map_get made_of seats i r ri in
            let lj = slice_get_within made j o oj in
            let li = slice_get_within made i r ri in
            let four : s.players ≤ 4 = u.sound.at_most_four in
            let all = u.count_is in
            let is : slice_index st.fetched (pair_place i j) ≡ (peer_at a.0.made.peers j).taken
            = taken i j a.0 a.1 (omega arith) (omega arith) in
            let own : (peer_at a.0.made.peers j).taken ≡ (peer_at r.peers j).taken
            = ap (λ (z : Progress). (peer_at z.peers j).taken) a.2 in
            let within = taken_within s i j r o u.sound (omega arith) (met.placed j o oj).counted
            (met.knows i j r o ri oj apart) in
            omega arith;
      };
    }

-- two players of a joined seat, by its fields
pub record ArePair {N C : Type 0} (kind : NodeKind C) (plain : N → C) (s : Inside N) (key : Key N)
    (made : List Progress) (player peer : ℕ) : Type 0
  where
    pub r : Progress
    pub o : Progress
    pub own : slice_get made player ≡ Some r
    pub its : slice_get made peer ≡ Some o
    pub apart : player ≢ peer
    pub peer_below : peer < (script_of kind plain key).players
    pub player_below : player < (script_of kind plain key).players
    pub got : slice_index s.fetched (pair_place player peer) ≤ o.sent
    pub near : o.sent < slice_index s.fetched (pair_place player peer) + 4096
    pub counted : o.sent ≡ sent (script_of kind plain key) peer o.steps
    pub small : o.sent < 2 ^ 40

pub are_pair : {N C : Type 0} (kind : NodeKind C) (plain : N → C) (s : Inside N) (seen : JoinedState (Key N))
    (player peer : ℕ) → (h : IsJoined kind plain s) → joined_state s ≡ seen → player < length seen.made
    → peer < length seen.made → peer ≢ player → ArePair kind plain s h.key h.made player peer
are_pair {N = N} kind plain st seen player peer h is lp lq apart =
    let s : Script = script_of kind plain h.key in
    let made_is : seen.made ≡ h.made
    = sym (ap (λ (z : JoinedState (Key N)). z.made) is) ∙ ap (λ (m : Mine N). m.0.records) h.me_is in
    let long : length seen.made ≡ length h.made = ap length made_is in
    let r = found h.made player (omega arith) in
    let o = found h.made peer (omega arith) in
    let all : length h.made ≡ s.players = h.met.count_is in
    let a : player ≢ peer = λ e. apart (sym e) in
    let k = h.met.knows player peer r.0 o.0 r.1 o.1 a in
    let counted : o.0.sent ≡ sent s peer o.0.steps = (h.met.placed peer o.0 o.1).counted in
    let least = h.fetched.least player peer r.0 o.0 r.1 o.1 a in
    let there : s.hop player peer ≤ 1024 = h.sound.short_delay player peer (omega arith) (omega arith) a in
    let back : s.hop peer player ≤ 1024 = h.sound.short_delay peer player (omega arith) (omega arith) apart in
    let few : o.0.sent ≤ (peer_at r.0.peers peer).taken + s.hop player peer + s.hop peer player + 511 = k.few in
    let small = sent_small s h.sound peer o.0.steps (omega arith) in
    record {
      r = r.0;
      o = o.0;
      own = r.1;
      its = o.1;
      apart = a;
      peer_below = omega arith;
      player_below = omega arith;
      got = h.fetched.most player peer r.0 o.0 r.1 o.1 a;
      near = omega arith;
      counted = counted;
      small = omega arith;
    }

-- the count that the clock word gives is the peer's
pub rest_count : {N C : Type 0} (kind : NodeKind C) (plain : N → C) (s : Inside N) (player peer slots word value : ℕ)
    (after : Mine N) → (h : IsJoined kind plain s) → (p : ArePair kind plain s h.key h.made player peer)
    → word ≡ clock_place peer → rests (script_of kind plain) (step slots word 0 0 none) s.place.me value after
    → count_of value (slice_index s.fetched (pair_place player peer)) ≡ p.o.sent
rest_count {N = N} kind plain st player peer slots word value after h p word_is load =
    let s : Script = script_of kind plain h.key in
    let taken : ℕ = slice_index st.fetched (pair_place player peer) in
    let keys = ap (λ (m : Mine N). m.0.key) h.me_is in
    let first = ap (λ (m : Mine N). m.0.first) h.me_is in
    let there = ap (λ (m : Mine N). slice_get m.0.records peer) h.me_is ∙ p.its in
    let t : Rests s peer p.o word value = load.2 h.key peer p.o keys first there in
    let clock = now_small s h.sound peer p.o.steps p.peer_below in
    let is : value ≡ clock_word (now s peer p.o.steps) p.o.sent = t.clock word_is in
    ap (λ (v : ℕ). count_of v taken) is
    ∙ ap (λ (n : ℕ). taken + (n + 2 ^ 24 - taken % 2 ^ 24) % 2 ^ 24) (count_part (now s peer p.o.steps) p.o.sent clock)
    ∙ whole_count taken p.o.sent p.got p.near

-- the signal that comes next
pub record IsLeft {N C : Type 0} (kind : NodeKind C) (plain : N → C) (key : Key N) (peer taken head body : ℕ) : Type 0
  where
    pub signal : Signal
    pub stands : slice_get (told (script_of kind plain key) peer) taken ≡ Some signal
    pub signal_is : signal_in head body ≡ Some signal

pub is_left : {N C : Type 0} (kind : NodeKind C) (plain : N → C) (s : Inside N) (player peer slots word head body : ℕ)
    (first second third : Mine N) → (h : IsJoined kind plain s) → (p : ArePair kind plain s h.key h.made player peer)
    → slice_index s.fetched (pair_place player peer) < p.o.sent
    → word ≡ ring_place peer (slice_index s.fetched (pair_place player peer)) → first ≡ s.place.me
    → rests (script_of kind plain) (step slots word 0 0 none) first head second
    → rests (script_of kind plain) (step slots (word + 1) 0 0 none) second body third
    → IsLeft kind plain h.key peer (slice_index s.fetched (pair_place player peer)) head body
is_left {N = N} kind plain st player peer slots word head body first second third h p more word_is same a b =
    let s : Script = script_of kind plain h.key in
    let taken : ℕ = slice_index st.fetched (pair_place player peer) in
    let counted = p.counted in
    let x = sent_there s peer taken p.o.steps (omega arith) in
    let first_is = same ∙ h.me_is in
    let second_is = a.0 ∙ first_is in
    let ra : Rests s peer p.o word head
    = a.2 h.key peer p.o (ap (λ (m : Mine N). m.0.key) first_is) (ap (λ (m : Mine N). m.0.first) first_is)
    (ap (λ (m : Mine N). slice_get m.0.records peer) first_is ∙ p.its) in
    let rb : Rests s peer p.o (word + 1) body
    = b.2 h.key peer p.o (ap (λ (m : Mine N). m.0.key) second_is) (ap (λ (m : Mine N). m.0.first) second_is)
    (ap (λ (m : Mine N). slice_get m.0.records peer) second_is ∙ p.its) in
    let known = signal_is s h.sound peer taken x.0 p.peer_below x.1 in
    record {
      signal = x.0;
      stands = x.1;
      signal_is = ap (λ (n : ℕ). signal_in n body) (ra.head taken x.0 x.1 more p.near word_is)
          ∙ ap (signal_in (packed_head x.0)) (rb.body taken x.0 x.1 more p.near (ap (λ (n : ℕ). n + 1) word_is))
          ∙ packs x.0 known.small known.fits;
    }

-- the fields after one signal more was fetched
abbrev pub rested_fields : {N : Type 0} → Inside N → Place N → ℕ → Inside N
rested_fields s place pair =
    record { place = place; fetched = slice_set s.fetched pair (slice_index s.fetched pair + 1) }

pub rested_joined : {N C : Type 0} (kind : NodeKind C) (plain : N → C) (s : Inside N) (place : Place N)
    (player peer : ℕ) → (h : IsJoined kind plain s) → (p : ArePair kind plain s h.key h.made player peer)
    → place.me ≡ s.place.me → slice_index s.fetched (pair_place player peer) < p.o.sent
    → IsJoined kind plain (rested_fields s place (pair_place player peer))
rested_joined {N = N} kind plain st place player peer h p same more =
    let s : Script = script_of kind plain h.key in
    let pair : ℕ = pair_place player peer in
    let value : ℕ = slice_index st.fetched pair + 1 in
    let wide : length st.fetched ≡ 16 = h.fetched.wide in
    let four : s.players ≤ 4 = h.sound.at_most_four in
    let all : length h.made ≡ s.players = h.met.count_is in
    let lp = p.player_below in
    let lq = p.peer_below in
    let here : slice_index (slice_set st.fetched pair value) pair ≡ value
    = get_or-set_same st.fetched pair value 0 (omega arith) in
    record {
      key = h.key;
      made = h.made;
      me_is = same ∙ h.me_is;
      sound = h.sound;
      met = h.met;
      fetched = record {
        wide = length-set st.fetched pair value ∙ wide;
        least = λ i j r o ri oj apart.
            let old = h.fetched.least i j r o ri oj apart in
            elim (same_or_apart (pair_place i j) pair) [
              | inl e ↦
                  let at : slice_index (slice_set st.fetched pair value) (pair_place i j) ≡ value
                  = ap (slice_index (slice_set st.fetched pair value)) e ∙ here in
                  let was : slice_index st.fetched (pair_place i j) ≡ slice_index st.fetched pair
                  = ap (slice_index st.fetched) e in
                  omega arith
              | inr n ↦
                  let at : slice_index (slice_set st.fetched pair value) (pair_place i j)
                  ≡ slice_index st.fetched (pair_place i j)
                  = get_or-set_other st.fetched pair (pair_place i j) value 0 n in
                  omega arith
            ];
        most = λ i j r o ri oj apart.
            let old = h.fetched.most i j r o ri oj apart in
            let lj = slice_get_within h.made j o oj in
            let li = slice_get_within h.made i r ri in
            elim (same_or_apart (pair_place i j) pair) [
              | inl e ↦
                  let at : slice_index (slice_set st.fetched pair value) (pair_place i j) ≡ value
                  = ap (slice_index (slice_set st.fetched pair value)) e ∙ here in
                  let peers : j ≡ peer = omega arith in
                  let both : Some o ≡ Some p.o = sym oj ∙ ap (slice_get h.made) peers ∙ p.its in
                  let its : p.o.sent ≡ o.sent = let t : p.o ≡ o = cc in ap (λ (z : Progress). z.sent) t in
                  omega arith
              | inr n ↦
                  let at : slice_index (slice_set st.fetched pair value) (pair_place i j)
                  ≡ slice_index st.fetched (pair_place i j)
                  = get_or-set_other st.fetched pair (pair_place i j) value 0 n in
                  omega arith
            ];
      };
    }

-- what contracts see, after loads that leave the view
pub same_joined : {N : Type 0} (s : Inside N) (place : Place N) (fetched : List ℕ) (seen : JoinedState (Key N))
    → joined_state s ≡ seen → place.table_id ≡ s.place.table_id → place.me ≡ s.place.me
    → joined_state (record { place = place; fetched = fetched }) ≡ with_fetched seen fetched
same_joined {N = N} s place fetched seen is tables same =
    (λ t. record {
      table = tables t;
      key = (same t).0.key;
      made = (same t).0.records;
      fetched = fetched;
    })
    ∙ ap (λ (z : JoinedState (Key N)). with_fetched z fetched) is

-- what a joined seat knows, as contracts say it
pub met_of : {N C : Type 0} (kind : NodeKind C) (plain : N → C) (s : Inside N) → IsJoined kind plain s → (key : Key N)
    → s.place.me.0.key ≡ key ∷ [] → Met (script_of kind plain key) s.place.me.0.records
met_of {N = N} kind plain s h key keys =
    let both : h.key ∷ [] ≡ key ∷ [] = sym (ap (λ (m : Mine N). m.0.key) h.me_is) ∙ keys in
    let same : h.key ≡ key = cc in
    subst (λ (k : Key N). Met (script_of kind plain k) s.place.me.0.records) same
    (subst (λ (l : List Progress). Met (script_of kind plain h.key) l)
    (sym (ap (λ (m : Mine N). m.0.records) h.me_is)) h.met)

-- the player that is asked for, as contracts have it
pub own_pair : {N C : Type 0} (kind : NodeKind C) (plain : N → C) (s : Inside N) (seen : JoinedState (Key N))
    (player peer : ℕ) (h : IsJoined kind plain s) → joined_state s ≡ seen
    → (p : ArePair kind plain s h.key h.made player peer) → (o : Progress) → slice_get seen.made peer ≡ Some o
    → p.o.sent ≡ o.sent
own_pair {N = N} kind plain s seen player peer h is p o there =
    let made_is : seen.made ≡ h.made
    = sym (ap (λ (z : JoinedState (Key N)). z.made) is) ∙ ap (λ (m : Mine N). m.0.records) h.me_is in
    let both : Some p.o ≡ Some o = sym p.its ∙ ap (λ (l : List Progress). slice_get l peer) (sym made_is) ∙ there in
    let same : p.o ≡ o = cc in
    ap (λ (z : Progress). z.sent) same

pub own_key : {N C : Type 0} (kind : NodeKind C) (plain : N → C) (s : Inside N) (seen : JoinedState (Key N))
    (h : IsJoined kind plain s) → joined_state s ≡ seen → (key : Key N) → seen.key ≡ key ∷ [] → h.key ≡ key
own_key {N = N} kind plain s seen h is key keys =
    let both : h.key ∷ [] ≡ key ∷ []
    = sym (ap (λ (m : Mine N). m.0.key) h.me_is) ∙ ap (λ (z : JoinedState (Key N)). z.key) is ∙ keys in
    cc

pub own_fetched : {N : Type 0} (s : Inside N) (seen : JoinedState (Key N)) → joined_state s ≡ seen
    → s.fetched ≡ seen.fetched
own_fetched {N = N} s seen is = ap (λ (z : JoinedState (Key N)). z.fetched) is
