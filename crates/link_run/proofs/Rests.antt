-- What is left of the players' signals.
use Rattle.std.specs.Prelude.{List, [], ◌∷◌, length, map, Some, slice_get, slice_set, slice_index}
use Rattle.std.proofs.Common.{ℕ, zero, suc, ◌≡◌, ◌≢◌, ◌+◌, ◌/◌, ◌%◌, ◌<◌, ◌≤◌, ◌⊎◌, inl, inr, arith, refl, sym, ap, ◌∙◌, subst}
use Rattle.std.proofs.Common.{get_or}
use Rattle.std.proofs.lemmas.Bool.{cases_lt}
use Rattle.std.proofs.lemmas.List.{get_or-set_same, get_or-set_other}
use Rattle.std.proofs.Math.ListN.{length-set}
use Rattle.link_node.specs.declared.signal.Incoming.{Incoming}
use Rattle.link_node.specs.declared.signal.Signal.{Signal}
use Rattle.link_node.specs.declared.signal.LinkMode.TheVariants.{Normal8}
use Rattle.std.specs.Prelude.{None}
use Rattle.link_order.specs.declared.sent.Sent.{Sent}
use Rattle.link_order.specs.NodeKind.{NodeKind}
use Rattle.link_node.specs.declared.delays.Delays.{Delays}
use Rattle.link_laws.proofs.Advance.{number_found}
use Rattle.link_script.specs.Script.{Script, told}
use Rattle.link_script.proofs.Lines.{found}
use Rattle.link_rule.specs.declared.view.Progress.{Progress}
use Rattle.link_table.specs.declared.key.Key.{Key}
use Rattle.link_table.specs.Uniting.{pair_place}
use Rattle.link_table.specs.Joining.{JoinedState, with_fetched, Rested}
use Rattle.link_run.specs.Adding.{as_sent, IsWaiting, WaitsIn, IsRest, RestOf, PairRest, PairsRest, sent_at}
use Rattle.link_run.proofs.Addings.{WaitsBefore, WaitsInFirst}

-- what a list of signals reads as past its end
abbrev pub no_incoming : Incoming
no_incoming = record {
  sender = 0;
  arrival = 0;
  signal = record { clock = 0; mode = Normal8; start = None; reply = None };
}

get_same : {X : Type 0} (xs : List X) (k : ℕ) (a b : X) → k < length xs → get_or xs k a ≡ get_or xs k b
get_same [] k a b below = absurd (omega arith)
get_same (x ∷ xs) zero a b below = refl
get_same (x ∷ xs) (suc k) a b below = get_same xs k a b (omega arith)

pub waits_one : (waits : List Incoming) (n : ℕ) (one : Sent) → n < length waits → WaitsBefore waits (n + 1) one
    → WaitsBefore waits n one ⊎ (one ≡ as_sent (get_or waits n no_incoming))
waits_one waits n one below h =
    elim (cases_lt h.place n) [
      | inl less ↦ inl (record { place = h.place; other = h.other; below = less; is = h.is })
      | inr past ↦
          let e : h.place ≡ n = omega (arith, h.below) in
          inr (h.is ∙ ap (λ (k : ℕ). as_sent (get_or waits k h.other)) e
          ∙ ap as_sent (get_same waits n h.other no_incoming below))
    ]

read_lists : {X Y : Type 0} (f : X → Y) (xs : List X) (k : ℕ) (d : X) → k < length xs
    → slice_get (map f xs) k ≡ Some (f (get_or xs k d))
read_lists f [] k d below = absurd (omega arith)
read_lists f (x ∷ xs) zero d below = refl
read_lists f (x ∷ xs) (suc k) d below = read_lists f xs k d (omega arith)

get_below : {X : Type 0} (xs : List X) (k : ℕ) (x : X) → slice_get xs k ≡ Some x → k < length xs
get_below [] k x e = let f : None ≡ Some x = e in cc
get_below (y ∷ ys) zero x e = omega arith
get_below (y ∷ ys) (suc k) x e = omega (arith, get_below ys k x e)

-- the lists of signals as they stand in a list of theirs
pub list_waits : {L : Type 0} (items : L → List Incoming) (lists : List L) (k : ℕ) (list : L) (waits : List Incoming)
    → k < length lists → list ≡ get_or lists k list → waits ≡ items list
    → slice_get (map items lists) k ≡ Some waits
list_waits items lists k list waits below is own =
    read_lists items lists k list below ∙ ap (λ (l : _). Some (items l)) (sym is) ∙ ap Some (sym own)

pub lists_one : (all : List (List Incoming)) (n : ℕ) (waits : List Incoming) (one : Sent) → slice_get all n ≡ Some waits
    → WaitsInFirst all (n + 1) one → WaitsInFirst all n one ⊎ IsWaiting waits one
lists_one all n waits one stands h =
    elim (cases_lt h.place n) [
      | inl less ↦
          inl (record { place = h.place; waits = h.waits; below = less; stands = h.stands; waiting = h.waiting })
      | inr past ↦
          let e : h.place ≡ n = omega (arith, h.below) in
          let same : Some h.waits ≡ Some waits = sym h.stands ∙ ap (slice_get all) e ∙ stands in
          let own : h.waits ≡ waits = cc in
          inr (subst (λ (l : List Incoming). IsWaiting l one) own h.waiting)
    ]

pub lists_all : (all : List (List Incoming)) (n : ℕ) (one : Sent) → length all ≤ n → WaitsIn all one
    → WaitsInFirst all n one
lists_all all n one past h = record {
  place = h.place;
  waits = h.waits;
  below = omega (arith, get_below all h.place h.waits h.stands);
  stands = h.stands;
  waiting = h.waiting;
}

-- one more signal that a player had not fetched of another
pub record RestStep {K : Type 0} (s : Script) (first old new : JoinedState K) (i j : ℕ) (signal : Signal) : Type 0 where
  pub same : new ≡ with_fetched first new.fetched
  pub wide : length new.fetched ≡ 16
  pub others : (pair : ℕ) → pair ≢ pair_place i j → slice_index new.fetched pair ≡ slice_index old.fetched pair
  pub own : slice_index new.fetched (pair_place i j) ≡ slice_index old.fetched (pair_place i j) + 1
  pub before : slice_index old.fetched (pair_place i j) < sent_at first.made j
  pub stands : slice_get (told s j) (slice_index old.fetched (pair_place i j)) ≡ Some signal

pub rest_step : {K : Type 0} (s : Script) (first old new : JoinedState K) (i j : ℕ) (signal : Signal)
    → old ≡ with_fetched first old.fetched → length old.fetched ≡ 16 → j < length first.made → pair_place i j < 16
    → Rested s old new i j (Some signal) → RestStep s first old new i j signal
rest_step {K = K} s first old new i j signal same wide below small rested =
    let made : old.made ≡ first.made = ap (λ (z : JoinedState K). z.made) same in
    let at = found first.made j below in
    let o : Progress = at.0 in
    let r = rested o (ap (λ (l : List Progress). slice_get l j) made ∙ at.1) in
    let place : ℕ = pair_place i j in
    let fetched : new.fetched ≡ slice_set old.fetched place (slice_index old.fetched place + 1)
    = ap (λ (z : JoinedState K). z.fetched) r.2 in
    let sent : sent_at first.made j ≡ o.sent = number_found (λ (z : Progress). z.sent) first.made j o at.1 in
    record {
      same = r.2 ∙ ap (λ (z : JoinedState K). with_fetched z (slice_set old.fetched place
          (slice_index old.fetched place + 1))) same ∙ ap (with_fetched first) (sym fetched);
      wide = ap length fetched ∙ length-set old.fetched place (slice_index old.fetched place + 1) ∙ wide;
      others = λ pair apart. ap (λ (l : List ℕ). slice_index l pair) fetched
          ∙ get_or-set_other old.fetched place pair (slice_index old.fetched place + 1) 0 apart;
      own = ap (λ (l : List ℕ). slice_index l place) fetched
          ∙ get_or-set_same old.fetched place (slice_index old.fetched place + 1) 0 (omega (arith, wide));
      before = omega (arith, r.0, sent);
      stands = r.1;
    }

-- a player has fetched all that another sent
pub rest_done : {K : Type 0} (s : Script) (first old new : JoinedState K) (i j : ℕ)
    → old ≡ with_fetched first old.fetched → j < length first.made → Rested s old new i j None
    → (slice_index old.fetched (pair_place i j) ≡ sent_at first.made j) × (new.fetched ≡ old.fetched)
rest_done {K = K} s first old new i j same below rested =
    let made : old.made ≡ first.made = ap (λ (z : JoinedState K). z.made) same in
    let at = found first.made j below in
    let o : Progress = at.0 in
    let r = rested o (ap (λ (l : List Progress). slice_get l j) made ∙ at.1) in (
      r.0 ∙ sym (number_found (λ (z : Progress). z.sent) first.made j o at.1),
      ap (λ (z : JoinedState K). z.fetched) r.1,
    )

-- of signals up to a number, the last one
pub rest_one : (s : Script) (j delay first last was : ℕ) (signal : Signal) (one : Sent)
    → slice_get (told s j) last ≡ Some signal → (next : ℕ) → next ≡ last + 1
    → IsRest s j delay first next was one
    → IsRest s j delay first last was one ⊎ (one ≡ record { sender = j; signal = signal })
rest_one s j delay first last was signal one stands next is h =
    elim (cases_lt h.number last) [
      | inl less ↦ inl (record {
        number = h.number;
        signal = h.signal;
        from_first = h.from_first;
        before = less;
        stands = h.stands;
        late = h.late;
        is = h.is;
      })
      | inr past ↦
          let e : h.number ≡ last = omega (arith, h.before) in
          let same : Some h.signal ≡ Some signal = sym h.stands ∙ ap (slice_get (told s j)) e ∙ stands in
          let own : h.signal ≡ signal = cc in
          inr (h.is ∙ ap (λ (x : Signal). let z : Sent = record { sender = j; signal = x } in z) own)
    ]

-- and where that one comes too early, it isn't among them
pub rest_dead : (s : Script) (j delay first last was : ℕ) (signal : Signal) (one : Sent)
    → slice_get (told s j) last ≡ Some signal → (next : ℕ) → next ≡ last + 1 → signal.clock + delay ≤ was
    → IsRest s j delay first next was one → IsRest s j delay first last was one
rest_dead s j delay first last was signal one stands next is dead h =
    elim (cases_lt h.number last) [
      | inl less ↦ record {
        number = h.number;
        signal = h.signal;
        from_first = h.from_first;
        before = less;
        stands = h.stands;
        late = h.late;
        is = h.is;
      }
      | inr past ↦
          let e : h.number ≡ last = omega (arith, h.before) in
          let same : Some h.signal ≡ Some signal = sym h.stands ∙ ap (slice_get (told s j)) e ∙ stands in
          let own : h.signal ≡ signal = cc in
          let clocks : h.signal.clock ≡ signal.clock = ap (λ (x : Signal). x.clock) own in
          absurd (omega (arith, h.late, clocks))
    ]

-- the rest of a pair that nobody has touched
pub rest_moved : {N C : Type 0} (kind : NodeKind C) (plain : N → C) (key : Key N) (now first : JoinedState (Key N))
    (i j : ℕ) (delays : Delays) (was : ℕ) (one : Sent) → now.made ≡ first.made
    → slice_index now.fetched (pair_place i j) ≡ slice_index first.fetched (pair_place i j)
    → RestOf kind plain key now i j delays was one → RestOf kind plain key first i j delays was one
rest_moved {N = N} kind plain key now first i j delays was one same own h =
    let sent : sent_at now.made j ≡ sent_at first.made j
    = ap (λ (m : List Progress). sent_at m j) same in
    record {
      number = h.number;
      signal = h.signal;
      from_first = omega (arith, h.from_first, own);
      before = omega (arith, h.before, sent);
      stands = h.stands;
      late = h.late;
      is = h.is;
    }

pub pair_moved : {N C : Type 0} (kind : NodeKind C) (plain : N → C) (key : Key N) (now first : JoinedState (Key N))
    (nodes : List N) (delays : Delays) (pair : ℕ) (one : Sent) → now.made ≡ first.made
    → slice_index now.fetched pair ≡ slice_index first.fetched pair
    → PairRest kind plain key now nodes delays pair one → PairRest kind plain key first nodes delays pair one
pair_moved {N = N} kind plain key now first nodes delays pair one same own h = record {
  own = h.own;
  peer = h.peer;
  pair_is = h.pair_is;
  own_below = h.own_below;
  peer_below = h.peer_below;
  apart = h.apart;
  rest =
      rest_moved kind plain key now first h.own h.peer delays _ one same
      (subst (λ (k : ℕ). slice_index now.fetched k ≡ slice_index first.fetched k) h.pair_is own) h.rest;
}

pub pairs_one : {N C : Type 0} (kind : NodeKind C) (plain : N → C) (key : Key N) (joined : JoinedState (Key N))
    (nodes : List N) (delays : Delays) (n : ℕ) (one : Sent) → PairsRest kind plain key joined nodes delays (n + 1) one
    → PairsRest kind plain key joined nodes delays n one ⊎ PairRest kind plain key joined nodes delays n one
pairs_one kind plain key joined nodes delays n one h =
    elim (cases_lt h.pair n) [
      | inl less ↦ inl (record { pair = h.pair; below = less; rest = h.rest })
      | inr past ↦
          let e : h.pair ≡ n = omega (arith, h.below) in
          inr (subst (λ (k : ℕ). PairRest kind plain key joined nodes delays k one) e h.rest)
    ]

-- the two players of a pair
pub record PairIs {N C : Type 0} (kind : NodeKind C) (plain : N → C) (key : Key N) (joined : JoinedState (Key N))
    (nodes : List N) (delays : Delays) (i j : ℕ) (one : Sent) : Type 0
  where
    pub own_below : i < length nodes
    pub peer_below : j < length nodes
    pub apart : j ≢ i
    pub rest : RestOf kind plain key joined i j delays (slice_index (map kind.was (map plain nodes)) i) one

pub pair_is : {N C : Type 0} (kind : NodeKind C) (plain : N → C) (key : Key N) (joined : JoinedState (Key N))
    (nodes : List N) (delays : Delays) (pair : ℕ) (one : Sent) → length nodes ≤ 4
    → PairRest kind plain key joined nodes delays pair one
    → PairIs kind plain key joined nodes delays (pair / 4) (pair % 4) one
pair_is kind plain key joined nodes delays pair one few h =
    let a : h.own ≡ pair / 4 = omega (arith, h.pair_is, h.own_below, h.peer_below) in
    let b : h.peer ≡ pair % 4 = omega (arith, h.pair_is, h.own_below, h.peer_below) in
    subst (λ (j : ℕ). PairIs kind plain key joined nodes delays (pair / 4) j one) b
    (subst (λ (i : ℕ). PairIs kind plain key joined nodes delays i h.peer one) a
    (record { own_below = h.own_below; peer_below = h.peer_below; apart = h.apart; rest = h.rest }))
