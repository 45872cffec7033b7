-- A look keeps the rule, and what it tells.
use Rattle.std.specs.Prelude.{List, [], length, slice_index, if◌then◌else◌, ◌==◌}
use Rattle.std.proofs.Common.{ℕ, zero, suc, ◌≡◌, ◌≢◌, ◌+◌, ◌<◌, ◌≤◌, ◌⊎◌, inl, inr, arith, refl, sym, ap, ◌∙◌}
use Rattle.std.proofs.Common.{subst, set, true, false}
use Rattle.std.proofs.lemmas.Bool.{cases_lt}
use Rattle.std.proofs.lemmas.Bool.Decides.{nat_tests}
use Rattle.std.proofs.lemmas.List.{set-get_or, get_or-set_same, get_or-set_other, length-set}
use mathlib.Core.Option.{some, none}
use lib.ListN.{get_elem?}
use Rattle.atomic_table.specs.Table.{Allows, step}
use Rattle.link_order.proofs.Numbers.{same_or_apart}
use Rattle.link_script.specs.Script.{Script, now, sent, IsSoundScript}
use Rattle.link_script.proofs.Lines.{Told}
use Rattle.link_script.proofs.Scripts.{now_up, sent_up, now_small, sent_small, signal_late, signal_is}
use Rattle.link_rule.specs.declared.view.Peer.{Peer}
use Rattle.link_rule.specs.declared.view.Progress.{Progress}
use Rattle.link_rule.specs.declared.view.View.{View}
use Rattle.link_rule.specs.Words.{clock_place}
use Rattle.link_rule.specs.Rule.{no_peer, peer_at, IsSeen, Shows, Knows, KnowsOf, Ruled, seat_of, holds}
use Rattle.link_rule.specs.Steps.{with_peer, looked, LooksAt, looks}
use Rattle.link_rule.proofs.Kept.{here, moved}
use Rattle.link_rule.proofs.Allowed.{Stepped, allow, tell_seat}

-- what was seen of one player was changed
pub peer_here : (r : Progress) (j : ℕ) (p : Peer) → j < length r.peers → peer_at (with_peer r j p).peers j ≡ p
peer_here r j p below = get_or-set_same r.peers j p no_peer below

pub peer_there : (r : Progress) (j k : ℕ) (p : Peer) → k ≢ j → peer_at (with_peer r j p).peers k ≡ peer_at r.peers k
peer_there r j k p apart = get_or-set_other r.peers j k p no_peer apart

-- what a player shows doesn't go by what it has seen
pub shows_with : (s : Script) (words : List ℕ) (i : ℕ) (r : Progress) (j : ℕ) (p : Peer) → Shows s words i r
    → Shows s words i (with_peer r j p)
shows_with s words i r j p h = record {
  placed = record {
    within = h.placed.within;
    counted = h.placed.counted;
    all_peers = length-set r.peers j p ∙ h.placed.all_peers;
  };
  clock_is = h.clock_is;
  ring = h.ring;
  begun = h.begun;
  ended = h.ended;
}

-- a base that may have been raised
pub base_cases : (n m clock base : ℕ) → ((n ≡ m) × ((if n == m then clock else base) ≡ clock))
    ⊎ ((if n == m then clock else base) ≡ base)
base_cases n m clock base =
    elim (same_or_apart n m) [
      | inl e ↦ inl (e, (let t : (n == m) ≡ true = grind (arith, nat_tests) in ap (λ b. if b then clock else base) t))
      | inr e ↦ inr (let t : (n == m) ≡ false = grind (arith, nat_tests) in ap (λ b. if b then clock else base) t)
    ]

-- what a player knows, with another clock, count, taken and base
pub raised : (s : Script) (i j own : ℕ) (p q : Peer) (steps count : ℕ) → IsSoundScript s → j < s.players
    → Knows s i j own p steps count
    → IsSeen s j q steps → q.taken ≤ q.count → p.taken ≤ q.taken → p.clock ≤ q.clock
    → ((q.taken ≡ q.count) × (q.base ≡ q.clock)) ⊎ (q.base ≡ p.base) → Knows s i j own q steps count
raised s i j own p q steps count sound lj h seen fetched more later cases =
    elim cases [
      | inl t ↦
          let all : q.taken ≡ q.count = t.0 in
          let base : q.base ≡ q.clock = t.1 in
          let old : p.base ≤ p.clock = h.based in
          let near = h.near in
          record {
            seen = seen;
            fetched = fetched;
            based = omega arith;
            below = λ n x e early.
                elim (cases_lt n q.taken) [
                  | inl less ↦ less
                  | inr past ↦
                      let late : now s j seen.at ≤ x.clock
                      = signal_late s sound j n seen.at x lj e (omega (arith, seen.count_is)) in
                      absurd (omega (arith, seen.clock_is))
                ];
            near = omega arith;
            allowed = λ k e. let a : now s i k < p.base + s.hop j i = h.allowed k e in omega arith;
            few = omega (arith, h.few);
          }
      | inr base ↦
          let old : p.base ≤ p.clock = h.based in
          record {
            seen = seen;
            fetched = fetched;
            based = omega arith;
            below = λ n x e early.
                let early2 : x.clock < p.base = omega arith in
                let less : n < p.taken = h.below n x e early2 in omega arith;
            near = omega (arith, h.near);
            allowed = λ k e. let a : now s i k < p.base + s.hop j i = h.allowed k e in omega arith;
            few = omega (arith, h.few);
          }
    ]

-- the players that a step of a seat concerns, in the words of its own progress
pub record Concerned {K : Type 0} (text : K → Script) (key : K) (words : List ℕ) (i j : ℕ)
    (r o : Progress) : Type 0 where
  pub player : i < (text key).players
  pub own : Shows (text key) words i r
  pub peer : Shows (text key) words j o
  pub knows : KnowsOf (text key) i j r o
  pub known : KnowsOf (text key) j i o r

pub concerned : {K : Type 0} (text : K → Script) (key : K) (words : List ℕ) (views : List (View K)) (id i j : ℕ)
    (r : Progress) (h : Ruled text key words views) → get_elem? views id ≡ some (seat_of key i r)
    → j < (text key).players → j ≢ i → Concerned text key words i j r (h.made j)
concerned text key words views id i j r h at below apart =
    let s : Script = text key in
    let me = here text key words views id key i r h at in
    record {
      player = me.player;
      own = subst (λ (p : Progress). Shows s words i p) me.made_is (h.shows i me.player);
      peer = h.shows j below;
      knows = subst (λ (p : Progress). KnowsOf s i j p (h.made j)) me.made_is
          (h.knows i j me.player below (λ e. apart (sym e)));
      known = subst (λ (p : Progress). KnowsOf s j i (h.made j) p) me.made_is (h.knows j i below me.player apart);
    }

-- the rule after something else was seen or fetched of player j
pub known_better : {K : Type 0} (text : K → Script) (key : K) (words : List ℕ) (views : List (View K)) (id i j : ℕ)
    (r : Progress) (q : Peer) (h : Ruled text key words views) → get_elem? views id ≡ some (seat_of key i r)
    → j < (text key).players → j ≢ i
    → Knows (text key) i j r.steps q (h.made j).steps (h.made j).sent
    → Ruled text key words (set views id (seat_of key i (with_peer r j q)))
known_better text key words views id i j r q h at below apart better =
    let s : Script = text key in
    let c = concerned text key words views id i j r h at below apart in
    let wide : length r.peers ≡ 4 = c.own.placed.all_peers in
    let four : s.players ≤ 4 = h.sound.at_most_four in
    moved text key words words views id i r (with_peer r j q) h at h.wide (shows_with s words i r j q c.own)
    (λ k lk away. h.shows k lk)
    (λ k lk away.
    elim (same_or_apart k j) [
      | inl e ↦
          subst (λ (z : ℕ). KnowsOf s i z (with_peer r j q) (h.made z)) (sym e)
          (subst (λ (p : Peer). Knows s i j r.steps p (h.made j).steps (h.made j).sent)
          (sym (peer_here r j q (omega arith))) better)
      | inr n ↦
          subst (λ (p : Peer). Knows s i k r.steps p (h.made k).steps (h.made k).sent)
          (sym (peer_there r j k q n)) (concerned text key words views id i k r h at lk away).knows
    ])
    (λ k lk away. (concerned text key words views id i k r h at lk away).known)

last_step : (k n : ℕ) → n < k → (m : ℕ) × (k ≡ suc m) × (n ≤ m)
last_step zero n less = absurd (omega arith)
last_step (suc m) n less = (m, refl, omega arith)

look_core : {K : Type 0} (text : K → Script) (key : K) (words : List ℕ) (views : List (View K)) (id i j : ℕ)
    (r : Progress) → Ruled text key words views → get_elem? views id ≡ some (seat_of key i r)
    → j < (text key).players → j ≢ i
    → Stepped text key words views id i (LooksAt (text key) i j r (slice_index words (clock_place j)))
look_core text key words views id i j r h at below apart =
    let s : Script = text key in
    let sound : IsSoundScript s = h.sound in
    let o : Progress = h.made j in
    let p : Peer = peer_at r.peers j in
    let c = concerned text key words views id i j r h at below apart in
    let k = c.knows in
    let clock : ℕ = now s j o.steps in
    let q : Peer = looked p clock o.sent in
    let counted : o.sent ≡ sent s j o.steps = c.peer.placed.counted in
    let seen_past : k.seen.at ≤ o.steps = k.seen.past in
    let seen_clock : p.clock ≡ now s j k.seen.at = k.seen.clock_is in
    let seen_count : p.count ≡ sent s j k.seen.at = k.seen.count_is in
    let clock_later : now s j k.seen.at ≤ clock = now_up s sound j k.seen.at o.steps below seen_past in
    let count_later : sent s j k.seen.at ≤ sent s j o.steps = sent_up s sound j k.seen.at o.steps below seen_past in
    let got : p.taken ≤ o.sent = omega (arith, k.fetched) in
    let few : o.sent ≤ p.taken + s.hop i j + s.hop j i + 511
    = omega (arith, k.few) in
    let there : s.hop i j ≤ 1024 = sound.short_delay i j c.player below (λ e. apart (sym e)) in
    let back : s.hop j i ≤ 1024 = sound.short_delay j i below c.player apart in
    let better : Knows s i j r.steps q o.steps o.sent
    = raised s i j r.steps p q o.steps o.sent sound below k
    (record { at = o.steps; past = omega arith; clock_is = refl; count_is = counted }) got (omega arith) (omega arith)
    (base_cases p.taken o.sent clock p.base) in
    record {
      new = with_peer r j q;
      rule = known_better text key words views id i j r q h at below apart better;
      tells = record {
        clock = clock;
        count = o.sent;
        found_is = c.peer.clock_is;
        looks = record {
          at = o.steps;
          clock_is = refl;
          count_is = counted;
          new_is = refl;
          no_earlier = omega arith;
          no_fewer = omega arith;
          later = omega (arith, k.based);
          got = got;
          few = few;
          unread = omega arith;
          soon = λ n x e less.
              let t : Told (s.line j).clock (s.line j).moves n x = signal_is s sound j n x below e in
              let early : t.place < o.steps
              = elim (cases_lt t.place o.steps) [
                | inl le ↦ le
                | inr past ↦
                    let more : sent s j o.steps ≤ sent s j t.place = sent_up s sound j o.steps t.place below past in
                    absurd (omega (arith, t.before))
              ] in
              let last = last_step o.steps t.place early in
              let b = c.known in
              let allowed : now s j last.0 < (peer_at o.peers i).base + s.hop i j = b.allowed last.0 last.1 in
              let base : (peer_at o.peers i).base ≤ now s i b.seen.at = omega (arith, b.based, b.seen.clock_is) in
              let up : now s i b.seen.at ≤ now s i r.steps
              = now_up s sound i b.seen.at r.steps c.player b.seen.past in
              let then_up : now s j t.place ≤ now s j last.0 = now_up s sound j t.place last.0 below last.2 in
              omega (arith, t.clock_is);
          small_clock = now_small s sound j o.steps below;
          small_count = let small = sent_small s sound j o.steps below in omega (arith, small, counted);
        };
      };
    }

-- a look is allowed
pub look_allowed : {S K : Type 0} (text : K → Script) (key other : K) (slots id i j : ℕ) (r : Progress)
    → j < (text other).players → j ≢ i
    → Allows {S = S} (holds text key) slots id (seat_of other i r, []) (clock_place j) (λ n. n)
    (looks text (step slots (clock_place j) 0 0 none) (seat_of other i r, []))
look_allowed {S = S} {K = K} text key other slots id i j r below apart =
    allow text key other slots id i (clock_place j) r (λ n. n)
    (looks text (step slots (clock_place j) 0 0 none) (seat_of other i r, []))
    (λ k n new. LooksAt (text k) i j r n new)
    (λ words views h at e.
    let words_are : set words (clock_place j) (slice_index words (clock_place j)) ≡ words
    = set-get_or words (clock_place j) 0 in
    subst (λ (w : List ℕ). Stepped text key w views id i (LooksAt (text key) i j r (slice_index words (clock_place j))))
    (sym words_are)
    (look_core text key words views id i j r h at (subst (λ (k : K). j < (text k).players) e below) apart))
    (λ n new told l a b old e word lb away.
    let same : j ≡ b = omega arith in
    tell_seat other l i a r old new (λ k x y z. LooksAt (text k) x b y n z) e
    (subst (λ (z : ℕ). LooksAt (text other) i z r n new) same told))
