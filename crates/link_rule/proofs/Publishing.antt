-- A publish keeps the rule, and what it tells.
use Rattle.std.specs.Prelude.{List, [], ◌∷◌, length, map, Option, None, Some, IfSome, IsSome, slice_get, slice_index, option_to_list}
use Rattle.std.proofs.Common.{ℕ, zero, suc, ◌≡◌, ◌+◌, ◌<◌, ◌≤◌, ◌⊎◌, inl, inr, arith, refl, sym, ap, ◌∙◌, subst, set}
use Rattle.std.proofs.lemmas.Bool.{cases_lt}
use Rattle.std.proofs.lemmas.List.{length-set, length-map}
use Rattle.std.proofs.lemmas.Option.{slice_get_within}
use mathlib.Core.Option.{some, none}
use lib.ListN.{get_elem?}
use Rattle.atomic_table.specs.Table.{Allows, step}
use Rattle.link_node.specs.declared.signal.Signal.{Signal}
use Rattle.link_order.specs.Way.{Move}
use Rattle.link_script.specs.Script.{Script, now, sent, told, IsSoundScript, IsSoundMove, IsBorne}
use Rattle.link_script.proofs.Scripts.{now_up, now_next, sent_next, sent_here, sent_there}
use Rattle.link_script.proofs.Scripts.{signals_apart, signal_is}
use Rattle.link_rule.specs.declared.view.Peer.{Peer}
use Rattle.link_rule.specs.declared.view.Progress.{Progress}
use Rattle.link_rule.specs.declared.view.View.{View}
use Rattle.link_rule.specs.Words.{clock_place, ring_place, clock_word, HasSignal}
use Rattle.link_rule.specs.Rule.{peer_at, Shows, Knows, KnowsOf, Ruled, seat_of, holds}
use Rattle.link_rule.specs.Steps.{unlooked, stepped_on, MayPublish, PublishesBy, publishes}
use Rattle.link_rule.proofs.Places.{in_ring, stored, signal_left, same_left, shows_same}
use Rattle.link_rule.proofs.Kept.{here, moved}
use Rattle.link_rule.proofs.Allowed.{Stepped, allow, tell_seat}
use Rattle.link_rule.proofs.Looking.{concerned}
use Rattle.link_rule.proofs.Putting.{own_shows}

-- the flag of a seat: whether its next step's signal is written, as a number
pub record IsWritten (written flag : ℕ) : Type 0 where
  pub cases : ((written ≡ 0) × (flag ≡ 0)) ⊎ ((written ≡ 2) × (flag ≡ 1))

pub unlooked_at : (peers : List Peer) (j : ℕ) → peer_at (map unlooked peers) j ≡ unlooked (peer_at peers j)
unlooked_at [] j = refl
unlooked_at (p ∷ ps) zero = refl
unlooked_at (p ∷ ps) (suc j) = unlooked_at ps j

pub tells_cases : (o : Option Signal) → (o ≡ None) ⊎ ((x : Signal) × (o ≡ Some x))
tells_cases None = inl refl
tells_cases (Some x) = inr (x, refl)

-- where the step sends a signal, both its words are written, and then they are what the ring holds
record Written (words : List ℕ) (i : ℕ) (r : Progress) (m : Move) (flag : ℕ) : Type 0 where
  count_is : flag ≡ length (option_to_list m.tells)
  has : (x : Signal) → m.tells ≡ Some x → HasSignal words i r.sent x

some_is : (o : Option Signal) (x : Signal) → o ≡ Some x → IsSome o
some_is o x e = subst (λ (z : Option Signal). IsSome z) (sym e) refl

-- the step k is the first one that sends something after those that are shown
written_of : (s : Script) (words : List ℕ) (i k : ℕ) (r : Progress) (m : Move) (flag : ℕ) → Shows s words i r
    → slice_get (s.line i).moves k ≡ Some m → r.sent ≡ sent s i k → (IsSome m.tells → r.written ≡ 2)
    → (m.tells ≡ None → r.written ≡ 0) → IsWritten r.written flag → Written words i r m flag
written_of s words i k r m flag own stands counted whole unsent flags =
    elim (tells_cases m.tells) [
      | inl quiet ↦
          let zero_sent : length (option_to_list m.tells) ≡ 0
          = ap (λ (o : Option Signal). length (option_to_list o)) quiet in
          let nothing : r.written ≡ 0 = unsent quiet in
          record {
            count_is = elim flags.cases [
              | inl t ↦ t.1 ∙ sym zero_sent
              | inr t ↦ let two : r.written ≡ 2 = t.0 in absurd (omega arith)
            ];
            has = λ x e. let z : None ≡ Some x = sym quiet ∙ e in cc;
          }
      | inr loud ↦
          let one_sent : length (option_to_list m.tells) ≡ 1
          = ap (λ (o : Option Signal). length (option_to_list o)) loud.1 in
          let two : r.written ≡ 2 = whole (some_is m.tells loud.0 loud.1) in
          let first = own.begun (omega arith) in
          let second = own.ended (omega arith) in
          let here : slice_get (told s i) (sent s i r.steps) ≡ Some loud.0
          = ap (slice_get (told s i)) (sym own.placed.counted ∙ counted) ∙ sent_here s i k m loud.0 stands loud.1 in
          let a : Some first.0 ≡ Some loud.0 = sym first.1 ∙ here in
          let b : Some second.0 ≡ Some loud.0 = sym second.1 ∙ here in
          record {
            count_is = elim flags.cases [
              | inl t ↦ let nothing : r.written ≡ 0 = t.0 in absurd (omega arith)
              | inr t ↦ t.1 ∙ sym one_sent
            ];
            has = λ x e.
                let same : Some loud.0 ≡ Some x = sym loud.1 ∙ e in
                let fx : first.0 ≡ x = cc in
                let sx : second.0 ≡ x = cc in
                subst (λ (z : Signal). HasSignal words i r.sent z) fx
                (record {
                  head = first.2;
                  body = subst (λ (z : Signal). slice_index words (ring_place i r.sent + 1)
                      ≡ Rattle.link_node.specs.Packing.packed_words z) (sx ∙ sym fx) second.2;
                });
          }
    ]

one_at_most : (o : Option Signal) → length (option_to_list o) ≤ 1
one_at_most None = omega arith
one_at_most (Some x) = omega arith

-- the words of player i after so many silent steps and one more
shows_next : (s : Script) (words : List ℕ) (i silent : ℕ) (r : Progress) (m : Move) (v flag : ℕ) → Shows s words i r
    → slice_get (s.line i).moves (r.steps + silent) ≡ Some m → r.sent ≡ sent s i (r.steps + silent)
    → Written words i r m flag → clock_place i < length words
    → v ≡ clock_word m.clock (r.sent + length (option_to_list m.tells))
    → Shows s (set words (clock_place i) v) i (stepped_on r silent (length (option_to_list m.tells)))
shows_next s words i silent r m v flag own stands counted w inside v_is =
    let k : ℕ = r.steps + silent in
    let sends : ℕ = length (option_to_list m.tells) in
    let less : k < length (s.line i).moves = slice_get_within (s.line i).moves k m stands in
    let next : sent s i (suc k) ≡ sent s i k + sends = sent_next s i k m stands in
    let clock : now s i (suc k) ≡ m.clock = now_next s i k m stands in
    record {
      placed = record {
        within = omega arith;
        counted = omega arith;
        all_peers = length-map r.peers unlooked ∙ own.placed.all_peers;
      };
      clock_is =
          stored words (clock_place i) v inside ∙ v_is ∙ ap (λ (c : ℕ). clock_word c (r.sent + sends)) (sym clock);
      ring = λ n x e below near.
          let ring = in_ring i n in
          let kept : HasSignal words i n x → HasSignal (set words (clock_place i) v) i n x
          = signal_left words (clock_place i) v i n x (λ t. absurd (omega (arith, ring.after)))
          (λ t. absurd (omega (arith, ring.after))) in
          elim (cases_lt n r.sent) [
            | inl less ↦ kept (own.ring n x e less (omega arith))
            | inr past ↦ elim (tells_cases m.tells) [
              | inl quiet ↦
                  let zero_sent : sends ≡ 0 = ap (λ (o : Option Signal). length (option_to_list o)) quiet in
                  absurd (omega arith)
              | inr loud ↦
                  let one : sends ≤ 1 = one_at_most m.tells in
                  let number : n ≡ r.sent = omega arith in
                  let there : slice_get (told s i) (sent s i k) ≡ Some loud.0
                  = sent_here s i k m loud.0 stands loud.1 in
                  let both : Some x ≡ Some loud.0
                  = sym e ∙ ap (slice_get (told s i)) (number ∙ counted) ∙ there in
                  let same : loud.0 ≡ x = cc in
                  let has : HasSignal words i r.sent x
                  = w.has x (loud.1 ∙ ap (λ (z : Signal). Some z) same) in
                  kept (subst (λ (k : ℕ). HasSignal words i k x) (sym number) has)
            ]
          ];
      begun = λ some. absurd (omega arith);
      ended = λ some. absurd (omega arith);
    }

-- few signals are left, also with the new one. It bears a clock that is below what j has fetched up to, and the delays
-- there and back and a step; and signals of one player bear different clocks
few_after : (s : Script) (i j own : ℕ) (r o : Progress) (m : Move) → IsSoundScript s → i < s.players → j < s.players
    → slice_get (s.line i).moves own ≡ Some m → r.sent ≡ sent s i own
    → KnowsOf s i j r o → KnowsOf s j i o r → now s i own < (peer_at r.peers j).base + s.hop j i
    → r.sent + length (option_to_list m.tells) ≤ (peer_at o.peers i).taken + s.hop j i + s.hop i j + 511
few_after s i j own r o m sound li lj stands counted k b allowed =
    let p : Peer = peer_at r.peers j in
    let q : Peer = peer_at o.peers i in
    elim (tells_cases m.tells) [
      | inl quiet ↦
          let zero_sent : length (option_to_list m.tells) ≡ 0
          = ap (λ (t : Option Signal). length (option_to_list t)) quiet in
          omega (arith, b.few)
      | inr loud ↦
          let one : length (option_to_list m.tells) ≡ 1
          = ap (λ (t : Option Signal). length (option_to_list t)) loud.1 in
          elim (cases_lt q.taken r.sent) [
            | inr all ↦ omega arith
            | inl less ↦
                let there : slice_get (told s i) (sent s i own) ≡ Some loud.0
                = sent_here s i own m loud.0 stands loud.1 in
                let t = signal_is s sound i (sent s i own) loud.0 li there in
                let first = sent_there s i q.taken own (omega arith) in
                let sound_move : IsSoundMove (now s i own) m = sound.moves i li own m stands in
                let borne : IsBorne (now s i own) loud.0
                = subst (λ (t : Option Signal). IfSome t (IsBorne (now s i own))) loud.1 sound_move.bears in
                let older : loud.0.clock ≡ now s i own = borne.clock_is in
                let apart : sent s i own + first.0.clock ≤ q.taken + loud.0.clock
                = signals_apart s sound i q.taken (sent s i own) first.0 loud.0 li first.1 there (omega arith) in
                let unfetched : q.base ≤ first.0.clock
                = elim (cases_lt first.0.clock q.base) [
                  | inl early ↦
                      absurd (let n : q.taken < q.taken = b.below q.taken first.0 first.1 early in omega arith)
                  | inr late ↦ late
                ] in
                let seen : p.clock ≡ now s j k.seen.at = k.seen.clock_is in
                let up : now s j k.seen.at ≤ now s j o.steps = now_up s sound j k.seen.at o.steps lj k.seen.past in
                let based : p.base ≤ p.clock = k.based in
                let near : now s j o.steps < q.base + s.hop i j + 512 = b.near in
                omega arith
          ]
    ]

publish_core : {K : Type 0} (text : K → Script) (key : K) (words : List ℕ) (views : List (View K)) (id i : ℕ)
    (r : Progress) (clock v flag : ℕ) → Ruled text key words views → get_elem? views id ≡ some (seat_of key i r)
    → MayPublish (text key) i r clock → IsWritten r.written flag → v ≡ clock_word clock (r.sent + flag)
    → Stepped text key (set words (clock_place i) v) views id i (PublishesBy (text key) i r v)
publish_core text key words views id i r clock v flag h at may flags v_is =
    let s : Script = text key in
    let sound : IsSoundScript s = h.sound in
    let me = here text key words views id key i r h at in
    let own = own_shows text key words views id i r h at in
    let m : Move = may.move in
    let k : ℕ = r.steps + may.silent in
    let sends : ℕ = length (option_to_list m.tells) in
    let counted : r.sent ≡ sent s i k = own.placed.counted ∙ sym may.quiet in
    let w = written_of s words i k r m flag own may.stands counted may.written may.unwritten flags in
    let four : s.players ≤ 4 = sound.at_most_four in
    let inside : clock_place i < length words = omega (arith, me.player, h.wide) in
    let counts : v ≡ clock_word clock (r.sent + sends) =
    v_is ∙ ap (λ (n : ℕ). clock_word clock (r.sent + n)) w.count_is in
    let value : v ≡ clock_word m.clock (r.sent + sends)
    = counts ∙ ap (λ (c : ℕ). clock_word c (r.sent + sends)) may.clock_is in
    let y : Progress = stepped_on r may.silent sends in
    let clock_next : now s i (suc k) ≡ m.clock = now_next s i k m may.stands in
    let mv : IsSoundMove (now s i k) m = sound.moves i me.player k m may.stands in
    let short : m.clock ≤ now s i k + 512 = mv.short in
    record {
      new = y;
      rule = moved text key words (set words (clock_place i) v) views id i r y h at
          (length-set words (clock_place i) v ∙ h.wide)
          (shows_next s words i may.silent r m v flag own may.stands counted w inside value)
          (λ j lj apart. shows_same s j (h.made j) words (set words (clock_place i) v)
          (same_left words (clock_place i) v i j (omega arith) (omega arith) apart) (h.shows j lj))
          (λ j lj apart.
          let c = (concerned text key words views id i j r h at lj apart).knows in
          let free : now s i k < (peer_at r.peers j).base + s.hop j i = may.allowed j lj apart in
          subst (λ (p : Peer). Knows s i j (suc k) p (h.made j).steps (h.made j).sent)
          (sym (unlooked_at r.peers j))
          (record {
            seen = record {
              at = c.seen.at;
              past = c.seen.past;
              clock_is = c.seen.clock_is;
              count_is = c.seen.count_is;
            };
            fetched = c.fetched;
            based = c.based;
            below = c.below;
            near = omega arith;
            allowed = λ n e.
                let same : n ≡ k = omega arith in
                subst (λ (z : ℕ). now s i z < (peer_at r.peers j).base + s.hop j i) (sym same) free;
            few = c.few;
          }))
          (λ j lj apart.
          let c = concerned text key words views id i j r h at lj apart in
          let b = c.known in
          record {
            seen = record {
              at = b.seen.at;
              past = omega (arith, b.seen.past);
              clock_is = b.seen.clock_is;
              count_is = b.seen.count_is;
            };
            fetched = b.fetched;
            based = b.based;
            below = b.below;
            near = b.near;
            allowed = b.allowed;
            few = few_after s i j k r (h.made j) m sound me.player lj may.stands counted c.knows b
                (may.allowed j lj apart);
          });
      tells = record { clock = clock; word_is = counts; publishes = record { made = may; new_is = refl } };
    }

-- a publish is allowed
pub publish_allowed : {S K : Type 0} (text : K → Script) (key other : K) (slots id i : ℕ) (r : Progress)
    (clock v flag : ℕ) → MayPublish (text other) i r clock → IsWritten r.written flag
    → v ≡ clock_word clock (r.sent + flag)
    → Allows {S = S} (holds text key) slots id (seat_of other i r, []) (clock_place i) (λ n. v)
    (λ n. publishes text (step slots (clock_place i) v 0 none) (seat_of other i r, []) v)
publish_allowed {S = S} {K = K} text key other slots id i r clock v flag may flags v_is =
    allow text key other slots id i (clock_place i) r (λ n. v)
    (λ n. publishes text (step slots (clock_place i) v 0 none) (seat_of other i r, []) v)
    (λ k n new. PublishesBy (text k) i r v new)
    (λ words views h at e.
    publish_core text key words views id i r clock v flag h at
    (subst (λ (k : K). MayPublish (text k) i r clock) e may) flags v_is)
    (λ n new told l a old e.
    tell_seat other l i a r old new (λ k b y z. PublishesBy (text k) b y v z) e told)

-- the clock tells which steps were made
pub same_silent : (s : Script) (i : ℕ) (r : Progress) (clock : ℕ) → IsSoundScript s → i < s.players
    → (a b : MayPublish s i r clock) → a.silent ≡ b.silent
same_silent s i r clock sound below a b =
    let ka : ℕ = r.steps + a.silent in
    let kb : ℕ = r.steps + b.silent in
    let ca : now s i (suc ka) ≡ a.move.clock = now_next s i ka a.move a.stands in
    let cb : now s i (suc kb) ≡ b.move.clock = now_next s i kb b.move b.stands in
    let ma : IsSoundMove (now s i ka) a.move = sound.moves i below ka a.move a.stands in
    let mb : IsSoundMove (now s i kb) b.move = sound.moves i below kb b.move b.stands in
    let ra : now s i ka < a.move.clock = ma.rises in
    let rb : now s i kb < b.move.clock = mb.rises in
    let ea : clock ≡ a.move.clock = a.clock_is in
    let eb : clock ≡ b.move.clock = b.clock_is in
    elim (cases_lt ka kb) [
      | inl less ↦
          let up : now s i (suc ka) ≤ now s i kb = now_up s sound i (suc ka) kb below (omega arith) in
          absurd (omega arith)
      | inr past ↦ elim (cases_lt kb ka) [
        | inl less ↦
            let up : now s i (suc kb) ≤ now s i ka = now_up s sound i (suc kb) ka below (omega arith) in
            absurd (omega arith)
        | inr same ↦ omega arith
      ]
    ]
