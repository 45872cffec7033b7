-- The two loads of a fetch keep the rule, and what they tell.
use Rattle.std.specs.Prelude.{List, [], Some, slice_get, slice_index}
use Rattle.std.proofs.Common.{ℕ, ◌≡◌, ◌≢◌, ◌+◌, ◌<◌, ◌≤◌, arith, refl, sym, ap, ◌∙◌, subst, set}
use Rattle.std.proofs.lemmas.List.{set-get_or}
use mathlib.Core.Option.{some, none}
use lib.ListN.{get_elem?}
use Rattle.atomic_table.specs.Table.{Allows, step}
use Rattle.link_node.specs.declared.signal.Signal.{Signal}
use Rattle.link_script.specs.Script.{Script, sent, told, IsSoundScript}
use Rattle.link_script.proofs.Scripts.{sent_up, sent_there}
use Rattle.link_rule.specs.declared.view.Peer.{Peer}
use Rattle.link_rule.specs.declared.view.Progress.{Progress}
use Rattle.link_rule.specs.declared.view.View.{View}
use Rattle.link_rule.specs.Words.{ring_place, HasSignal}
use Rattle.link_rule.specs.Rule.{peer_at, Knows, Ruled, seat_of, holds}
use Rattle.link_rule.specs.Steps.{with_peer, fetched, ReadsBody, reads_head, reads_body}
use Rattle.link_rule.proofs.Places.{in_ring}
use Rattle.link_rule.proofs.Kept.{here}
use Rattle.link_rule.proofs.Allowed.{Stepped, allow, allow_still, same_seat, tell_seat}
use Rattle.link_rule.proofs.Looking.{concerned, known_better, raised, base_cases}

-- the signal that comes next stands in the peer's ring
record Stands (s : Script) (words : List ℕ) (j taken : ℕ) : Type 0 where
  signal : Signal
  stands : slice_get (told s j) taken ≡ Some signal
  has : HasSignal words j taken signal

next_stands : {K : Type 0} (text : K → Script) (key : K) (words : List ℕ) (views : List (View K)) (id i j : ℕ)
    (r : Progress) → Ruled text key words views → get_elem? views id ≡ some (seat_of key i r)
    → j < (text key).players → j ≢ i → (peer_at r.peers j).taken < (peer_at r.peers j).count
    → Stands (text key) words j (peer_at r.peers j).taken
next_stands text key words views id i j r h at below apart left =
    let s : Script = text key in
    let o : Progress = h.made j in
    let p : Peer = peer_at r.peers j in
    let c = concerned text key words views id i j r h at below apart in
    let k = c.knows in
    let counted : o.sent ≡ sent s j o.steps = c.peer.placed.counted in
    let up : sent s j k.seen.at ≤ sent s j o.steps = sent_up s h.sound j k.seen.at o.steps below k.seen.past in
    let seen_count : p.count ≡ sent s j k.seen.at = k.seen.count_is in
    let less : p.taken < o.sent = omega arith in
    let few : o.sent ≤ p.taken + s.hop i j + s.hop j i + 511
    = omega (arith, k.few) in
    let there : s.hop i j ≤ 1024 = h.sound.short_delay i j c.player below (λ e. apart (sym e)) in
    let back : s.hop j i ≤ 1024 = h.sound.short_delay j i below c.player apart in
    let x = sent_there s j p.taken o.steps (omega arith) in
    record { signal = x.0; stands = x.1; has = c.peer.ring p.taken x.0 x.1 less (omega arith) }

-- places of one player's ring, or of two: they are the same
same_ring : (i j m n : ℕ) → ring_place i m ≡ ring_place j n → i ≡ j
same_ring i j m n e = let a = in_ring i m in let b = in_ring j n in omega (arith, a.after, a.before, b.after, b.before)

pub head_allowed : {S K : Type 0} (text : K → Script) (key other : K) (slots id i j : ℕ) (r : Progress)
    → Allows {S = S} (holds text key) slots id (seat_of other i r, []) (ring_place j (peer_at r.peers j).taken) (λ n. n)
    (reads_head text (step slots (ring_place j (peer_at r.peers j).taken) 0 0 none) (seat_of other i r, []))
head_allowed {S = S} {K = K} text key other slots id i j r =
    allow_still text key slots id (ring_place j (peer_at r.peers j).taken) (seat_of other i r)
    (reads_head text (step slots (ring_place j (peer_at r.peers j).taken) 0 0 none) (seat_of other i r, []))
    (λ words views h at. (
      refl,
      λ l a b old e word lb away left.
          let me = here text key words views id other i r h at in
          let t = same_seat other l i a r old e in
          let at2 : get_elem? views id ≡ some (seat_of l a old) = at ∙ ap some e in
          let l_is : l ≡ key = sym t.0 ∙ me.same_key in
          let h2 : Ruled text l words views = subst (λ (k : K). Ruled text k words views) (sym l_is) h in
          let x = next_stands text l words views id a b old h2 at2 lb away left in
          record {
            signal = x.signal;
            stands = x.stands;
            found_is = ap (slice_index words) word ∙ x.has.head;
          },
    ))

body_core : {K : Type 0} (text : K → Script) (key : K) (words : List ℕ) (views : List (View K)) (id i j : ℕ)
    (r : Progress) → Ruled text key words views → get_elem? views id ≡ some (seat_of key i r)
    → j < (text key).players → j ≢ i → (peer_at r.peers j).taken < (peer_at r.peers j).count
    → Stepped text key words views id i
    (ReadsBody (text key) j r (slice_index words (ring_place j (peer_at r.peers j).taken + 1)))
body_core text key words views id i j r h at below apart left =
    let s : Script = text key in
    let sound : IsSoundScript s = h.sound in
    let o : Progress = h.made j in
    let p : Peer = peer_at r.peers j in
    let c = concerned text key words views id i j r h at below apart in
    let x = next_stands text key words views id i j r h at below apart left in
    let better : Knows s i j r.steps (fetched p) o.steps o.sent
    = raised s i j r.steps p (fetched p) o.steps o.sent sound below c.knows
    (record {
      at = c.knows.seen.at;
      past = c.knows.seen.past;
      clock_is = c.knows.seen.clock_is;
      count_is = c.knows.seen.count_is;
    }) (omega arith) (omega arith) (omega arith)
    (base_cases (p.taken + 1) p.count p.clock p.base) in
    record {
      new = with_peer r j (fetched p);
      rule = known_better text key words views id i j r (fetched p) h at below apart better;
      tells = record { signal = x.signal; stands = x.stands; found_is = x.has.body; new_is = refl };
    }

-- the second load is a fetch only of a peer of whom something is left
pub body_allowed : {S K : Type 0} (text : K → Script) (key other : K) (slots id i j : ℕ) (r : Progress)
    → j < (text other).players → j ≢ i → (peer_at r.peers j).taken < (peer_at r.peers j).count
    → Allows {S = S} (holds text key) slots id (seat_of other i r, []) (ring_place j (peer_at r.peers j).taken + 1)
    (λ n. n)
    (reads_body text (step slots (ring_place j (peer_at r.peers j).taken + 1) 0 0 none) (seat_of other i r, []))
body_allowed {S = S} {K = K} text key other slots id i j r below apart left =
    let word : ℕ = ring_place j (peer_at r.peers j).taken + 1 in
    allow text key other slots id i word r (λ n. n)
    (reads_body text (step slots word 0 0 none) (seat_of other i r, []))
    (λ k n new. ReadsBody (text k) j r n new)
    (λ words views h at e.
    let words_are : set words word (slice_index words word) ≡ words = set-get_or words word 0 in
    subst (λ (w : List ℕ). Stepped text key w views id i (ReadsBody (text key) j r (slice_index words word)))
    (sym words_are)
    (body_core text key words views id i j r h at (subst (λ (k : K). j < (text k).players) e below) apart left))
    (λ n new told l a b old e place lb away some_left.
    let t = same_seat other l i a r old e in
    let same : j ≡ b
    = same_ring j b (peer_at r.peers j).taken (peer_at old.peers b).taken (omega arith) in
    tell_seat other l i a r old new (λ k x y z. ReadsBody (text k) b y n z) e
    (subst (λ (z : ℕ). ReadsBody (text other) z r n new) same told))
