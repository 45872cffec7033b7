-- The rule holds at the opening.
use Rattle.std.specs.Prelude.{List, [], ◌∷◌, length, Some, slice_get}
use Rattle.std.proofs.Common.{ℕ, zero, suc, ◌≡◌, ◌≢◌, ◌<◌, ◌≤◌, arith, refl, sym, ap, ◌∙◌, subst}
use mathlib.Core.Option.{some, some-injective, some-ne-none}
use lib.ListN.{get_elem?}
use Rattle.link_script.specs.Script.{Script, now, IsSoundScript}
use Rattle.link_script.proofs.Scripts.{signal_late}
use Rattle.link_rule.specs.declared.view.Peer.{Peer}
use Rattle.link_rule.specs.declared.view.Progress.{Progress}
use Rattle.link_rule.specs.declared.view.View.{View}
use Rattle.link_rule.specs.Rule.{peer_at, Shows, Knows, KnowsOf, IsSeated, Ruled, opening_peer, opening_progress}
use Rattle.link_rule.specs.Rule.{opening_records, first_view, AreOpening}

pub opening_peers : (s : Script) (j : ℕ) → j < 4 → peer_at (opening_progress s).peers j ≡ opening_peer s j
opening_peers s zero below = refl
opening_peers s (suc zero) below = refl
opening_peers s (suc (suc zero)) below = refl
opening_peers s (suc (suc (suc zero))) below = refl
opening_peers s (suc (suc (suc (suc j)))) below = absurd (omega arith)

opening_at : (s : Script) (n q : ℕ) (x : Progress) → slice_get (opening_records s n) q ≡ Some x
    → (q < n) × (x ≡ opening_progress s)
opening_at s zero q x e = cc
opening_at s (suc n) zero x e = (omega arith, let t : opening_progress s ≡ x = cc in sym t)
opening_at s (suc n) (suc q) x e =
    let t = opening_at s n q x e in
    let a : q < n = t.0 in
    (omega arith, t.1)

pub opening_length : (s : Script) (n : ℕ) → length (opening_records s n) ≡ n
opening_length s zero = refl
opening_length s (suc n) = ap suc (opening_length s n)

opening_shows : (s : Script) (words : List ℕ) (i : ℕ) → AreOpening s words → i < s.players
    → Shows s words i (opening_progress s)
opening_shows s words i open_words below = record {
  placed = record { within = omega arith; counted = refl; all_peers = refl };
  clock_is = open_words.clocks i below ∙ omega arith;
  ring = λ n x e less near. absurd (omega arith);
  begun = λ never. absurd (omega arith);
  ended = λ never. absurd (omega arith);
}

opening_knows : (s : Script) (i j : ℕ) → IsSoundScript s → i < s.players → j < s.players → i ≢ j
    → KnowsOf s i j (opening_progress s) (opening_progress s)
opening_knows s i j sound li lj apart =
    let four : s.players ≤ 4 = sound.at_most_four in
    subst (λ (p : Peer). Knows s i j 0 p 0 0) (sym (opening_peers s j (omega arith)))
    (record {
      seen = record { at = 0; past = omega arith; clock_is = refl; count_is = refl };
      fetched = omega arith;
      based = omega arith;
      below = λ n x e early.
          let late : now s j zero ≤ x.clock = signal_late s sound j n zero x lj e (omega arith) in
          let open_clock : now s j zero ≡ (s.line j).clock = refl in
          absurd (omega arith);
      near = sound.near i j li lj apart;
      allowed = λ k e. absurd (omega arith);
      few = omega arith;
    })

opening_seat : {K : Type 0} (text : K → Script) (key : K) (id : ℕ) (v : View K)
    → get_elem? (first_view text key ∷ []) id ≡ some v → (q : ℕ) (x : Progress) → slice_get v.records q ≡ Some x
    → IsSeated key (λ i. opening_progress (text key)) (λ i. 0) (text key).players id v q x
opening_seat {K = K} text key zero v e q x there =
    subst (λ (w : View K). slice_get w.records q ≡ Some x
    → IsSeated key (λ i. opening_progress (text key)) (λ i. 0) (text key).players 0 w q x)
    (some-injective (first_view text key) v e)
    (λ there2.
    let t = opening_at (text key) (text key).players q x there2 in
    let a : q < (text key).players = t.0 in
    record { key_is = refl; player = omega arith; owned = refl; made_is = t.1 })
    there
opening_seat text key (suc id) v e q x there = absurd (some-ne-none v (sym e))

-- the table may be made of these words
pub opens : {K : Type 0} (text : K → Script) (key : K) (words : List ℕ) → IsSoundScript (text key)
    → AreOpening (text key) words → Ruled text key words (first_view text key ∷ [])
opens {K = K} text key words sound open_words =
    let s : Script = text key in
    record {
      made = λ i. opening_progress s;
      owner = λ i. 0;
      sound = sound;
      wide = open_words.wide;
      shows = λ i below. opening_shows s words i open_words below;
      knows = λ i j li lj apart. opening_knows s i j sound li lj apart;
      seats = λ id v e q x there. opening_seat text key id v e q x there;
    }
