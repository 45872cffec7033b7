-- A console's leave to step, by the list of its peers.
use Rattle.std.specs.Prelude.{List, length, slice_index, ◌↔◌}
use Rattle.std.proofs.Common.{ℕ, ◌≡◌, ◌+◌, ◌-◌, ◌<◌, ◌≤◌, inl, inr, arith, refl, sym, ap, ◌∙◌}
use Rattle.std.proofs.lemmas.Bool.{cases_lt}
use Rattle.std.proofs.lemmas.Bool.Decides.{nat_tests}
use Rattle.link_order.specs.Interleaving.{MayStep}
use Rattle.link_core.specs.declared.horizon.Seen.{Seen}
use Rattle.link_core.specs.Leave.{peer_at, AreSeen, AreHops, IsBelowAll}

peer_below : (i place : ℕ) → place < i → peer_at i place ≡ place
peer_below i place below = grind (arith, nat_tests)

peer_past : (i place : ℕ) → i ≤ place → peer_at i place ≡ place + 1
peer_past i place past = grind (arith, nat_tests)

-- the delay from the peer at a place
hop_below : (between : ℕ → ℕ → ℕ) (delays : List ℕ) (i place : ℕ) → AreHops i between delays → place < length delays
    → place < i → slice_index delays place ≡ between place i
hop_below between delays i place are within below =
    are place within ∙ ap (λ (j : ℕ). between j i) (peer_below i place below)

hop_past : (between : ℕ → ℕ → ℕ) (delays : List ℕ) (i place player : ℕ) → AreHops i between delays
    → place < length delays → i ≤ place → player ≡ place + 1 → slice_index delays place ≡ between player i
hop_past between delays i place player are within past is =
    are place within ∙ ap (λ (j : ℕ). between j i) (peer_past i place past ∙ sym is)

-- all clocks of the list are far enough where those of all peers are
pub leave : (clock until i : ℕ) (known : ℕ → ℕ) (between : ℕ → ℕ → ℕ) (seen : List Seen) (delays : List ℕ)
    → length delays ≡ length seen → i ≤ length seen → AreSeen i known seen → AreHops i between delays
    → ((clock < until) × IsBelowAll clock seen delays) ↔ MayStep (length seen + 1) i clock until known between
leave clock until i known between seen delays many within are hops = (
  (λ h. record {
    player = omega arith;
    early = h.0;
    ahead = λ j below apart.
        elim (cases_lt j i) [
          | inl less ↦
              let far = h.1 j nobody (omega arith) in
              let same = are j nobody (omega arith) in
              let hop = hop_below between delays i j hops (omega arith) less in
              omega (arith, far, same, ap known (peer_below i j less), hop)
          | inr past ↦
              let far = h.1 (j - 1) nobody (omega arith) in
              let same = are (j - 1) nobody (omega arith) in
              let player : peer_at i (j - 1) ≡ j = omega (arith, peer_past i (j - 1) (omega arith)) in
              let hop = hop_past between delays i (j - 1) j hops (omega arith) (omega arith) (omega arith) in
              omega (arith, far, same, ap known player, hop)
        ];
  }),
  (λ m. (
    m.early,
    λ place d below.
        elim (cases_lt place i) [
          | inl less ↦
              let far = m.ahead place (omega arith) (omega arith) in
              let hop = hop_below between delays i place hops (omega arith) less in
              omega (arith, far, are place d below, ap known (peer_below i place less), hop)
          | inr past ↦
              let far = m.ahead (place + 1) (omega arith) (omega arith) in
              let hop = hop_past between delays i place (place + 1) hops (omega arith) past refl in
              omega (arith, far, are place d below, ap known (peer_past i place past), hop)
        ],
  )),
)
  where
    nobody : Seen
    nobody = record { clock = 0 }
