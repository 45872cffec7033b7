-- What the two loads of a fetch ask of the table, and what they make of the seat.
use Rattle.std.specs.Prelude.{[], length, Some, slice_get, slice_index, slice_set}
use Rattle.std.proofs.Common.{ℕ, ◌≡◌, ◌+◌, ◌<◌, ◌≤◌, ◌^◌, arith, sym, ap, ◌∙◌, subst, inl, inr}
use Rattle.std.proofs.lemmas.List.{length-set, get_or-set_same, get_or-set_other}
use mathlib.Core.Option.{none}
use Rattle.atomic_table.specs.Table.{Allows, step}
use Rattle.link_node.specs.declared.signal.Signal.{Signal}
use Rattle.link_node.specs.Packing.{packed_head, packed_words, signal_in}
use Rattle.link_node.proofs.PackingLemmas.{packs}
use Rattle.link_order.specs.NodeKind.{NodeKind}
use Rattle.link_order.proofs.Numbers.{same_or_apart}
use Rattle.link_script.specs.Script.{Script, told}
use Rattle.link_script.proofs.Scripts.{signal_is, sent_small}
use Rattle.link_rule.specs.declared.view.Peer.{Peer}
use Rattle.link_rule.specs.declared.view.Progress.{Progress}
use Rattle.link_rule.specs.Words.{ring_place}
use Rattle.link_rule.specs.Rule.{peer_at, seat_of, holds}
use Rattle.link_rule.specs.Steps.{with_peer, fetched, ReadsHead, ReadsBody, reads_head, reads_body}
use Rattle.link_rule.proofs.Looking.{peer_here, peer_there}
use Rattle.link_rule.proofs.Fetching.{head_allowed, body_allowed}
use Rattle.link_table.specs.declared.key.Key.{Key}
use Rattle.link_table.specs.declared.seat.Seat.TheInside.{Inside}
use Rattle.link_table.specs.Text.{script_of}
use Rattle.link_table.specs.Seated.{SeatState, state_of, IsSeat}
use Rattle.link_table.proofs.Seats.{Mine, Place, IsAfter, IsOther, own_made}

-- the number of the signal that comes next of a peer, of whom something is left
pub record IsNext (made : Progress) (peer index : ℕ) : Type 0 where
  pub taken_is : index ≡ (peer_at made.peers peer).taken
  pub left : (peer_at made.peers peer).taken < (peer_at made.peers peer).count

pub is_next : {N C : Type 0} (kind : NodeKind C) (plain : N → C) (s : Inside N) (now : SeatState (Key N))
    (peer index : ℕ) → (h : IsSeat kind plain s) → state_of s ≡ now → index ≡ (peer_at now.made.peers peer).taken
    → index < (peer_at now.made.peers peer).count → IsNext h.made peer index
is_next kind plain s now peer index h seen taken counted =
    subst (λ (r : Progress). IsNext r peer index) (own_made kind plain s now h seen)
    (record { taken_is = taken; left = omega arith })

pub may_head : {N C : Type 0} (kind : NodeKind C) (plain : N → C) (table_key : Key N) (slots word peer index : ℕ)
    (s : Inside N) → (h : IsSeat kind plain s) → word ≡ ring_place peer index → IsNext h.made peer index
    → Allows (holds (script_of kind plain) table_key) slots s.place.id s.place.me word (λ n. n)
    (reads_head (script_of kind plain) (step slots word 0 0 none) s.place.me)
may_head {N = N} kind plain table_key slots word peer index s h word_is next =
    let place : ℕ = ring_place peer (peer_at h.made.peers peer).taken in
    subst (λ (w : ℕ). Allows (holds (script_of kind plain) table_key) slots s.place.id s.place.me w (λ n. n)
    (reads_head (script_of kind plain) (step slots w 0 0 none) s.place.me))
    (sym (word_is ∙ ap (ring_place peer) next.taken_is))
    (subst (λ (m : Mine N). Allows (holds (script_of kind plain) table_key) slots s.place.id m place (λ n. n)
    (reads_head (script_of kind plain) (step slots place 0 0 none) m)) (sym h.me_is)
    (head_allowed (script_of kind plain) table_key h.key slots s.place.id s.player peer h.made))

pub may_body : {N C : Type 0} (kind : NodeKind C) (plain : N → C) (table_key : Key N) (slots word peer index : ℕ)
    (s : Inside N) (place : Place N) → (h : IsSeat kind plain s) → IsOther s peer → word ≡ ring_place peer index
    → IsNext h.made peer index → place.me ≡ s.place.me
    → Allows (holds (script_of kind plain) table_key) slots place.id place.me (word + 1) (λ n. n)
    (reads_body (script_of kind plain) (step slots (word + 1) 0 0 none) place.me)
may_body {N = N} kind plain table_key slots word peer index s place h other word_is next same =
    let w2 : ℕ = ring_place peer (peer_at h.made.peers peer).taken + 1 in
    subst (λ (w : ℕ). Allows (holds (script_of kind plain) table_key) slots place.id place.me w (λ n. n)
    (reads_body (script_of kind plain) (step slots w 0 0 none) place.me))
    (sym (ap (λ (n : ℕ). n + 1) (word_is ∙ ap (ring_place peer) next.taken_is)))
    (subst (λ (m : Mine N). Allows (holds (script_of kind plain) table_key) slots place.id m w2 (λ n. n)
    (reads_body (script_of kind plain) (step slots w2 0 0 none) m)) (sym (same ∙ h.me_is))
    (body_allowed (script_of kind plain) table_key h.key slots place.id s.player peer h.made
    (subst (λ (n : ℕ). peer < n) h.players_is other.below) other.apart next.left))

-- what was fetched
pub record HasFetched {N C : Type 0} (kind : NodeKind C) (plain : N → C) (key : Key N) (player peer : ℕ)
    (after : Mine N) (old : Progress) (index head body : ℕ) : Type 0
  where
    pub signal : Signal
    pub stands : slice_get (told (script_of kind plain key) peer) index ≡ Some signal
    pub signal_is : signal_in head body ≡ Some signal
    pub seat : IsAfter key player after (with_peer old peer (fetched (peer_at old.peers peer)))
    pub small_index : index < 2 ^ 40

pub has_fetched : {N C : Type 0} (kind : NodeKind C) (plain : N → C) (slots word peer index head body : ℕ)
    (s : Inside N) (first second : Mine N) → (h : IsSeat kind plain s) → IsOther s peer → word ≡ ring_place peer index
    → IsNext h.made peer index → reads_head (script_of kind plain) (step slots word 0 0 none) s.place.me head first
    → reads_body (script_of kind plain) (step slots (word + 1) 0 0 none) first body second
    → HasFetched kind plain h.key s.player peer second h.made index head body
has_fetched {N = N} kind plain slots word peer index head body st first second h other word_is next head_told
    body_told =
    let s : Script = script_of kind plain h.key in
    let inside : peer < s.players = subst (λ (n : ℕ). peer < n) h.players_is other.below in
    let place_is : word ≡ ring_place peer (peer_at h.made.peers peer).taken =
    word_is ∙ ap (ring_place peer) next.taken_is in
    let a : ReadsHead s peer h.made head
    = head_told.1 h.key st.player peer h.made (ap (λ (m : Mine N). m.0) h.me_is) place_is inside other.apart
    next.left in
    let first_is : first ≡ (seat_of h.key st.player h.made, []) = head_told.0 ∙ h.me_is in
    let t = body_told h.key st.player peer h.made (ap (λ (m : Mine N). m.0) first_is)
    (ap (λ (n : ℕ). n + 1) place_is) inside other.apart next.left in
    let b : ReadsBody s peer h.made body t.0 = t.2 in
    let both : Some b.signal ≡ Some a.signal = sym b.stands ∙ a.stands in
    let same : b.signal ≡ a.signal = cc in
    let known = signal_is s h.sound peer (peer_at h.made.peers peer).taken a.signal inside a.stands in
    let small = sent_small s h.sound peer known.place inside in
    record {
      signal = a.signal;
      stands = ap (slice_get (told s peer)) next.taken_is ∙ a.stands;
      signal_is = ap (λ (n : ℕ). signal_in n body) a.found_is
          ∙ ap (signal_in (packed_head a.signal)) (b.found_is ∙ ap packed_words same)
          ∙ packs a.signal known.small known.fits;
      seat = record {
        after_is = t.1 ∙ (λ p. (seat_of h.key st.player (b.new_is p), ap (λ (m : Mine N). m.1) first_is p));
      };
      small_index = omega (arith, next.taken_is, known.before, small);
    }

-- the seat's fields after a fetch
abbrev pub fetched_fields : {N : Type 0} → Inside N → Place N → ℕ → ℕ → Inside N
fetched_fields s place peer index = record {
  place = place;
  player = s.player;
  players = s.players;
  delays = s.delays;
  sent = s.sent;
  written = s.written;
  taken = slice_set s.taken peer (index + 1);
}

pub fetched_seat : {N C : Type 0} (kind : NodeKind C) (plain : N → C) (peer index head body : ℕ) (s : Inside N)
    (place : Place N) → (h : IsSeat kind plain s) → IsOther s peer → IsNext h.made peer index
    → HasFetched kind plain h.key s.player peer place.me h.made index head body
    → IsSeat kind plain (fetched_fields s place peer index)
fetched_seat {N = N} kind plain peer index head body s place h other next l =
    let q : Peer = fetched (peer_at h.made.peers peer) in
    let four : (script_of kind plain h.key).players ≤ 4 = h.sound.at_most_four in
    let players_are = h.players_is in
    let below = other.below in
    let wide : length h.made.peers ≡ 4 = h.placed.all_peers in
    let taken_wide : length s.taken ≡ 4 = h.wide in
    record {
      key = h.key;
      made = with_peer h.made peer q;
      me_is = l.seat.after_is;
      below = h.below;
      players_is = h.players_is;
      sound = h.sound;
      delays_are = h.delays_are;
      within = h.within;
      placed = record {
        within = h.placed.within;
        counted = h.placed.counted;
        all_peers = length-set h.made.peers peer q ∙ wide;
      };
      sent_is = h.sent_is;
      written_is = h.written_is;
      wide = length-set s.taken peer (index + 1) ∙ h.wide;
      taken_is = λ j lj.
          elim (same_or_apart j peer) [
            | inl e ↦
                ap (slice_index (slice_set s.taken peer (index + 1))) e
                ∙ get_or-set_same s.taken peer (index + 1) 0 (omega arith)
                ∙ ap (λ (n : ℕ). n + 1) next.taken_is
                ∙ sym (ap (λ (z : Peer). z.taken) (ap (peer_at (with_peer h.made peer q).peers) e
                ∙ peer_here h.made peer q (omega arith)))
            | inr n ↦
                get_or-set_other s.taken peer j (index + 1) 0 n ∙ h.taken_is j lj
                ∙ sym (ap (λ (z : Peer). z.taken) (peer_there h.made peer j q n))
          ];
    }
