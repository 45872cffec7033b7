-- What a look asks of the table, and what it makes of the seat.
use Rattle.std.specs.Prelude.{[], length, slice_index}
use Rattle.std.proofs.Common.{ℕ, ◌≡◌, ◌+◌, ◌-◌, ◌/◌, ◌%◌, ◌<◌, ◌≤◌, ◌^◌, arith, sym, ap, ◌∙◌, subst, inl, inr}
use Rattle.std.proofs.lemmas.List.{length-set}
use mathlib.Core.Option.{none}
use Rattle.atomic_table.specs.Table.{Allows, step}
use Rattle.link_order.specs.NodeKind.{NodeKind}
use Rattle.link_order.proofs.Numbers.{same_or_apart}
use Rattle.link_script.specs.Script.{Script}
use Rattle.link_rule.specs.declared.view.Peer.{Peer}
use Rattle.link_rule.specs.declared.view.Progress.{Progress}
use Rattle.link_rule.specs.Words.{clock_place, count_of}
use Rattle.link_rule.specs.Rule.{peer_at, seat_of, holds}
use Rattle.link_rule.specs.Steps.{with_peer, looked, Looks, LooksAt, looks}
use Rattle.link_rule.proofs.Looking.{look_allowed, peer_here, peer_there}
use Rattle.link_rule.proofs.Decoding.{clock_part, count_part, whole_count}
use Rattle.link_table.specs.declared.key.Key.{Key}
use Rattle.link_table.specs.declared.seat.Seat.TheInside.{Inside}
use Rattle.link_table.specs.Text.{script_of}
use Rattle.link_table.specs.Seated.{IsSeat}
use Rattle.link_table.proofs.Seats.{Mine, Place, moved_on, IsAfter, IsOther}

-- the load is allowed
pub may_look : {N C : Type 0} (kind : NodeKind C) (plain : N → C) (table_key : Key N) (slots word peer : ℕ)
    (s : Inside N) → IsSeat kind plain s → IsOther s peer → word ≡ clock_place peer
    → Allows (holds (script_of kind plain) table_key) slots s.place.id s.place.me word (λ n. n)
    (looks (script_of kind plain) (step slots word 0 0 none) s.place.me)
may_look {N = N} kind plain table_key slots word peer s h other word_is =
    subst (λ (w : ℕ). Allows (holds (script_of kind plain) table_key) slots s.place.id s.place.me w (λ n. n)
    (looks (script_of kind plain) (step slots w 0 0 none) s.place.me)) (sym word_is)
    (subst (λ (m : Mine N). Allows (holds (script_of kind plain) table_key) slots s.place.id m
    (clock_place peer) (λ n. n) (looks (script_of kind plain) (step slots (clock_place peer) 0 0 none) m)) (sym h.me_is)
    (look_allowed (script_of kind plain) table_key h.key slots s.place.id s.player peer h.made
    (subst (λ (n : ℕ). peer < n) h.players_is other.below) other.apart))

-- what the seat has learnt
pub record HasLooked {N C : Type 0} (kind : NodeKind C) (plain : N → C) (key : Key N) (player peer : ℕ) (after : Mine N)
    (old : Progress) (clock count : ℕ) : Type 0
  where
    pub made : Progress
    pub seat : IsAfter key player after made
    pub looks : Looks (script_of kind plain key) player peer old clock count made

pub has_looked : {N C : Type 0} (kind : NodeKind C) (plain : N → C) (slots word peer value : ℕ) (s : Inside N)
    (after : Mine N) → (h : IsSeat kind plain s) → IsOther s peer → word ≡ clock_place peer
    → looks (script_of kind plain) (step slots word 0 0 none) s.place.me value after
    → HasLooked kind plain h.key s.player peer after h.made (value % 2 ^ 40) (count_of value (slice_index s.taken peer))
has_looked {N = N} kind plain slots word peer value st after h other word_is told =
    let s : Script = script_of kind plain h.key in
    let four : s.players ≤ 4 = h.sound.at_most_four in
    let inside : peer < s.players = subst (λ (n : ℕ). peer < n) h.players_is other.below in
    let t = told h.key st.player peer h.made (ap (λ (m : Mine N). m.0) h.me_is) word_is inside other.apart in
    let l : LooksAt s st.player peer h.made value t.0 = t.2 in
    let taken_is : slice_index st.taken peer ≡ (peer_at h.made.peers peer).taken = h.taken_is peer (omega arith) in
    let clock_is : l.clock ≡ value % 2 ^ 40
    = sym (clock_part l.clock l.count l.looks.small_clock) ∙ ap (λ (n : ℕ). n % 2 ^ 40) (sym l.found_is) in
    let low_is : value / 2 ^ 40 ≡ l.count % 2 ^ 24
    = ap (λ (n : ℕ). n / 2 ^ 40) l.found_is ∙ count_part l.clock l.count l.looks.small_clock in
    let p : Peer = peer_at h.made.peers peer in
    let count_is : l.count ≡ count_of value (slice_index st.taken peer)
    = sym (whole_count p.taken l.count l.looks.got l.looks.unread)
    ∙ ap (λ (n : ℕ). p.taken + (n + 2 ^ 24 - p.taken % 2 ^ 24) % 2 ^ 24) (sym low_is)
    ∙ ap (count_of value) (sym taken_is) in
    record {
      made = t.0;
      seat = record { after_is = t.1 ∙ ap (λ (m : Mine N). (seat_of h.key st.player t.0, m.1)) h.me_is };
      looks = subst (λ (z : ℕ × ℕ). Looks s st.player peer h.made z.0 z.1 t.0) (λ p. (clock_is p, count_is p)) l.looks;
    }

-- it is a seat again
pub looked_seat : {N C : Type 0} (kind : NodeKind C) (plain : N → C) (peer clock count : ℕ) (s : Inside N)
    (place : Place N) → (h : IsSeat kind plain s) → IsOther s peer
    → HasLooked kind plain h.key s.player peer place.me h.made clock count
    → IsSeat kind plain (moved_on s place)
looked_seat {N = N} kind plain peer clock count s place h other l =
    let q : Peer = looked (peer_at h.made.peers peer) clock count in
    let made_is : l.made ≡ with_peer h.made peer q = l.looks.new_is in
    let four : (script_of kind plain h.key).players ≤ 4 = h.sound.at_most_four in
    let players_are = h.players_is in
    let below = other.below in
    let wide : length h.made.peers ≡ 4 = h.placed.all_peers in
    record {
      key = h.key;
      made = with_peer h.made peer q;
      me_is = l.seat.after_is ∙ ap (λ (r : Progress). (seat_of h.key s.player r, [])) made_is;
      below = h.below;
      players_is = h.players_is;
      sound = h.sound;
      delays_are = h.delays_are;
      within = h.within;
      placed = record {
        within = h.placed.within;
        counted = h.placed.counted;
        all_peers = length-set h.made.peers peer q ∙ wide;
      };
      sent_is = h.sent_is;
      written_is = h.written_is;
      wide = h.wide;
      taken_is = λ j lj.
          elim (same_or_apart j peer) [
            | inl e ↦
                h.taken_is j lj ∙ ap (λ (n : ℕ). (peer_at h.made.peers n).taken) e
                ∙ sym (ap (λ (z : Peer). z.taken) (ap (peer_at (with_peer h.made peer q).peers) e
                ∙ peer_here h.made peer q (omega arith)))
            | inr n ↦ h.taken_is j lj ∙ sym (ap (λ (z : Peer). z.taken) (peer_there h.made peer j q n))
          ];
    }
