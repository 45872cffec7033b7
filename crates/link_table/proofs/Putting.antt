-- What the two stores of a signal ask of the table, and what they make of the seat.
use Rattle.std.specs.Prelude.{[], ◌∷◌, true}
use Rattle.std.proofs.Common.{ℕ, suc, ◌≡◌, ◌+◌, ◌<◌, ◌^◌, refl, sym, ap, ◌∙◌, subst}
use mathlib.Core.Option.{none}
use Rattle.atomic_table.specs.Table.{Allows, step}
use Rattle.link_node.specs.declared.signal.Signal.{Signal}
use Rattle.link_node.specs.Due.{FitsWidths}
use Rattle.link_node.specs.Packing.{packed_head, packed_words}
use Rattle.link_order.specs.NodeKind.{NodeKind}
use Rattle.link_script.specs.Script.{Script, sent}
use Rattle.link_script.proofs.Scripts.{signal_is}
use Rattle.link_rule.specs.declared.view.Progress.{Progress}
use Rattle.link_rule.specs.Words.{ring_place}
use Rattle.link_rule.specs.Rule.{IsNextSignal, seat_of, holds}
use Rattle.link_rule.specs.Steps.{with_written, puts}
use Rattle.link_rule.proofs.Putting.{put_head_allowed, put_tail_allowed}
use Rattle.link_table.specs.declared.key.Key.{Key}
use Rattle.link_table.specs.declared.seat.Seat.TheInside.{Inside}
use Rattle.link_table.specs.Text.{script_of}
use Rattle.link_table.specs.Seated.{SeatState, state_of, IsSeat}
use Rattle.link_table.proofs.Seats.{Mine, Place, IsAfter, own_made, asked}

-- the signal that comes next, of the seat's fields, with nothing of it written
pub record IsPut {N C : Type 0} (kind : NodeKind C) (plain : N → C) (key : Key N) (player : ℕ) (made : Progress)
    (x : Signal) : Type 0
  where
    pub next : IsNextSignal (script_of kind plain key) player made.steps x
    pub unwritten : made.written ≡ 0
    pub clock : x.clock < 2 ^ 40
    pub widths : FitsWidths x

pub is_put : {N C : Type 0} (kind : NodeKind C) (plain : N → C) (s : Inside N) (seen : SeatState (Key N)) (x : Signal)
    → (h : IsSeat kind plain s) → state_of s ≡ seen
    → ((key : Key N) → seen.key ≡ key ∷ [] → IsNextSignal (script_of kind plain key) seen.player seen.made.steps x)
    → seen.made.written ≡ 0 → IsPut kind plain h.key s.player h.made x
is_put kind plain st seen x h is given unwritten =
    let s : Script = script_of kind plain h.key in
    let n : IsNextSignal s st.player h.made.steps x
    = asked kind plain st seen (λ k i r. IsNextSignal (script_of kind plain k) i r.steps x) h is given in
    let inside : st.player < s.players = subst (λ (n : ℕ). st.player < n) h.players_is h.below in
    let t = signal_is s h.sound st.player (sent s st.player h.made.steps) x inside n in
    record {
      next = n;
      unwritten = subst (λ (r : Progress). r.written ≡ 0) (own_made kind plain st seen h is) unwritten;
      clock = t.small;
      widths = t.fits;
    }

pub may_put_head : {N C : Type 0} (kind : NodeKind C) (plain : N → C) (table_key : Key N) (slots word value : ℕ)
    (x : Signal) (s : Inside N) → (h : IsSeat kind plain s) → IsPut kind plain h.key s.player h.made x
    → word ≡ ring_place s.player s.sent → value ≡ packed_head x
    → Allows (holds (script_of kind plain) table_key) slots s.place.id s.place.me word (λ n. value)
    (λ n. puts (step slots word value 0 none) s.place.me value)
may_put_head {N = N} kind plain table_key slots word value x s h p word_is value_is =
    let at : ℕ = ring_place s.player h.made.sent in
    let at_is : word ≡ at = word_is ∙ ap (ring_place s.player) h.sent_is in
    subst (λ (z : ℕ × ℕ). Allows (holds (script_of kind plain) table_key) slots s.place.id s.place.me z.0 (λ n. z.1)
    (λ n. puts (step slots z.0 z.1 0 none) s.place.me z.1)) (λ t. (sym at_is t, sym value_is t))
    (subst (λ (m : Mine N). Allows (holds (script_of kind plain) table_key) slots s.place.id m at (λ n. packed_head x)
    (λ n. puts (step slots at (packed_head x) 0 none) m (packed_head x))) (sym h.me_is)
    (put_head_allowed (script_of kind plain) table_key h.key slots s.place.id s.player h.made x p.next p.unwritten))

-- after the first store
pub half_put : {N C : Type 0} (kind : NodeKind C) (plain : N → C) (slots word value : ℕ) (x : Signal) (s : Inside N)
    (after : Mine N) → (h : IsSeat kind plain s) → IsPut kind plain h.key s.player h.made x
    → puts (step slots word value 0 none) s.place.me value after → IsAfter h.key s.player after (with_written h.made 1)
half_put {N = N} kind plain slots word value x s after h p told =
    let t = told h.key s.player h.made (ap (λ (m : Mine N). m.0) h.me_is) in
    let one : suc h.made.written ≡ 1 = ap suc p.unwritten in
    record {
      after_is = t.1
          ∙ (λ q. (
            seat_of h.key s.player ((t.2 ∙ ap (with_written h.made) one) q),
            ap (λ (m : Mine N). m.1) h.me_is q,
          ));
    }

pub may_put_tail : {N C : Type 0} (kind : NodeKind C) (plain : N → C) (table_key : Key N) (slots word value : ℕ)
    (x : Signal) (s : Inside N) (place : Place N) → (h : IsSeat kind plain s)
    → IsPut kind plain h.key s.player h.made x → IsAfter h.key s.player place.me (with_written h.made 1)
    → word ≡ ring_place s.player s.sent → value ≡ packed_words x
    → Allows (holds (script_of kind plain) table_key) slots place.id place.me (word + 1) (λ n. value)
    (λ n. puts (step slots (word + 1) value 0 none) place.me value)
may_put_tail {N = N} kind plain table_key slots word value x s place h p half word_is value_is =
    let at : ℕ = ring_place s.player h.made.sent + 1 in
    let at_is : word + 1 ≡ at = ap (λ (n : ℕ). n + 1) (word_is ∙ ap (ring_place s.player) h.sent_is) in
    subst (λ (z : ℕ × ℕ). Allows (holds (script_of kind plain) table_key) slots place.id place.me z.0 (λ n. z.1)
    (λ n. puts (step slots z.0 z.1 0 none) place.me z.1)) (λ t. (sym at_is t, sym value_is t))
    (subst (λ (m : Mine N). Allows (holds (script_of kind plain) table_key) slots place.id m at (λ n. packed_words x)
    (λ n. puts (step slots at (packed_words x) 0 none) m (packed_words x))) (sym half.after_is)
    (put_tail_allowed (script_of kind plain) table_key h.key slots place.id s.player (with_written h.made 1) x
    p.next refl))

-- after the second one
pub whole_put : {N C : Type 0} (kind : NodeKind C) (plain : N → C) (slots word value : ℕ) (s : Inside N)
    (first after : Mine N) → (h : IsSeat kind plain s) → IsAfter h.key s.player first (with_written h.made 1)
    → puts (step slots word value 0 none) first value after → IsAfter h.key s.player after (with_written h.made 2)
whole_put {N = N} kind plain slots word value s first after h half told =
    let t = told h.key s.player (with_written h.made 1) (ap (λ (m : Mine N). m.0) half.after_is) in
    record {
      after_is = t.1 ∙ (λ q. (seat_of h.key s.player (t.2 q), ap (λ (m : Mine N). m.1) half.after_is q));
    }

-- the seat's fields after it
abbrev pub put_fields : {N : Type 0} → Inside N → Place N → Inside N
put_fields s place = record {
  place = place;
  player = s.player;
  players = s.players;
  delays = s.delays;
  sent = s.sent;
  written = true;
  taken = s.taken;
}

pub put_seat : {N C : Type 0} (kind : NodeKind C) (plain : N → C) (s : Inside N) (place : Place N)
    → (h : IsSeat kind plain s) → IsAfter h.key s.player place.me (with_written h.made 2)
    → IsSeat kind plain (put_fields s place)
put_seat kind plain s place h after = record {
  key = h.key;
  made = with_written h.made 2;
  me_is = after.after_is;
  below = h.below;
  players_is = h.players_is;
  sound = h.sound;
  delays_are = h.delays_are;
  within = h.within;
  placed = record { within = h.placed.within; counted = h.placed.counted; all_peers = h.placed.all_peers };
  sent_is = h.sent_is;
  written_is = refl;
  wide = h.wide;
  taken_is = h.taken_is;
}
