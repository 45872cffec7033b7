-- What holds of a seat, from its fields to what contracts see and back.
use Rattle.std.specs.Prelude.{[], ◌∷◌}
use Rattle.std.proofs.Common.{ℕ, ◌≡◌, ◌≢◌, ◌<◌, sym, ap, ◌∙◌, subst}
use Rattle.atomic_table.specs.Seated.{TableId}
use Rattle.atomic_table.specs.Table.{Me}
use Rattle.atomic_table.specs.declared.shared.Seat.{Seat}
use Rattle.link_order.specs.NodeKind.{NodeKind}
use Rattle.link_rule.specs.declared.view.Progress.{Progress}
use Rattle.link_rule.specs.declared.view.View.{View}
use Rattle.link_rule.specs.Rule.{seat_of}
use Rattle.link_table.specs.declared.key.Key.{Key}
use Rattle.link_table.specs.declared.seat.Seat.TheInside.{Inside}
use Rattle.link_table.specs.Seated.{SeatState, with_made, first_made, state_of, IsSeat}

-- a seat's own view, and its place at the table
abbrev pub Mine : Type 0 → Type 0
Mine N = Me (Unit {0}) (View (Key N))

abbrev pub Place : Type 0 → Type 0
Place N = Seat (Unit {0}) (View (Key N))

-- the seat with its place moved on
abbrev pub moved_on : {N : Type 0} → Inside N → Place N → Inside N
moved_on s place = record {
  place = place;
  player = s.player;
  players = s.players;
  delays = s.delays;
  sent = s.sent;
  written = s.written;
  taken = s.taken;
}

-- a player's place after a step
pub record IsAfter {N : Type 0} (key : Key N) (player : ℕ) (after : Mine N) (made : Progress) : Type 0 where
  pub after_is : after ≡ (seat_of key player made, [])

-- a seat after a step, as contracts see it
pub seen_after : {N C : Type 0} (kind : NodeKind C) (plain : N → C) (s : Inside N) (place : Place N)
    (now : SeatState (Key N)) (made : Progress) → (h : IsSeat kind plain s) → state_of s ≡ now
    → place.table_id ≡ s.place.table_id → IsAfter h.key s.player place.me made
    → state_of (moved_on s place) ≡ with_made now (first_made place.me.0.records)
seen_after {N = N} kind plain s place now made h seen tables after =
    let keys : place.me.0.key ≡ s.place.me.0.key
    = ap (λ (m : Mine N). m.0.key) after.after_is ∙ sym (ap (λ (m : Mine N). m.0.key) h.me_is) in
    subst (λ (z : SeatState (Key N)). state_of (moved_on s place) ≡ with_made z (first_made place.me.0.records)) seen
    (λ p. record {
      table = tables p;
      key = keys p;
      player = s.player;
      players = s.players;
      made = first_made place.me.0.records;
    })

-- the same with the progress itself
pub seen_made : {N C : Type 0} (kind : NodeKind C) (plain : N → C) (s : Inside N) (place : Place N)
    (now : SeatState (Key N)) (made : Progress) → (h : IsSeat kind plain s) → state_of s ≡ now
    → place.table_id ≡ s.place.table_id → IsAfter h.key s.player place.me made
    → state_of (moved_on s place) ≡ with_made now made
seen_made {N = N} kind plain s place now made h seen tables after =
    seen_after kind plain s place now made h seen tables after
    ∙ ap (with_made now) (ap (λ (m : Mine N). first_made m.0.records) after.after_is)

-- the progress that contracts see
pub own_made : {N C : Type 0} (kind : NodeKind C) (plain : N → C) (s : Inside N) (now : SeatState (Key N))
    → (h : IsSeat kind plain s) → state_of s ≡ now → now.made ≡ h.made
own_made {N = N} kind plain s now h seen =
    sym (ap (λ (z : SeatState (Key N)). z.made) seen) ∙ ap (λ (m : Mine N). first_made m.0.records) h.me_is

-- what is known of a seat's fields, as contracts say it
pub said : {N C : Type 0} (kind : NodeKind C) (plain : N → C) (s : Inside N) (after : Mine N) (now : SeatState (Key N))
    (made : Progress) (P : Key N → ℕ → Progress → Progress → Type 0) → (h : IsSeat kind plain s) → state_of s ≡ now
    → IsAfter h.key s.player after made → P h.key s.player h.made made → (key : Key N) → now.key ≡ key ∷ []
    → P key now.player now.made (first_made after.0.records)
said {N = N} kind plain s after now made P h seen new told key keys =
    let own : h.key ∷ [] ≡ key ∷ []
    = sym (ap (λ (m : Mine N). m.0.key) h.me_is) ∙ ap (λ (z : SeatState (Key N)). z.key) seen ∙ keys in
    let same : h.key ≡ key = cc in
    let player_is : s.player ≡ now.player = ap (λ (z : SeatState (Key N)). z.player) seen in
    let old : h.made ≡ now.made
    = sym (ap (λ (m : Mine N). first_made m.0.records) h.me_is) ∙ ap (λ (z : SeatState (Key N)). z.made) seen in
    let made_is : made ≡ first_made after.0.records = sym (ap (λ (m : Mine N). first_made m.0.records) new.after_is) in
    subst (λ (z : Key N × ℕ × Progress × Progress). P z.0 z.1 z.2 z.3)
    (λ p. (same p, player_is p, old p, made_is p)) told

-- what is asked of a seat as contracts see it, of its fields
pub asked : {N C : Type 0} (kind : NodeKind C) (plain : N → C) (s : Inside N) (now : SeatState (Key N))
    (P : Key N → ℕ → Progress → Type 0) → (h : IsSeat kind plain s) → state_of s ≡ now
    → ((key : Key N) → now.key ≡ key ∷ [] → P key now.player now.made) → P h.key s.player h.made
asked {N = N} kind plain s now P h seen given =
    let keys : now.key ≡ h.key ∷ []
    = sym (ap (λ (z : SeatState (Key N)). z.key) seen) ∙ ap (λ (m : Mine N). m.0.key) h.me_is in
    let player_is : now.player ≡ s.player = sym (ap (λ (z : SeatState (Key N)). z.player) seen) in
    let old : now.made ≡ h.made
    = sym (ap (λ (z : SeatState (Key N)). z.made) seen) ∙ ap (λ (m : Mine N). first_made m.0.records) h.me_is in
    subst (λ (z : ℕ × Progress). P h.key z.0 z.1) (λ p. (player_is p, old p)) (given h.key keys)

-- another player, as the fields have it
pub record IsOther {N : Type 0} (s : Inside N) (peer : ℕ) : Type 0 where
  pub below : peer < s.players
  pub apart : peer ≢ s.player

pub is_other : {N : Type 0} (s : Inside N) (now : SeatState (Key N)) (peer : ℕ) → state_of s ≡ now → peer < now.players
    → peer ≢ now.player → IsOther s peer
is_other {N = N} s now peer seen below apart = record {
  below = subst (λ (n : ℕ). peer < n) (sym (ap (λ (z : SeatState (Key N)). z.players) seen)) below;
  apart = subst (λ (n : ℕ). peer ≢ n) (sym (ap (λ (z : SeatState (Key N)). z.player) seen)) apart;
}

pub own_table : {N : Type 0} (s : Inside N) (now : SeatState (Key N)) (other shared : TableId) → state_of s ≡ now
    → other ≡ shared → now.table ≡ shared → s.place.table_id ≡ other
own_table {N = N} s now other shared seen is tables = ap (λ (z : SeatState (Key N)). z.table) seen ∙ tables ∙ sym is

-- a seat whose view didn't change
pub still_seat : {N C : Type 0} (kind : NodeKind C) (plain : N → C) (s : Inside N) (place : Place N)
    → IsSeat kind plain s → place.me ≡ s.place.me → IsSeat kind plain (moved_on s place)
still_seat kind plain s place h same = record {
  key = h.key;
  made = h.made;
  me_is = same ∙ h.me_is;
  below = h.below;
  players_is = h.players_is;
  sound = h.sound;
  delays_are = h.delays_are;
  within = h.within;
  placed = h.placed;
  sent_is = h.sent_is;
  written_is = h.written_is;
  wide = h.wide;
  taken_is = h.taken_is;
}
