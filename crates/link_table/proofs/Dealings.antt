-- Seats dealt out one after another.
use Rattle.std.specs.Prelude.{List, [], ◌∷◌, ◌++◌, length, Some, slice_get}
use Rattle.std.proofs.Common.{ℕ, zero, suc, ◌≡◌, ◌+◌, ◌-◌, ◌<◌, ◌≤◌, ◌⊎◌, inl, inr, arith, refl, sym, ap, ◌∙◌, subst}
use Rattle.std.proofs.lemmas.List.{length_push}
use Rattle.atomic_table.specs.Seated.{TableId}
use Rattle.link_node.specs.declared.delays.Delays.{Delays}
use Rattle.link_order.specs.NodeKind.{NodeKind}
use Rattle.link_rule.specs.Rule.{seat_of, opening_progress, first_of, others_of}
use Rattle.link_table.specs.declared.key.Key.{Key}
use Rattle.link_table.specs.Text.{script_of}
use Rattle.link_table.specs.Seated.{SeatState}
use Rattle.link_table.specs.Opening.{opening_seat, AreDealt, IsCommon, IsUndealt}
use Rattle.link_table.proofs.Seats.{Mine, Place}

-- what the loop keeps
pub record IsDealing {N C : Type 0} (kind : NodeKind C) (plain : N → C) (whole place : Place N)
    (players : ℕ) (delays : Delays) (player : ℕ) (seats : List (SeatState (Key N))) : Type 0
  where
    pub key : Key N
    pub common : IsCommon kind plain key players delays
    pub whole_is : IsUndealt kind plain key whole.me 0 players
    pub table_is : place.table_id ≡ whole.table_id
    pub undealt : IsUndealt kind plain key place.me (player - 1) (players - (player - 1))
    pub dealt : AreDealt kind plain key whole.table_id players (player - 1) seats
    pub some : 1 ≤ player
    pub most : player ≤ players

-- the first player's seat
pub undealt_first : {N C : Type 0} (kind : NodeKind C) (plain : N → C) (key : Key N) (me after : Mine N)
    (first left : ℕ) → IsUndealt kind plain key me first left → 0 < left → after ≡ (first_of me.0, me.1)
    → after ≡ (seat_of key first (opening_progress (script_of kind plain key)), [])
undealt_first kind plain key me after first zero h some e = absurd (omega arith)
undealt_first {N = N} kind plain key me after first (suc left) h some e =
    e ∙ ap (λ (m : Mine N). (first_of m.0, m.1)) h.me_is

-- and those after it
pub undealt_others : {N C : Type 0} (kind : NodeKind C) (plain : N → C) (key : Key N) (me after : Mine N)
    (first left : ℕ) → IsUndealt kind plain key me first (suc left) → after ≡ (others_of me.0, [])
    → IsUndealt kind plain key after (first + 1) left
undealt_others {N = N} kind plain key me after first left h e = record {
  me_is = e ∙ ap (λ (m : Mine N). (others_of m.0, [])) h.me_is;
}

pub undealt_last : {N C : Type 0} (kind : NodeKind C) (plain : N → C) (key : Key N) (me : Mine N) (first left : ℕ)
    → IsUndealt kind plain key me first left → left ≡ 1
    → me ≡ (seat_of key first (opening_progress (script_of kind plain key)), [])
undealt_last kind plain key me first left h one =
    let t : IsUndealt kind plain key me first 1 = subst (λ (n : ℕ). IsUndealt kind plain key me first n) one h in
    t.me_is

at_end : {X : Type 0} (l : List X) (x y : X) (k : ℕ) → slice_get (l ++ x ∷ []) k ≡ Some y
    → (slice_get l k ≡ Some y) ⊎ ((k ≡ length l) × (y ≡ x))
at_end [] x y zero e = inr (refl, cc)
at_end [] x y (suc k) e = cc
at_end (a ∷ l) x y zero e = inl e
at_end (a ∷ l) x y (suc k) e =
    elim (at_end l x y k e) [
      | inl t ↦ inl t
      | inr t ↦ inr (ap suc t.0, t.1)
    ]

-- one seat more is dealt
pub dealt_more : {N C : Type 0} (kind : NodeKind C) (plain : N → C) (key : Key N) (table : TableId)
    (players count : ℕ) (seats : List (SeatState (Key N))) (seat : SeatState (Key N))
    → AreDealt kind plain key table players count seats → seat ≡ opening_seat kind plain key table count players
    → AreDealt kind plain key table players (count + 1) (seats ++ seat ∷ [])
dealt_more {N = N} kind plain key table players count seats seat h is = record {
  count_is = length_push seats seat ∙ ap (λ (n : ℕ). n + 1) h.count_is;
  each = λ i x e.
      elim (at_end seats seat x i e) [
        | inl t ↦ h.each i x t
        | inr t ↦
            t.1 ∙ is ∙ ap (λ (n : ℕ). opening_seat kind plain key table n players) (sym (t.0 ∙ h.count_is))
      ];
}

-- the last seat, by what the loop kept
pub last_seat : {N C : Type 0} (kind : NodeKind C) (plain : N → C) (whole place : Place N) (players : ℕ)
    (delays : Delays) (player : ℕ) (seats : List (SeatState (Key N)))
    (d : IsDealing kind plain whole place players delays player seats) → players ≤ player
    → place.me ≡ (seat_of d.key (players - 1) (opening_progress (script_of kind plain d.key)), [])
last_seat {N = N} kind plain whole place players delays player seats d past =
    let some = d.some in
    let most = d.most in
    subst (λ (n : ℕ). place.me ≡ (seat_of d.key n (opening_progress (script_of kind plain d.key)), []))
    (let t : player - 1 ≡ players - 1 = omega arith in t)
    (undealt_last kind plain d.key place.me (player - 1) (players - (player - 1)) d.undealt (omega arith))

-- the whole table's seats are those of its key
pub own_key : {N C : Type 0} (kind : NodeKind C) (plain : N → C) (key other : Key N) (me : Mine N) (players : ℕ)
    → IsUndealt kind plain key me 0 players → IsUndealt kind plain other me 0 players → key ≡ other
own_key {N = N} kind plain key other me players h k =
    let both : key ∷ [] ≡ other ∷ [] = ap (λ (m : Mine N). m.0.key) (sym h.me_is ∙ k.me_is) in
    cc

-- a seat that was taken of this place
pub taken_is : {N C : Type 0} (kind : NodeKind C) (plain : N → C) (key : Key N) (table other : TableId)
    (i players : ℕ) (seat : SeatState (Key N)) → seat ≡ opening_seat kind plain key table i players → table ≡ other
    → seat ≡ opening_seat kind plain key other i players
taken_is kind plain key table other i players seat is same =
    is ∙ ap (λ (t : TableId). opening_seat kind plain key t i players) same

-- the loop goes on
pub dealing_on : {N C : Type 0} (kind : NodeKind C) (plain : N → C) (whole place split others : Place N)
    (players : ℕ) (delays : Delays) (player : ℕ) (seats : List (SeatState (Key N))) (seat : SeatState (Key N))
    (d : IsDealing kind plain whole place players delays player seats) → player < players
    → others.table_id ≡ place.table_id → others.me ≡ (others_of place.me.0, [])
    → seat ≡ opening_seat kind plain d.key whole.table_id (player - 1) players
    → IsDealing kind plain whole others players delays (player + 1) (seats ++ seat ∷ [])
dealing_on {N = N} kind plain whole place split others players delays player seats seat d less tables views seat_is =
    let some = d.some in
    let first : ℕ = player - 1 in
    let left : ℕ = players - player in
    let undealt : IsUndealt kind plain d.key place.me first (suc left)
    = subst (λ (n : ℕ). IsUndealt kind plain d.key place.me first n)
    (let t : players - (player - 1) ≡ suc left = omega arith in t) d.undealt in
    let next = undealt_others kind plain d.key place.me others.me first left undealt views in
    let place_is : first + 1 ≡ (player + 1) - 1 = omega arith in
    let left_is : left ≡ players - ((player + 1) - 1) = omega arith in
    record {
      key = d.key;
      common = d.common;
      whole_is = d.whole_is;
      table_is = tables ∙ d.table_is;
      undealt = subst (λ (z : ℕ × ℕ). IsUndealt kind plain d.key others.me z.0 z.1) (λ t. (place_is t, left_is t)) next;
      dealt = subst (λ (n : ℕ). AreDealt kind plain d.key whole.table_id players n (seats ++ seat ∷ [])) place_is
          (dealt_more kind plain d.key whole.table_id players first seats seat d.dealt seat_is);
      some = omega arith;
      most = omega arith;
    }
