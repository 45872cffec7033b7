-- Seats joined one after another.
use Rattle.std.specs.Prelude.{List, [], ◌∷◌, ◌++◌, length, map, Some, slice_get, slice_index, remove}
use Rattle.std.proofs.Common.{ℕ, suc, ◌≡◌, ◌≢◌, ◌+◌, ◌*◌, ◌<◌, inl, inr, arith, refl, sym, ap, ◌∙◌, get_or}
use Rattle.std.proofs.Common.{append_assoc}
use Rattle.std.proofs.lemmas.List.{append-nil, length_push}
use Rattle.std.proofs.lemmas.Option.{get_or_from_slice_get}
use Rattle.atomic_table.specs.Seated.{TableId}
use Rattle.link_order.specs.NodeKind.{NodeKind}
use Rattle.link_order.proofs.Numbers.{same_or_apart}
use Rattle.link_script.specs.Script.{IsSoundScript}
use Rattle.link_rule.specs.declared.view.Peer.{Peer}
use Rattle.link_rule.specs.declared.view.Progress.{Progress}
use Rattle.link_rule.specs.Rule.{peer_at, seat_of, joined}
use Rattle.link_table.specs.declared.key.Key.{Key}
use Rattle.link_table.specs.Text.{script_of}
use Rattle.link_table.specs.Seated.{SeatState}
use Rattle.link_table.specs.Uniting.{IsPlaceOf, MayMeet, made_of, pair_place, AreTaken, IsUnited}
use Rattle.link_table.proofs.Seats.{Mine, Place}

-- the numbers of one seat, up to player j, beside those before it
pub record KeepsTaken (old new : List ℕ) (peers : List Peer) (i j : ℕ) : Type 0 where
  pub own : (k : ℕ) → k < j → slice_index new (pair_place i k) ≡ (peer_at peers k).taken
  pub others : (k : ℕ) → k < 4 * i → slice_index new k ≡ slice_index old k

-- the numbers of one seat more
pub taken_more : {K : Type 0} (seats : List (SeatState K)) (seat : SeatState K) (old new : List ℕ) (i : ℕ)
    → i < length seats → seat ≡ get_or seats i seat
    → ((j : ℕ) → j < 4 → slice_index new (pair_place i j) ≡ (peer_at seat.made.peers j).taken)
    → ((k : ℕ) → k < 4 * i → slice_index new k ≡ slice_index old k) → AreTaken seats old i → AreTaken seats new (i + 1)
taken_more {K = K} seats seat old new i inside is own others h a j x there below few =
    elim (same_or_apart a i) [
      | inl e ↦
          let same : get_or seats i seat ≡ x
          = get_or_from_slice_get seats i x seat (ap (slice_get seats) (sym e) ∙ there) in
          ap (λ (n : ℕ). slice_index new (pair_place n j)) e ∙ own j few
          ∙ ap (λ (z : SeatState K). (peer_at z.made.peers j).taken) (is ∙ same)
      | inr n ↦
          let less : a < i = (let b : a ≢ i = n in omega arith) in
          others (pair_place a j) (omega arith) ∙ h a j x there less few
    ]

-- what the loop keeps: the players joined so far, and the seats that come after them
pub record IsUniting {N C : Type 0} (kind : NodeKind C) (plain : N → C) (shared : TableId)
    (all : List (SeatState (Key N))) (place : Place N) (rest : List (SeatState (Key N))) : Type 0
  where
    pub key : Key N
    pub made : List Progress
    pub key_is : (seat : SeatState (Key N)) → slice_get all 0 ≡ Some seat → seat.key ≡ key ∷ []
    pub table_is : place.table_id ≡ shared
    pub me_is : place.me ≡ (record { key = key ∷ []; first = 0; records = made }, [])
    pub some : 0 < length made
    pub parts : made ++ map made_of rest ≡ map made_of all
    pub each : (q : ℕ) (seat : SeatState (Key N)) → slice_get rest q ≡ Some seat
        → (seat.table ≡ shared) × (seat.player ≡ length made + q)
    pub count_is : length all ≡ (script_of kind plain key).players
    pub sound : IsSoundScript (script_of kind plain key)

pub uniting_first : {N C : Type 0} (kind : NodeKind C) (plain : N → C) (shared : TableId)
    (all : List (SeatState (Key N))) (first : SeatState (Key N)) (place : Place N) → MayMeet shared all
    → first ≡ get_or all 0 first → IsPlaceOf kind plain first place.table_id place.me
    → IsUniting kind plain shared all place (remove all 0)
uniting_first kind plain shared [] first place may is h = absurd (let a : 0 < 0 = may.some_seat in omega arith)
uniting_first {N = N} kind plain shared (x ∷ xs) first place may is h =
    let one = may.each 0 x refl in
    let number : first.player ≡ 0 = ap (λ (z : SeatState (Key N)). z.player) is ∙ one.1 in
    record {
      key = h.key;
      made = first.made ∷ [];
      key_is = λ seat there.
          let same : x ≡ seat = cc in
          ap (λ (z : SeatState (Key N)). z.key) (sym same ∙ sym is) ∙ h.key_is;
      table_is = h.table_is ∙ ap (λ (z : SeatState (Key N)). z.table) is ∙ one.0;
      me_is = h.me_is ∙ ap (λ (n : ℕ). (seat_of h.key n first.made, [])) number;
      some = omega arith;
      parts = ap (λ (z : SeatState (Key N)). z.made ∷ map made_of xs) is;
      each = λ q seat there. let t = may.each (suc q) seat there in (t.0, t.1 ∙ omega arith);
      count_is = sym one.2 ∙ ap (λ (z : SeatState (Key N)). z.players) (sym is) ∙ h.players_is;
      sound = h.sound;
    }

-- the next seat may be joined
pub record Follows {N : Type 0} (place next : Place N) (shared : TableId) : Type 0 where
  pub own_table : place.table_id ≡ shared
  pub table_is : next.table_id ≡ shared
  pub empty : next.me.1 ≡ []
  pub some : 0 < length place.me.0.records
  pub after : next.me.0.first ≡ place.me.0.first + length place.me.0.records

pub follows : {N C : Type 0} (kind : NodeKind C) (plain : N → C) (shared : TableId) (all : List (SeatState (Key N)))
    (place next : Place N) (rest : List (SeatState (Key N))) (seat : SeatState (Key N))
    → IsUniting kind plain shared all place rest → 0 < length rest → seat ≡ get_or rest 0 seat
    → IsPlaceOf kind plain seat next.table_id next.me → Follows place next shared
follows {N = N} kind plain shared all place next [] seat u some is h = absurd (omega arith)
follows {N = N} kind plain shared all place next (x ∷ xs) seat u some is h =
    let one = u.each 0 x refl in
    let number : seat.player ≡ length u.made + 0 = ap (λ (z : SeatState (Key N)). z.player) is ∙ one.1 in
    let count : length place.me.0.records ≡ length u.made = ap (λ (m : Mine N). length m.0.records) u.me_is in
    let first : place.me.0.first ≡ 0 = ap (λ (m : Mine N). m.0.first) u.me_is in
    let next_first : next.me.0.first ≡ seat.player = ap (λ (m : Mine N). m.0.first) h.me_is in
    record {
      own_table = u.table_is;
      table_is = h.table_is ∙ ap (λ (z : SeatState (Key N)). z.table) is ∙ one.0;
      empty = ap (λ (m : Mine N). m.1) h.me_is;
      some = omega (arith, u.some);
      after = omega arith;
    }

pub uniting_next : {N C : Type 0} (kind : NodeKind C) (plain : N → C) (shared : TableId)
    (all : List (SeatState (Key N))) (place next after : Place N) (rest : List (SeatState (Key N)))
    (seat : SeatState (Key N)) → IsUniting kind plain shared all place rest → 0 < length rest
    → seat ≡ get_or rest 0 seat → IsPlaceOf kind plain seat next.table_id next.me
    → after.table_id ≡ place.table_id → after.me ≡ (joined place.me.0 next.me.0, place.me.1)
    → IsUniting kind plain shared all after (remove rest 0)
uniting_next {N = N} kind plain shared all place next after [] seat u some is h tables views = absurd (omega arith)
uniting_next {N = N} kind plain shared all place next after (x ∷ xs) seat u some is h tables views =
    let long : length (u.made ++ seat.made ∷ []) ≡ length u.made + 1 = length_push u.made seat.made in
    record {
      key = u.key;
      made = u.made ++ seat.made ∷ [];
      key_is = u.key_is;
      table_is = tables ∙ u.table_is;
      me_is = views
          ∙ ap (λ (m : Mine N). (joined m.0 next.me.0, m.1)) u.me_is
          ∙ ap (λ (m : Mine N). (record { key = u.key ∷ []; first = 0; records = u.made ++ m.0.records }, [])) h.me_is;
      some = omega arith;
      parts = append_assoc u.made (seat.made ∷ []) (map made_of xs)
          ∙ ap (λ (z : SeatState (Key N)). u.made ++ z.made ∷ map made_of xs) is ∙ u.parts;
      each = λ q z there. let t = u.each (suc q) z there in (t.0, t.1 ∙ omega arith);
      count_is = u.count_is;
      sound = u.sound;
    }

-- all are joined
pub united : {N C : Type 0} (kind : NodeKind C) (plain : N → C) (shared : TableId) (all : List (SeatState (Key N)))
    (place : Place N) (rest : List (SeatState (Key N))) → IsUniting kind plain shared all place rest → rest ≡ []
    → IsUnited kind plain shared all place.table_id place.me
united {N = N} kind plain shared all place rest u none =
    let made_is : u.made ≡ map made_of all
    = sym (append-nil u.made) ∙ ap (λ (l : List (SeatState (Key N))). u.made ++ map made_of l) (sym none) ∙ u.parts in
    record {
      key = u.key;
      key_is = u.key_is;
      table_is = u.table_is;
      me_is = u.me_is ∙ ap (λ (l : List Progress). (record { key = u.key ∷ []; first = 0; records = l }, [])) made_is;
      count_is = u.count_is;
      sound = u.sound;
    }
