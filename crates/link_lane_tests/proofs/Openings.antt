-- The lanes of a new table.
use Rattle.std.specs.Prelude.{List, [], ◌∷◌, ◌++◌, length, map, Some, All, slice_get, slice_index, nat_lt}
use Rattle.std.proofs.Common.{ℕ, zero, suc, ◌≡◌, ◌+◌, ◌<◌, ◌≤◌, inl, inr, arith, refl, sym, ap, ◌∙◌, subst, get_or, drop}
use Rattle.std.proofs.lemmas.List.{length-map, length-append}
use Rattle.std.proofs.lemmas.List.Elements.{All-append}
use Rattle.atomic_table.specs.Seated.{TableId}
use Rattle.link_order.specs.declared.sent.Sent.{Sent}
use Rattle.link_order.specs.NodeKind.{NodeKind}
use Rattle.link_order.specs.Order.{from}
use Rattle.link_order.specs.Due.{waiting}
use Rattle.link_order.specs.Cut.{Cut, hop, count, plain_cut, IsSound, IsCable}
use Rattle.link_order.proofs.Numbers.{same_or_apart}
use Rattle.link_order.proofs.Lists.{all_cons, all_nil}
use Rattle.link_order.proofs.DueSignals.{due_own, due_other}
use Rattle.link_laws.proofs.Advance.{number_found}
use Rattle.link_table.specs.declared.key.Key.{Key}
use Rattle.link_table.specs.Seated.{SeatState}
use Rattle.link_table.specs.Opening.{opening_seat, Begins}
use Rattle.link_table.proofs.Openings.{read_map}
use Rattle.link_lane.specs.Following.{LaneState, key_cut, Opens}
use Rattle.link_lane_tests.specs.Going.{MayGo}

-- the first of a list from a place on
pub first_there : {X : Type 0} (xs : List X) (k : ℕ) (x : X) → k < length xs → x ≡ get_or (drop k xs) 0 x
    → slice_get xs k ≡ Some x
first_there [] k x below is = absurd (omega arith)
first_there (y ∷ ys) zero x below is = ap Some (sym is)
first_there (y ∷ ys) (suc k) x below is = first_there ys k x (omega arith) is

pub drop_one : {X : Type 0} (xs : List X) (k : ℕ) → drop 1 (drop k xs) ≡ drop (suc k) xs
drop_one [] zero = refl
drop_one [] (suc k) = refl
drop_one (x ∷ xs) zero = refl
drop_one (x ∷ xs) (suc k) = drop_one xs k

nothing_waits : (between : ℕ → ℕ → ℕ) (i was n : ℕ) → waiting between (λ (j : ℕ). from j []) i was n ≡ []
nothing_waits between i was zero = refl
nothing_waits between i was (suc j) =
    let ih = nothing_waits between i was j in
    elim (same_or_apart j i) [
      | inl e ↦
          let own : waiting between (λ (j : ℕ). from j []) i was (suc j)
          ≡ waiting between (λ (j : ℕ). from j []) i was j
          = rw e (due_own between (λ (j : ℕ). from j []) i (nat_lt was)) in
          own ∙ ih
      | inr e ↦ due_other between (λ (j : ℕ). from j []) i (nat_lt was) j e ∙ ih
    ]

-- a node and its seat as a new table gives them
pub record ArePaired {N C : Type 0} (kind : NodeKind C) (plain : N → C) (bound : N → ℕ) (cut : Cut N) (table : TableId)
    (seats : List (SeatState (Key N))) (until player : ℕ) (node : N) (seat : SeatState (Key N)) : Type 0
  where
    pub opens : Opens kind plain bound node seat []
    pub may_go : (lane : LaneState N) → lane.seat ≡ seat → MayGo table until lane

pub are_paired : {N C : Type 0} (kind : NodeKind C) (plain : N → C) (bound : N → ℕ) (cut : Cut N) (table : TableId)
    (seats : List (SeatState (Key N))) (until player : ℕ) (node : N) (seat : SeatState (Key N))
    → Begins kind plain bound cut table seats → IsCable (plain_cut plain cut) → IsSound kind (plain_cut plain cut)
    → cut.sent ≡ [] → All (λ (n : N). until ≤ bound n) cut.consoles → player < length cut.consoles
    → node ≡ get_or (drop player cut.consoles) 0 node → seat ≡ get_or (drop player seats) 0 seat
    → ArePaired kind plain bound cut table seats until player node seat
are_paired {N = N} {C = C} kind plain bound cut table seats until player node seat b cable sound empty limits below
    at there_too =
    let key : Key N = b.key in
    let n : ℕ = length cut.consoles in
    let cuts : key.cut.value ≡ cut = b.cut_is in
    let there : slice_get cut.consoles player ≡ Some node = first_there cut.consoles player node below at in
    let total : length seats ≡ n = b.dealt.count_is in
    let seated : slice_get seats player ≡ Some seat = first_there seats player seat (omega arith) there_too in
    let is : seat ≡ opening_seat kind plain key table player n = b.dealt.each player seat seated in
    let table_is : seat.table ≡ table = ap (λ (z : SeatState (Key N)). z.table) is in
    let player_is : seat.player ≡ player = ap (λ (z : SeatState (Key N)). z.player) is in
    let key_is : seat.key ≡ key ∷ [] = ap (λ (z : SeatState (Key N)). z.key) is in
    let consoles : n ≡ length key.cut.value.consoles = ap (λ (d : Cut N). length d.consoles) (sym cuts) in
    let mine : slice_get key.cut.value.consoles seat.player ≡ Some node
    = ap (λ (d : Cut N). slice_get d.consoles seat.player) cuts
    ∙ ap (λ (i : ℕ). slice_get cut.consoles i) player_is ∙ there in
    let low : key.limit ≤ slice_index (map bound cut.consoles) player
    = b.limit_is.none_below player (let t : length (map bound cut.consoles) ≡ n = length-map cut.consoles bound in
    omega arith) in
    let own : slice_index (map bound cut.consoles) player ≡ bound node =
    number_found bound cut.consoles player node there in
    let place : ℕ = b.limit_is.place in
    let within : place < length (map bound cut.consoles) = b.limit_is.within in
    let lengths : length (map bound cut.consoles) ≡ n = length-map cut.consoles bound in
    let one_of : slice_index (map bound cut.consoles) place ≡ key.limit = b.limit_is.one_of in
    let least : until ≤ key.limit
    = subst (λ (z : ℕ). until ≤ z) (sym (read_map bound cut.consoles place node (omega arith)) ∙ one_of)
    (limits place node (omega arith)) in
    let sent : key.cut.value.sent ≡ [] = ap (λ (d : Cut N). d.sent) cuts ∙ empty in
    record {
      opens = record {
        key = key;
        seat_is =
            is ∙ ap (λ (t : TableId). opening_seat kind plain key t player n) (sym table_is)
            ∙ ap (λ (i : ℕ). opening_seat kind plain key seat.table i n) (sym player_is)
            ∙ ap (opening_seat kind plain key seat.table seat.player) consoles;
        node_is = mine;
        cable = subst (λ (d : Cut N). IsCable (plain_cut plain d)) (sym cuts) cable;
        sound = subst (λ (d : Cut N). IsSound kind (plain_cut plain d)) (sym cuts) sound;
        script = b.sound;
        limit = omega arith;
        small_limit = b.small_limit;
        opening_is =
            sym (ap (λ (l : List Sent). waiting (hop (key_cut plain key)) (λ (j : ℕ). from j l) seat.player
            (kind.was (plain node)) (count (key_cut plain key))) sent
            ∙ nothing_waits (hop (key_cut plain key)) seat.player (kind.was (plain node)) (count (key_cut plain key)));
      };
      may_go = λ lane same. record {
        table_is = ap (λ (z : SeatState (Key N)). z.table) same ∙ table_is;
        limit = λ other keys.
            let both : key ∷ [] ≡ other ∷ [] = sym key_is ∙ ap (λ (z : SeatState (Key N)). z.key) (sym same) ∙ keys in
            let one : key ≡ other = cc in
            subst (λ (k : Key N). until ≤ k.limit) one least;
      };
    }

-- what is left of a list after one more was taken from its front, and one lane more
pub left_on : {X : Type 0} (all left new : List X) (k : ℕ) → left ≡ drop k all → new ≡ drop 1 left
    → new ≡ drop (k + 1) all
left_on all left new k is next =
    next ∙ ap (drop 1) is ∙ drop_one all k ∙ ap (λ (n : ℕ). drop n all) (let e : suc k ≡ k + 1 = omega arith in e)

pub kept_on : {X : Type 0} (P : X → Type 0) (old new : List X) (x : X) → new ≡ old ++ x ∷ [] → All P old → P x
    → All P new
kept_on P old new x is h here =
    subst (All P) (sym is) (All-append P old (x ∷ []) h (all_cons P x [] here (all_nil P)))

pub counted_on : {X : Type 0} (old new : List X) (x : X) (n : ℕ) → new ≡ old ++ x ∷ [] → length old ≡ n
    → length new ≡ n + 1
counted_on old new x n is count =
    ap length is ∙ length-append old (x ∷ []) ∙ ap (λ (k : ℕ). k + 1) count
